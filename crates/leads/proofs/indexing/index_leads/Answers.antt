-- `index_leads` makes the index of the leading words. The invariant: the pairs and the rows of the first g words are done.
use mathlib.Core.Path.{◌≡◌, ◌∙◌}
use Prim.Native.Nat.{◌+◌, ◌*◌}
use native.Mathlib.Omega.{arith}
use Rattle.table.specs.Table.{gens_in, basis_count_in}
use Rattle.leads.specs.LeadCodes.{lead_codes_in}
use Rattle.leads.proofs.CodeMarks.{codes_blank, pairs_more, codes-done}
use Rattle.leads.proofs.TableLeads.{lead-codes-length, lead-read, term-inside, leads_indexable}
use borrow.Author.Rules.{rules}
use Rattle.leads.proofs.indexing.index_leads.Goals as goal

pub overflow_add-base : goal.overflow_add-base
overflow_add-base c =
    let b = c.requires.tabled.gens in
    search rules

pub loop-g-init : goal.loop-g-init
loop-g-init c = (c.basis_in-n.ensures, search rules, codes_blank c.requires.code_blank)

pub size_in-m-requires : goal.size_in-m-requires
size_in-m-requires c =
    let m = c.loop-g in
    let h = c.requires.tabled in
    let i = term-inside c.args.t.now m.g _ _ 0 m.invariant.1 c.first_in-i.ensures h (omega arith) in
    let k = h.terms in
    omega arith

pub mark_pairs-requires : goal.mark_pairs-requires
mark_pairs-requires c =
    let m = c.loop-g in
    let h = c.requires.tabled in
    let i = term-inside c.args.t.now m.g _ _ 0 m.invariant.1 c.first_in-i.ensures h (omega arith) in
    let k = h.terms in
    let s = h.short _ i in
    let e = c.size_in-m.ensures in
    record {
      i_bound = (omega arith, rw e s);
      index_len = m.invariant.2.room;
    }

pub mark_rows-requires : goal.mark_rows-requires
mark_rows-requires c =
    let m = c.loop-g in
    let h = c.requires.tabled in
    let i = term-inside c.args.t.now m.g _ _ 0 m.invariant.1 c.first_in-i.ensures h (omega arith) in
    let k = h.terms in
    let b = h.basis in
    let s = h.short _ i in
    record {
      i_bound = (omega arith, rw c.size_in-m.ensures s, omega arith);
      index_len = c.mark_pairs.ensures.room ∙ m.invariant.2.room;
    }

pub loop-g-preserved : goal.loop-g-preserved
loop-g-preserved c =
    let m = c.loop-g in
    let t = c.args.t.now in
    let g = m.g in
    let w = lead-read t g _ _ _ m.invariant.1 c.first_in-i.ensures c.size_in-m.ensures (omega arith) in
    let e : g * 25 + 25 ≡ (g + 1) * 25 = omega arith in
    let p = pairs_more g (g * 25) w c.mark_pairs.ensures m.invariant.2 in
    (m.invariant.0, m.invariant.1, rw e at (c.mark_rows.ensures.code_rows_done (lead_codes_in t) (g + 1) w p))

pub returns : goal.returns
returns c =
    let m = c.loop-g in
    let t = c.args.t.now in
    let e = lead-codes-length t (gens_in t + 1) (basis_count_in t) in
    codes-done m.g (omega (arith, m.invariant.0, m.invariant.1, c.loop-g-test.false, e)) (leads_indexable t c.requires.tabled) m.invariant.2
