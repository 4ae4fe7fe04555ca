-- `lead_word` copies two blocks of the table, and puts zeros behind them.
use mathlib.Core.Path.{sym, ap, ◌∙◌}
use mathlib.Core.List.{List, ◌++◌}
use Prim.Native.Nat.{ℕ, suc, ◌+◌}
use native.Mathlib.Omega.{arith}
use lib.ListN.{replicate}
use Rattle.tablesums.proofs.CutFactors.{two_entries, LeadFound, lead-found, lead-packed}
use Rattle.tablesums.proofs.factors.lead_word.Goals as goal

-- the term that the code finds
found : (x : goal.After-first_in-i) → LeadFound x.args.t.now (suc x.args.g) x.first_in-i.result
found x =
    let e = x.gens_in.ensures in
    lead-found x.args.t.now x.requires.0 (suc x.args.g) x.first_in-i.result (x.gens_in.result + 1 + x.args.g) x.first_in-i.ensures (omega arith) (omega arith) x.requires.1

pub word_at-at-requires : goal.word_at-at-requires
word_at-at-requires c = omega (arith, (found c).inside, c.requires.0.terms)

pub size_in-word-requires : goal.size_in-word-requires
size_in-word-requires c =
    let e = c.gens_in.ensures in
    let l = lead-found c.args.t.now c.requires.0 (suc c.args.g) c.first_in-i.result (c.gens_in.result + 1 + c.args.g) c.first_in-i.ensures (omega arith) (omega arith) c.requires.1 in
    omega (arith, l.inside, c.requires.0.terms)

pub returns : goal.returns
returns c =
    let e = c.gens_in.ensures in
    let t = c.args.t.now in
    let l = lead-found t c.requires.0 (suc c.args.g) c.first_in-i.result (c.gens_in.result + 1 + c.args.g) c.first_in-i.ensures (omega arith) (omega arith) c.requires.1 in
    let size = c.requires.0.size in
    let room = c.word_at-at.ensures.0 in
    let blocks = sym (two_entries t c.word_at-at.result (omega arith)) ∙ c.word_at-at.ensures.1 t in
    lead-packed c.requires.0 (suc c.args.g) c.first_in-i.result l _ _ c.size_in-word.ensures (ap (λ (u : List ℕ). u ++ replicate 4 0) blocks)
