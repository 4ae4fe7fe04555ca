-- `tabulate` fills the sections one after the other.
use native.Mathlib.Omega.{arith}
use Rattle.tabulating.proofs.PlainKeys.{plain_keys}
use Rattle.tabulating.proofs.LeadingCoefs.{leading}
use Rattle.tabulating.proofs.Tabulated.{Begun, begun_of, sections_of, words_lie_lem, tabled}
use Rattle.tabulating.proofs.Tabulated.{prime_is, letter-count_is, gens_is, basis-count_is, relations_are, basis_is}
use borrow.Author.Rules.{rules}
use Rattle.tabulating.proofs.filling.tabulate.Goals as goal

pub put_inverses-requires : goal.put_inverses-requires
put_inverses-requires c =
    let l = c.requires.lies in
    let marks = l.basis-runs.marks in
    let most = l.prime in record {
      t_len = (search rules, search rules, omega arith, omega arith);
      leading = leading c.args.coefs.now c.args.starts.now c.args.lens.now c.args.bytes.now c.args.firsts.now l.terms l.basis-runs
          c.requires.none_zero l.basis-written;
    }

begun : (c : goal.After-put_rows-arg-1) → let a = c.args in Begun a.h a.m a.coefs.now a.firsts.now c.put_firsts.new.t
begun c =
    let a = c.args in
    let l = c.requires.lies in
    let k = c.put_keys.ensures in
    begun_of a.h a.m a.coefs.now a.firsts.now l.gens l.basis c.requires.t_len c.put_head.ensures k.plain k.filled
    c.put_inverses.ensures c.put_firsts.ensures

pub put_rows-requires : goal.put_rows-requires
put_rows-requires c =
    let l = c.requires.lies in
    let b = begun c in
    record {
      t_len = (b.size, plain_keys _ b.plain, l.count, l.terms.coefs_hold);
      words_lie = words_lie_lem l;
    }

pub returns : goal.returns
returns c =
    let begun : let a = c.args in Begun a.h a.m a.coefs.now a.firsts.now c.put_firsts.new.t = let a = c.args in
    let l = c.requires.lies in
    let k = c.put_keys.ensures in
    begun_of a.h a.m a.coefs.now a.firsts.now l.gens l.basis c.requires.t_len c.put_head.ensures k.plain k.filled
    c.put_inverses.ensures c.put_firsts.ensures in
    let a = c.args in
    let l = c.requires.lies in
    let nz = c.requires.none_zero in
    let b = begun in
    let x = sections_of a.coefs.now a.starts.now a.lens.now a.bytes.now l.gens l.basis b c.put_rows.ensures in
    record {
      tabled = tabled l nz x;
      t_after = (prime_is l nz x, letter-count_is l nz x);
      t_after_2 = (gens_is l nz x, basis-count_is l nz x);
      t_after_3 = relations_are l nz x;
      t_after_4 = basis_is l nz x;
    }
