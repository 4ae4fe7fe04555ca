-- `reduce_formula` reads the formula, loads it, makes the index of the leading words and reduces what was loaded by it.
use mathlib.Core.Path.{◌≡◌, ◌∙◌}
use Rattle.std.specs.Prelude.{Ok}
use native.Mathlib.Omega.{arith}
use Rattle.package.specs.Held.{seen_formula, count_formula}
use Rattle.reducing.specs.Reductions.{seen_reduced, ShortHeld}
use Rattle.reducing.proofs.BlankIndex.{zeros_blank}
use Rattle.reducing.proofs.Cases.{wrong_refused, run-reduced}
use Rattle.reducing.proofs.FormulaRead.{answered}
use Rattle.reducing.proofs.reduce.reduce_formula.Goals as goal

pub returns-in_err-n : goal.returns-in_err-n
unfolding seen_reduced ShortHeld seen_formula
returns-in_err-n c =
    record {
      result_after = grind (arith, wrong_refused);
      short_held = grind arith;
    }

pub slice_bounds-load-end : goal.slice_bounds-load-end
unfolding count_formula
slice_bounds-load-end c =
    let was : c.read_formula.result ≡ Ok c.in_ok-n.n = grind arith in
    let b = rw was at c.read_formula.ensures.result_bound in
    omega (arith, b.0)

pub load-requires : goal.load-requires
load-requires c =
    let e = c.read_formula.ensures in
    let auto = c.read_formula.auto in
    let was : c.read_formula.result ≡ Ok c.in_ok-n.n = grind arith in
    let r = answered _ _ _ _ _ _ _ _ _ _ c.prime_in-p.ensures c.letters_in-letters.ensures was e.result_after e.result_bound c.requires.letters (omega (arith, auto)) (omega (arith, auto)) (omega (arith, auto)) in
    let z = c.requires in
    record {
      tabled = (z, r.given, omega (arith, r.few));
      by_index = r.lettered;
      written = r.written;
    }

pub index_leads-requires : goal.index_leads-requires
index_leads-requires c =
    let z = c.requires in
    record {
      tabled = z;
      code_blank = zeros_blank;
    }

pub reduce_held-requires : goal.reduce_held-requires
reduce_held-requires c =
    let e = c.read_formula.ensures in
    let auto = c.read_formula.auto in
    let was : c.read_formula.result ≡ Ok c.in_ok-n.n = grind arith in
    let r = answered _ _ _ _ _ _ _ _ _ _ c.prime_in-p.ensures c.letters_in-letters.ensures was e.result_after e.result_bound c.requires.letters (omega (arith, auto)) (omega (arith, auto)) (omega (arith, auto)) in
    let l = c.load.ensures in
    (c.requires, c.index_leads.ensures, l.working, omega (arith, l.value, r.few))

pub returns : goal.returns
returns c =
    let e = c.read_formula.ensures in
    let auto = c.read_formula.auto in
    let was : c.read_formula.result ≡ Ok c.in_ok-n.n = grind arith in
    let r = answered _ _ _ _ _ _ _ _ _ _ c.prime_in-p.ensures c.letters_in-letters.ensures was e.result_after e.result_bound c.requires.letters (omega (arith, auto)) (omega (arith, auto)) (omega (arith, auto)) in
    let h = c.reduce_held.ensures in
    record {
      result_after = h.result_after ∙ run-reduced _ _ _ _ _ r.reads c.load.ensures.loaded;
      short_held = h.short_held;
    }
