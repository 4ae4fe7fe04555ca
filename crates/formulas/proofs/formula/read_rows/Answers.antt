-- `read_rows`: the lines that are left, behind the terms stored, say what all say.
use mathlib.Core.Path.{refl, sym, ◌∙◌}
use Prim.Native.Nat.{◌<◌}
use native.Mathlib.Omega.{arith}
use lib.ListN.{length}
use Rattle.lists.proofs.Parts.{part_end}
use Rattle.package.proofs.FormulaLines.{row_room}
use Rattle.package.specs.Held.{rows_held, seen_row, reach_row, seen_formula, count_formula}
use Rattle.text.specs.Pieces.{part}
use Rattle.formulas.proofs.FormulaTurns.{rows_end, rows_missing, rows_wrong, rows-length, rows_again, rows_inside}
use Rattle.formulas.proofs.formula.read_rows.Goals as goal

pub loop-at-init : goal.loop-at-init
unfolding rows_held
loop-at-init c = record {
  in_text = omega arith;
  line_bound = omega arith;
  n_bound = omega arith;
  last_inside = omega arith;
  rest = refl;
  words = λ i z. absurd (omega arith);
}

pub returns-then-s-e-clause-result_after : goal.returns-then-s-e-clause-result_after
unfolding seen_formula
returns-then-s-e-clause-result_after c =
    let x = c.loop-at in
    let a = c.args in
    let s = a.s.now in
    rw c.wrong_at.ensures (rows_missing a.p a.letters a.m (part s x.start x.len) (rows_held s x.coefs x.starts x.lens x.n) x.line s x.at _
    c.find-e.ensures.value c.loop-at-test.true c.if-s-e.true ∙ x.invariant.rest)

pub returns-then-s-e-clause-result_bound : goal.returns-then-s-e-clause-result_bound
unfolding count_formula
returns-then-s-e-clause-result_bound c = (omega arith, λ i z. absurd (omega arith))

pub returns-in_default-clause-result_after : goal.returns-in_default-clause-result_after
unfolding seen_row seen_formula
returns-in_default-clause-result_after c =
    let x = c.loop-at in
    let a = c.args in
    let s = a.s.now in
    let j = sym c.in_default.ensures.result_value in
    let k = rw (part_end, ← rows-length s x.coefs x.starts x.lens x.n) at j in
    rw c.wrong_at-in_default.ensures (rows_wrong a.p a.letters a.m (part s x.start x.len) (rows_held s x.coefs x.starts x.lens x.n) x.line s x.at _
    c.find-e.ensures.value c.if-s-e.false k ∙ x.invariant.rest)

pub returns-in_default-clause-result_bound : goal.returns-in_default-clause-result_bound
unfolding count_formula
returns-in_default-clause-result_bound c = (omega arith, λ i z. absurd (omega arith))

pub store_row-requires : goal.store_row-requires
unfolding seen_row
store_row-requires c =
    let x = c.loop-at in
    let a = c.args in
    let s = a.s.now in
    let j = sym c.in-Some.ensures.result_value in
    let k = rw part_end at j in
    let r = row_room a.p a.letters a.m (part s x.start x.len) x.n _ _ _ k in
    (omega arith, omega arith, omega arith)

pub loop-at-preserved : goal.loop-at-preserved
unfolding seen_row reach_row
loop-at-preserved c =
    let x = c.loop-at in
    let a = c.args in
    let s = a.s.now in
    let j = sym c.in-Some.ensures.result_value in
    let k = rw part_end at j in
    let r = row_room a.p a.letters a.m (part s x.start x.len) x.n _ _ _ k in
    let b = c.in-Some.ensures.result_in_bounds in
    let u : x.n < length x.coefs = omega arith in
    let v : x.n < length x.starts = omega arith in
    let w : x.n < length x.lens = omega arith in
    let e = c.store_row.ensures in record {
      in_text = omega arith;
      line_bound = omega arith;
      n_bound = omega arith;
      last_inside = b;
      rest = rows_again a.p a.letters a.m (part s x.start x.len) s x.coefs x.starts x.lens x.n x.line x.at _ _ _ _ _ _ _
          e.coefs_after e.starts_after e.lens_after u v w c.find-e.ensures.value c.if-s-e.false k ∙ x.invariant.rest;
      words = rows_inside a.p a.letters a.m (part s x.start x.len) s x.coefs x.starts x.lens x.n x.line x.at 0 _ _ _ _ _ _
          e.coefs_after e.starts_after e.lens_after u v w b x.invariant.words;
    }

pub returns-clause-result_after : goal.returns-clause-result_after
unfolding seen_formula
returns-clause-result_after c =
    let x = c.loop-at in
    let a = c.args in
    let s = a.s.now in
    rows_end a.p a.letters a.m (part s x.start x.len) (rows_held s x.coefs x.starts x.lens x.n) x.line s x.at c.loop-at-test.false ∙ x.invariant.rest

pub returns-clause-result_bound : goal.returns-clause-result_bound
unfolding count_formula
returns-clause-result_bound c = (omega arith, c.loop-at.invariant.words)
