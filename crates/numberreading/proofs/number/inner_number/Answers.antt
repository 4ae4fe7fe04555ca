-- `inner_number` reads what `num_then number` gives: `0` goes by itself, and every other number by its digits.
use mathlib.Core.Path.{sym, ◌∙◌}
use Prim.Native.Nat.{◌+◌}
use native.Mathlib.Omega.{arith}
use borrow.Author.Tests.{eqb-true, eqb-false}
use Rattle.text.proofs.Cutting.{stop-end}
use Rattle.text.specs.Answers.{seen_num, next_num}
use Rattle.text.specs.Number.{number}
use Rattle.fieldreading.proofs.FieldReading.{num_end}
use Rattle.fieldreading.proofs.Fronts.{space_inside}
use Rattle.numberreading.proofs.NumberFronts.{zero_alone, zero_more}
use Rattle.numberreading.proofs.number.inner_number.Goals as goal

pub returns-then-l-at : goal.returns-then-l-at
unfolding seen_num next_num
returns-then-l-at c = record {
  result_value = num_end number _ _ _ (sym (stop-end 32 _ _ c.if-l-at.true)) c.if-l-at.true;
  result_in_bounds = omega arith;
}

pub returns-then-ends_at : goal.returns-then-ends_at
unfolding seen_num next_num
returns-then-ends_at c =
    let a = c.args in
    let e = eqb-true _ _ (sym c.ends_at.ensures ∙ c.if-ends_at.true) in
    record {
      result_value = zero_alone _ _ c.if-l-at.false c.if-l-at-ne48.false e;
      result_in_bounds = omega (arith, space_inside a.l.now (a.at + 1) e);
    }

pub returns : goal.returns
unfolding seen_num next_num
returns c =
    let e = eqb-false _ _ (sym c.ends_at.ensures ∙ c.if-ends_at.false) in
    record {
      result_value = zero_more _ _ c.if-l-at.false c.if-l-at-ne48.false e;
      result_in_bounds = omega arith;
    }
