-- `inner_rank` reads what `num_then (rank kinds)` gives.
use mathlib.Core.Path.{sym, ◌∙◌}
use Prim.Native.Nat.{◌+◌}
use native.Mathlib.Omega.{arith}
use borrow.Author.Tests.{eqb-true, eqb-false}
use Rattle.text.proofs.Cutting.{stop-end}
use Rattle.text.specs.Answers.{seen_num, next_num}
use Rattle.text.specs.Field.{rank}
use Rattle.fieldreading.proofs.FieldReading.{num_end}
use Rattle.fieldreading.proofs.Fronts.{space_inside}
use Rattle.kindreading.proofs.KindFronts.{kind-empty, kind_long, kind_wrong, kind-some}
use Rattle.kindreading.proofs.kind.inner_rank.Goals as goal

pub returns-then-l-at : goal.returns-then-l-at
unfolding seen_num next_num
returns-then-l-at c =
    record {
      result_value = num_end (rank c.args.kinds.now) _ _ _ (sym (stop-end 32 _ _ c.if-l-at.true)) c.if-l-at.true;
      result_in_bounds = omega arith;
    }

pub returns-then-l-at-eq32 : goal.returns-then-l-at-eq32
unfolding seen_num next_num
returns-then-l-at-eq32 c = record {
  result_value = kind-empty _ _ _ c.if-l-at.false c.if-l-at-eq32.true;
  result_in_bounds = omega arith;
}

pub returns-then-not-ends_at : goal.returns-then-not-ends_at
unfolding seen_num next_num
returns-then-not-ends_at c =
    let e = eqb-false _ _ (sym c.ends_at.ensures ∙ c.if-not-ends_at.true) in
    record {
      result_value = kind_long _ _ _ c.if-l-at.false c.if-l-at-eq32.false e;
      result_in_bounds = omega arith;
    }

pub returns-in_err-value : goal.returns-in_err-value
unfolding seen_num next_num
returns-in_err-value c =
    let e = eqb-true _ _ (sym c.ends_at.ensures ∙ c.if-not-ends_at.false) in
    rw c.from_residual.ensures (record {
      result_value = kind_wrong _ _ _ c.if-l-at.false c.if-l-at-eq32.false _ e c.rank_of.ensures c.in_err-value.was;
      result_in_bounds = omega arith;
    })

pub returns : goal.returns
unfolding seen_num next_num
returns c =
    let a = c.args in
    let e = eqb-true _ _ (sym c.ends_at.ensures ∙ c.if-not-ends_at.false) in record {
      result_value = kind-some _ _ _ c.if-l-at.false c.if-l-at-eq32.false _ _ e c.rank_of.ensures c.in_ok-value.was;
      result_in_bounds = omega (arith, space_inside a.l.now (a.at + 1) e);
    }
