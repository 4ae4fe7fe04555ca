-- `check` judges the kinds of sums and then the pairs. The loop's invariant: the row from the next kind on gives the verdict (proofs/KindsJudging).
use native.Mathlib.Omega.{arith}
use Prim.Native.Nat.{◌+◌, ◌<◌}
use Rattle.checking.proofs.KindsJudging.{kinds_start, kind_at, kinds_refused, kinds_next, kinds_behind, kinds_end}
use Rattle.checking.proofs.check.check.Goals as goal

pub loop-kind-init : goal.loop-kind-init
loop-kind-init c = (c.start.ensures, kinds_start _ _ _ _ c.requires.sums_start)

pub returns-in-Err : goal.returns-in-Err
returns-in-Err c =
    let more : c.loop-kind.kind-index + 1 < 3 = omega arith in
    record { value = kinds_refused _ _ _ _ _ _ _ c.loop-kind.invariant.1 more _ _ _ c.in-Err.ensures.result_value (grind (arith, kind_at)) }

pub loop-kind-preserved : goal.loop-kind-preserved
loop-kind-preserved c =
    let e = c.in-Ok.ensures in
    let more : c.loop-kind.kind-index + 1 < 3 = omega arith in
    (e.arranged_2, kinds_next _ _ _ _ _ _ _ c.loop-kind.invariant.1 more _ _ e.result_value e.left_behind (grind (arith, kind_at)))

pub returns : goal.returns
returns c =
    record { value = kinds_end _ _ _ _ _ _ _ c.loop-kind.invariant.1 (omega (arith, c.loop-kind-test.false)) _ _ c.judge_laps.ensures.value }

pub judge_laps-requires-clause-reached : goal.judge_laps-requires-clause-reached
judge_laps-requires-clause-reached c =
    kinds_behind _ _ _ _ _ _ _ c.loop-kind.invariant.1 (omega (arith, c.loop-kind-test.false))
