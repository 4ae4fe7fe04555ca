-- `judge_sum_block`: the lines that are left, below the kind and item of the last, are judged as all are.
use mathlib.Core.Path.{◌∙◌}
use native.Mathlib.Numerals.{add-one}
use native.Mathlib.Omega.{arith}
use Rattle.std.proofs.lemmas.Result.{err_from_is_err_and}
use Rattle.package.specs.Held.{seen_sum_judged, JudgedInside, seen_sums}
use Rattle.sumreading.proofs.SumTurns.{sums-end}
use Rattle.sumreading.proofs.sum_lines.judge_sum_block.Goals as goal

pub returns-in_err-t : goal.returns-in_err-t
unfolding seen_sums seen_sum_judged
returns-in_err-t c =
    let p = err_from_is_err_and c.from_residual.result c.from_residual.ensures.1 in
    let x = c.loop-at in
    let e = c.in_err-t.ensures in
    rw (p.1, p.2, e.place) (e.by_index x.line ∙ x.invariant.block)

pub loop-at-smaller : goal.loop-at-smaller
unfolding JudgedInside
loop-at-smaller c =
    let j = c.in_ok-t.ensures.judged_inside in
    omega (arith, j.0, j.1)

pub loop-at-preserved : goal.loop-at-preserved
unfolding seen_sum_judged JudgedInside
loop-at-preserved c =
    let x = c.loop-at in
    let j = c.in_ok-t.ensures.judged_inside in
    record {
      in_text = j.1;
      line_bound = omega (arith, j.0);
      block = rw (add-one x.line) (c.in_ok-t.ensures.by_index x.line ∙ x.invariant.block);
    }

pub returns : goal.returns
unfolding seen_sums
returns c =
    let x = c.loop-at in
    let a = c.args in
    sums-end a.h a.m x.kind x.item x.line a.s.now x.at c.loop-at-test.false ∙ x.invariant.block
