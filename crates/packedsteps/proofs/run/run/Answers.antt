-- `run` is running with the budget. The loop's invariant: what is still to be done gives what the whole gives (proofs/Progress).
use native.Mathlib.Omega.{arith}
use Rattle.std.proofs.lemmas.Result.{err_from_is_err_and}
use Rattle.packedsteps.specs.Advance.{AdvancedTo}
use Rattle.packedsteps.proofs.Progress.{progress_start, progress_answer, progress_stop, progress_next}
use Rattle.packedsteps.proofs.run.run.Goals as goal

pub loop-made-init : goal.loop-made-init
loop-made-init c =
    let a = c.args in
    progress_start a.t.now a.budget a.f.now c.requires.2 c.requires.3

pub advance-requires : goal.advance-requires
advance-requires c =
    let h = c.loop-made.invariant in
    record {
      tabled = (c.requires.0, c.requires.1, h.within, h.few);
      working = (h.working, h.clear);
    }

pub returns-in_err-made : goal.returns-in_err-made
returns-in_err-made c =
    let p = err_from_is_err_and c.from_residual.result c.from_residual.ensures.1 in
    let e = c.in_err-made.ensures.advanced_to in
    let all = progress_stop c.loop-made.invariant c.in_err-made.field-0.0 _ _ _ e in
    rw (p.1, p.2) (record { result_after = all.0; ran_holds = all.1 })

pub overflow_add-used : goal.overflow_add-used
unfolding AdvancedTo
overflow_add-used c =
    let e = rw c.in-Some.is at c.in_ok-made.ensures.advanced_to in
    let more = e.more in
    let low = c.ranges.budget.fits in
    record { fits = omega arith }

pub loop-made-smaller : goal.loop-made-smaller
unfolding AdvancedTo
loop-made-smaller c =
    let e = rw c.in-Some.is at c.in_ok-made.ensures.advanced_to in
    let more = e.more in
    omega arith

pub loop-made-preserved : goal.loop-made-preserved
unfolding AdvancedTo
loop-made-preserved c =
    let e = rw c.in-Some.is at c.in_ok-made.ensures.advanced_to in
    progress_next c.loop-made.invariant _ _ _ _ _ _ e

pub returns : goal.returns
unfolding AdvancedTo
returns c =
    let e = rw c.in_default.is at c.in_ok-made.ensures.advanced_to in
    let all = progress_answer c.loop-made.invariant e.0 _ e.1 e.2 in
    record {
      result_after = all.0;
      ran_holds = all.1;
    }
