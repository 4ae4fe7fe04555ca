-- `shorten` answers, and leaves in the output slice, what the short form service is defined to.
use mathlib.Core.Path.{◌∙◌}
use Rattle.reducing.specs.Reductions.{seen_reduced, ShortHeld}
use Rattle.answering.proofs.ServiceAnswers.{refused_shortened, refused-kept, short_shortened, short-written}
use Rattle.answering.proofs.short.shorten.Goals as goal

pub write_short-requires : goal.write_short-requires
unfolding ShortHeld
write_short-requires c = c.in-Ok.ensures.short_held.1.holds

pub returns-in-Err : goal.returns-in-Err
unfolding seen_reduced
returns-in-Err c =
    let s = c.args in
    let e = c.in-Err.ensures.result_after in record {
      value = rw c.from.ensures at c.refusal.ensures ∙ refused_shortened s.«package».now s.formula.now s.budget _ _ e _;
      out_after = refused-kept s.«package».now s.formula.now s.budget _ _ e _;
    }

pub returns-in-Ok : goal.returns-in-Ok
unfolding seen_reduced
returns-in-Ok c =
    let s = c.args in
    let e = c.in-Ok.ensures.result_after in record {
      value = c.write_short.ensures.value ∙ short_shortened s.«package».now s.formula.now s.budget _ _ e _;
      out_after = c.write_short.ensures.out_after ∙ short-written s.«package».now s.formula.now s.budget _ _ e _;
    }
