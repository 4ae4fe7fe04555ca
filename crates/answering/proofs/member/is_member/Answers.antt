-- `is_member` answers what membership is defined to.
use Rattle.working.proofs.Terms.{terms-length}
use Rattle.reducing.specs.Reductions.{seen_reduced}
use Rattle.answering.proofs.ServiceAnswers.{refused-member, short-member}
use Rattle.answering.proofs.member.is_member.Goals as goal

pub returns-in-Err : goal.returns-in-Err
unfolding seen_reduced
returns-in-Err c =
    let s = c.args in
    rw c.from.ensures (refused-member s.«package».now s.formula.now s.budget _ _ c.in-Err.ensures.result_after)

pub returns-in-Ok : goal.returns-in-Ok
unfolding seen_reduced
returns-in-Ok c =
    let s = c.args in
    rw (c.from-in-Ok.ensures, c.from-in-Ok-2.ensures)
    (short-member s.«package».now s.formula.now s.budget _ _ c.in-Ok.ensures.result_after _ (terms-length _ 0 _))
