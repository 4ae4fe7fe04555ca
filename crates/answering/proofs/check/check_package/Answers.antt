-- `check_package` answers what the check is defined to.
use Rattle.accepting.specs.Accepted.{Accepts}
use Rattle.answering.proofs.ServiceAnswers.{refused-checked, accepted-checked}
use Rattle.answering.proofs.check.check_package.Goals as goal

pub returns-in-Err : goal.returns-in-Err
unfolding Accepts
returns-in-Err c = rw c.from.ensures (refused-checked c.args.«package».now _ _ c.in-Err.ensures)

pub returns-in-Ok : goal.returns-in-Ok
unfolding Accepts
returns-in-Ok c =
    let (accepted, count) = c.in-Ok.ensures in
    accepted-checked _ _ _ accepted count
