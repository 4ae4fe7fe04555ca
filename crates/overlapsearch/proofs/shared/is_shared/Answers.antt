-- `is_shared` is `shares`: the first letters of v stand at the end of u.
use mathlib.Core.Path.{◌∙◌}
use native.Mathlib.Omega.{arith}
use Rattle.overlapsearch.proofs.Passing.{shares-stands}
use Rattle.overlapsearch.proofs.shared.is_shared.Goals as goal

pub returns : goal.returns
returns c = c.stands_at-stood.ensures.stands_value ∙ shares-stands _ _ _ (omega arith) (omega arith)
