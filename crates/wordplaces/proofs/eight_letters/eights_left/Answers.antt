-- `eights_left` says of how many letters at the end it is known that they are the same.
use mathlib.Core.Path.{sym, ◌∙◌}
use native.Mathlib.Omega.{arith}
use Rattle.wordplaces.proofs.ComparingTurns.{none_compared, eight_agree}
use Rattle.wordplaces.proofs.eight_letters.eights_left.Goals as goal

pub loop-n-init : goal.loop-n-init
loop-n-init c = none_compared _ _ _ c.requires

pub loop-n-preserved : goal.loop-n-preserved
loop-n-preserved c =
    eight_agree _ _ _ c.loop-n.n (omega arith) c.loop-n.invariant (sym c.eight_same.ensures ∙ c.if-not-eight_same.false)
