-- `next_inside` is the next place. The loop's invariant: the places from n on say what those from s on say.
use mathlib.Core.Path.{sym, ◌∙◌}
use native.Mathlib.Omega.{arith}
use Rattle.overlapsearch.proofs.Passing.{passing_here, passing_later, passing_end}
use Rattle.overlapsearch.proofs.inside.next_inside.Goals as goal

pub returns-then-stood : goal.returns-then-stood
returns-then-stood c =
    rw (← c.places_in-most.ensures) (sym (passing_here _ _ c.loop-n.n (omega arith) (sym c.stands_at-stood.ensures.stands_value ∙ c.if-stood.true)) ∙ c.loop-n.invariant)

pub loop-n-preserved : goal.loop-n-preserved
loop-n-preserved c =
    passing_later _ _ c.loop-n.n (omega arith) (sym c.stands_at-stood.ensures.stands_value ∙ c.if-stood.false) ∙ c.loop-n.invariant

pub returns : goal.returns
returns c =
    rw (← c.places_in-most.ensures) (sym (passing_end _ _ c.loop-n.n (omega arith)) ∙ c.loop-n.invariant)
