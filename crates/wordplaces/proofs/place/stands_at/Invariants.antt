use Rattle.wordplaces.proofs.ComparingTurns.{Agreed}
use Rattle.wordplaces.proofs.place.stands_at.Given as goal

abbrev pub invariant-loop-n : goal.invariant-loop-n
invariant-loop-n l = Agreed l.b l.w l.at l.n

abbrev pub decreases-loop-n : goal.decreases-loop-n
decreases-loop-n l = l.n
