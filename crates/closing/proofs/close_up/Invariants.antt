-- The loop's invariant: storing what is left of the first n terms, from place j on, gives what it gave at the start (proofs/Turns.antt).
use Rattle.closing.proofs.Turns.{State}
use Rattle.closing.proofs.close_up.Given as goal

abbrev pub invariant-loop-i : goal.invariant-loop-i
invariant-loop-i l = State l.fn.terms l.n l.terms l.j l.i
