-- As many cases were run as turns are done.
use Rattle.vectors.specs.Stored.{RunsCases}
use Rattle.vectors.proofs.run_all.Given as goal

abbrev pub invariant-loop-turn : goal.invariant-loop-turn
invariant-loop-turn g l =
    RunsCases l._turn (g.R.Read.remaining l.initial.file) (g.R.Read.remaining l.file) (g.W.Write.contents l.initial.out) (g.W.Write.contents l.out)
