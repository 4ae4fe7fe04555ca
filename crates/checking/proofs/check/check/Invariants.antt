use Prim.Native.Nat.{◌+◌}
use Rattle.working.specs.Working.{Arranged}
use Rattle.checking.proofs.KindsJudging.{KindsDone}
use Rattle.checking.proofs.check.check.Given as goal

abbrev pub invariant-loop-kind : goal.invariant-loop-kind
invariant-loop-kind l =
    Arranged l.f.places × KindsDone l.t l.words.bytes.now l.from l.first l.behind.at l.behind.line (l.kind-index + 1)
