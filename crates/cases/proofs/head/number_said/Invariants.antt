use mathlib.Core.Path.{◌≡◌}
use Prim.Native.Nat.{◌<◌}
use lib.ListN.{drop}
use Rattle.text.proofs.Digits.{pow}
use Rattle.cases.specs.HeadLine.{said}
use Rattle.cases.proofs.head.number_said.Given as goal

abbrev pub invariant-loop-d : goal.invariant-loop-d
invariant-loop-d l = (said l.n (drop l.d-index l.f) ≡ said 0 l.f) × (l.n < pow l.d-index)
