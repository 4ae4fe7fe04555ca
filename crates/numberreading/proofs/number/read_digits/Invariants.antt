use mathlib.Core.Path.{◌≡◌}
use Prim.Native.Nat.{◌<◌}
use lib.ListN.{drop}
use Rattle.text.proofs.Digits.{pow}
use Rattle.text.specs.Number.{digits}
use Rattle.numberreading.proofs.number.read_digits.Given as goal

abbrev pub invariant-loop-b : goal.invariant-loop-b
invariant-loop-b l = (l.n < pow l.b-index) × (digits l.n (drop l.b-index l.f) ≡ digits 0 l.f)
