use mathlib.Core.Path.{◌≡◌}
use Prim.Native.Nat.{◌+◌, ◌-◌, ◌≤◌, ◌<◌}
use lib.ListN.{drop}
use Rattle.text.proofs.Digits.{pow}
use Rattle.text.specs.Number.{digits}
use Rattle.text.specs.Pieces.{stop}
use Rattle.fieldreading.proofs.Fronts.{front}
use Rattle.numberreading.proofs.number.inner_digits.Given as goal

abbrev pub invariant-loop-i : goal.invariant-loop-i
invariant-loop-i l =
    (l.i ≤ l.at + 5) × (l.n < pow (l.i - l.at)) × (l.i + stop 32 (drop l.i l.l) ≡ l.at + stop 32 (drop l.at l.l)) ×
    (digits l.n (front 32 (drop l.i l.l)) ≡ digits 0 (front 32 (drop l.at l.l)))
