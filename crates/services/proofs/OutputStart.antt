-- Bytes that fit stand at the start of the output slice, and are the first ones there.
use mathlib.Core.Path.{◌≡◌, refl, ◌∙◌, ap}
use mathlib.Core.List.{List, ◌++◌}
use Prim.Native.Nat.{ℕ, ◌+◌, ◌≤◌}
use native.Mathlib.Nat.{zero-add}
use native.Mathlib.Omega.{arith}
use lib.ListN.{length, take, drop}
use lib.Seq.{sets, sets-eq, take_at}
use Rattle.services.specs.Services.{fitted}
use Rattle.services.specs.Demands.{at_start}
use Rattle.services.proofs.Room.{room-written}

pub stored : (w v : List ℕ) → length v ≤ length w → take (length v) (sets w 0 v) ≡ v
stored w v h = ap (take (length v)) (sets-eq v w 0 (omega arith)) ∙ take_at v (drop (0 + length v) w) (length v) refl

pub fitted-start : (text out : List ℕ) → length text ≤ length out → fitted text out ≡ at_start text out
fitted-start text out h = room-written text out h ∙ sets-eq text out 0 (omega arith) ∙ ap (λ (n : ℕ). text ++ drop n out) (zero-add (length text))
