-- The entries of a slice between two places.
use mathlib.Core.Path.{◌≡◌}
use mathlib.Core.List.{List}
use Prim.Native.Nat.{ℕ, ◌-◌, ◌≤◌}
use native.Mathlib.Omega.{arith}
use lib.ListN.{length, length-take, length-drop}
use Rattle.working.specs.Family.{between}

pub between-length : (xs : List ℕ) (a b : ℕ) → a ≤ b → b ≤ length xs → length (between xs a b) ≡ b - a
between-length xs a b h k = simp (length-take, length-drop) (omega arith)
