use mathlib.Core.Path.{◌≡◌}
use Prim.Native.Nat.{ℕ, ◌≤◌}
use lib.ListN.{get_or}
use Rattle.working.specs.Rotation.{shifted_right}
use Rattle.working.proofs.entries.rotate_right.Given as goal

abbrev pub invariant-loop-i : goal.invariant-loop-i
invariant-loop-i l = (l.k ≤ l.i) × ((j : ℕ) → get_or l.a j 0 ≡ get_or l.initial.a (shifted_right l.i l.n j) 0)
