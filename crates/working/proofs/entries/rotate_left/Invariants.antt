use mathlib.Core.Path.{◌≡◌}
use Prim.Native.Nat.{ℕ}
use lib.ListN.{get_or}
use Rattle.working.specs.Rotation.{shifted_left}
use Rattle.working.proofs.entries.rotate_left.Given as goal

abbrev pub invariant-loop-i : goal.invariant-loop-i
invariant-loop-i l = (j : ℕ) → get_or l.a j 0 ≡ get_or l.initial.a (shifted_left l.k l.i j) 0
