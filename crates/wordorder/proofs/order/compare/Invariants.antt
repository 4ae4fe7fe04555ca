use mathlib.Core.Path.{◌≡◌}
use Prim.Native.Nat.{◌-◌, ◌≤◌}
use lib.ListN.{length, drop}
use Rattle.words.specs.Order.{letter_rank, by_letters}
use Rattle.wordorder.proofs.order.compare.Given as goal

abbrev pub invariant-loop-i : goal.invariant-loop-i
invariant-loop-i l =
    (length l.u ≡ length l.v) × (l.i ≤ length l.u) × (by_letters letter_rank (drop l.i l.u) (drop l.i l.v) ≡ by_letters letter_rank l.u l.v)

abbrev pub decreases-loop-i : goal.decreases-loop-i
decreases-loop-i l = length l.u - l.i

abbrev pub invariant-loop-j : goal.invariant-loop-j
invariant-loop-j l = (length l.u ≡ length l.v) × (l.j ≤ length l.u) × (by_letters letter_rank (drop l.j l.u) (drop l.j l.v) ≡ by_letters letter_rank l.u l.v)
