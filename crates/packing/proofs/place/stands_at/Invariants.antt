use mathlib.Core.Path.{◌≡◌}
use Prim.Native.Nat.{ℕ, ◌+◌, ◌*◌, ◌≤◌, ◌<◌}
use lib.ListN.{get_or, take, drop}
use Rattle.packedwords.specs.Packed.{window, unpacked}
use Rattle.packing.proofs.place.stands_at.Given as goal

abbrev pub invariant-loop-j : goal.invariant-loop-j
invariant-loop-j l =
    (l.i + l.n ≤ l.m) × ((t : ℕ) → t < l.j → window (take l.n (drop l.i (unpacked l.m l.w))) (12 * t) ≡ get_or l.b t 0)
