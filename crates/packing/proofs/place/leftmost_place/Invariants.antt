use mathlib.Core.Path.{◌≡◌}
use Prim.Native.Nat.{◌≤◌}
use lib.ListN.{drop}
use Rattle.words.specs.Place.{leftmost_from, leftmost}
use Rattle.packedwords.specs.Packed.{unpacked}
use Rattle.packing.proofs.place.leftmost_place.Given as goal

abbrev pub invariant-loop-at : goal.invariant-loop-at
invariant-loop-at l =
    (l.n ≤ l.m) × (l.at ≤ l.m) × (leftmost_from (unpacked l.n l.b) (drop l.at (unpacked l.m l.w)) l.at ≡ leftmost (unpacked l.n l.b) (unpacked l.m l.w))
