use mathlib.Core.Path.{◌≡◌}
use mathlib.Core.List.{◌++◌}
use Prim.Native.Nat.{◌+◌, ◌*◌, ◌%◌, ◌≤◌}
use lib.ListN.{length, take}
use Rattle.packedwords.specs.Packed.{unpacked, Packs}
use Rattle.packing.proofs.product.append_long.Given as goal

abbrev pub invariant-loop-left : goal.invariant-loop-left
invariant-loop-left l =
    (l.e ≡ l.m + 12 * l.j) × (12 * l.j + l.left ≡ l.n) × (l.j % 2 ≡ 0) × (l.j ≤ 4) × (length l.dst ≡ 9) × Packs l.e l.dst
    × (unpacked l.e l.dst ≡ unpacked l.m l.initial.dst ++ take (12 * l.j) (unpacked l.n l.src))

abbrev pub decreases-loop-left : goal.decreases-loop-left
decreases-loop-left l = l.left
