use mathlib.Core.Path.{◌≡◌}
use mathlib.Core.List.{[], ◌∷◌, map}
use Prim.Native.Nat.{◌+◌}
use lib.ListN.{length, drop}
use lib.Seq.{sets}
use Rattle.packedwords.specs.Packed.{window, unpacked}
use Rattle.table.specs.Table.{letter_in}
use Rattle.packedtexts.proofs.writing.put_block.Given as goal

abbrev pub invariant-loop-i : goal.invariant-loop-i
invariant-loop-i l =
    (length l.out ≡ length l.initial.out)
    × (l.y ≡ window (unpacked l.r (l.x ∷ [])) l.i)
    × (sets l.out (l.at + l.i) (drop l.i (map (letter_in l.t) (unpacked l.r (l.x ∷ [])))) ≡ sets l.initial.out l.at (map (letter_in l.t) (unpacked l.r (l.x ∷ []))))
