use mathlib.Core.Path.{◌≡◌}
use mathlib.Core.List.{map}
use Prim.Native.Nat.{◌+◌, ◌*◌}
use lib.ListN.{length, drop}
use lib.Seq.{sets}
use Rattle.packedwords.specs.Packed.{unpacked}
use Rattle.table.specs.Table.{letter_in}
use Rattle.packedterms.specs.Formula.{blocks_at}
use Rattle.packedtexts.proofs.writing.put_letters.Given as goal

abbrev pub invariant-loop-j : goal.invariant-loop-j
invariant-loop-j l =
    (length l.out ≡ length l.initial.out)
    × (sets l.out (l.at + 12 * l.j) (drop (12 * l.j) (map (letter_in l.t) (unpacked l.m (blocks_at l.f.blocks l.s)))) ≡ sets l.initial.out l.at (map (letter_in l.t) (unpacked l.m (blocks_at l.f.blocks l.s))))
