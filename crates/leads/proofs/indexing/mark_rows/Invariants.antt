use mathlib.Core.Path.{◌≡◌}
use mathlib.Core.List.{List, []}
use Prim.Native.Nat.{ℕ, ◌+◌, ◌*◌}
use lib.ListN.{length, get_or}
use Rattle.words.specs.Word.{Word}
use Rattle.packedwords.specs.Packed.{unpacked}
use Rattle.table.specs.Table.{blocks_in}
use Rattle.leads.specs.CodeIndex.{index_size, CodesHold}
use Rattle.leads.proofs.indexing.mark_rows.Given as goal

abbrev pub invariant-loop-k : goal.invariant-loop-k
invariant-loop-k l =
    (length l.index ≡ index_size)
    × ((ls : List Word) (p : ℕ) → get_or ls l.g [] ≡ unpacked l.n (blocks_in l.t l.i) → CodesHold ls p (l.g * 25) l.initial.index → CodesHold ls p (l.g * 25 + l.k) l.index)
