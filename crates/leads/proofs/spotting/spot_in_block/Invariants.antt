use mathlib.Core.Path.{◌≡◌}
use mathlib.Core.List.{List}
use Prim.Native.Nat.{ℕ, ◌*◌, ◌/◌, ◌≤◌}
use lib.ListN.{drop}
use Rattle.words.specs.Word.{Word}
use Rattle.packedwords.specs.Packed.{unpacked, Packs}
use Rattle.leads.specs.CodeIndex.{CodeIndexed}
use Rattle.leads.specs.SpotOfWords.{spot_of_words_from}
use Rattle.leads.proofs.BlockTurns.{InBlock, Moved}
use Rattle.leads.proofs.spotting.spot_in_block.Given as goal

abbrev pub invariant-loop-i : goal.invariant-loop-i
invariant-loop-i l =
    Moved l.x
    × Moved l.y
    × ((n : ℕ) → Packs n l.word → InBlock (unpacked n l.word) l.j l.i (l.x / 16) (l.y / 16))
    × ((ls : List Word) (n : ℕ) → CodeIndexed ls l.index → Packs n l.word → l.end ≤ n
    → spot_of_words_from ls (drop l.i (unpacked n l.word)) l.i ≡ spot_of_words_from ls (drop (12 * l.j) (unpacked n l.word)) (12 * l.j))
