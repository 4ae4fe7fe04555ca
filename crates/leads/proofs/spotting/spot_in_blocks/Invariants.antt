use mathlib.Core.Path.{◌≡◌}
use mathlib.Core.List.{List}
use Prim.Native.Nat.{◌*◌, min}
use lib.ListN.{drop}
use Rattle.words.specs.Word.{Word}
use Rattle.packedwords.specs.Packed.{unpacked}
use Rattle.leads.specs.CodeIndex.{CodeIndexed}
use Rattle.leads.specs.SpotOfWords.{spot_of_words_from, spot_of_words}
use Rattle.leads.proofs.spotting.spot_in_blocks.Given as goal

abbrev pub invariant-loop-j : goal.invariant-loop-j
invariant-loop-j l =
    (ls : List Word) → CodeIndexed ls l.index
    → spot_of_words_from ls (drop (min (12 * l.j) l.n) (unpacked l.n l.word)) (min (12 * l.j) l.n) ≡ spot_of_words ls (unpacked l.n l.word)
