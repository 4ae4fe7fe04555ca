-- What is answered for a word that is packed (document 02, P6).
use Rattle.std.specs.Prelude.{Bool, true, false, List, ℕ, replicate}
use Rattle.package.specs.Bounds.{word_fits_of}
use Rattle.packedwords.specs.Codes.{code, coded}
use Rattle.packedwords.specs.Packed.{packed_from, packed}

-- Bytes are packed where they are a word of at most 72 letters `a` to `z`.
abbrev pub packable : List ℕ → Bool
packable w = word_fits_of 72 26 w

-- The six numbers of a word: its letters by their codes, 26 for `a` down to 1 for `z`, twelve to a number, the first in the highest five of 60 bits, and
-- zeros behind the last letter. Six zeros for bytes that are no such word.
unfoldable pub six_blocks : List ℕ → List ℕ
unfolding word_fits_of code packed_from
six_blocks w = elim (packable w) [ true ↦ packed 6 (coded w) | false ↦ replicate 6 0 ]
