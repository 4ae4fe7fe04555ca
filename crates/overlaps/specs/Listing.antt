-- The bytes of the list of overlaps and inclusions (document 01, 'Overlaps'; document 02, P2).
use Rattle.std.specs.Prelude.{List, [], ◌∷◌, ◌++◌, ℕ, suc, ◌+◌, length}
use Rattle.words.specs.Word.{Word}
use Rattle.text.specs.Ascii.{ascii}
use Rattle.text.specs.Number.{write_number}
use Rattle.text.specs.Word.{write_word}
use Rattle.overlaps.specs.Pairs.{Pair, word_no}
use Rattle.overlaps.specs.Overlaps.{overlap_joined, overlaps}

-- The names line.
abbrev pub overlap_names : List ℕ
overlap_names = ascii "item first second shared at word"

-- A number and a space, before what follows.
abbrev pub spaced : ℕ → List ℕ → List ℕ
spaced n text = write_number n ++ (32 ∷ text)

-- The overlap word of a pair of the words of a list, numbered from 1.
abbrev pub list_word : List Word → Pair → Word
list_word ws o = overlap_joined (word_no ws o.first) (word_no ws o.second) o.shared

-- Line number k below the names line: item, first, second, shared, at and the overlap word, fields parted by one space, ended by byte 10. An empty
-- overlap word is written as `-`.
unfoldable pub list_line : ℕ → Pair → Word → List ℕ
unfolding write_number write_word
list_line k o w = spaced k (spaced o.first (spaced o.second (spaced o.shared (spaced o.at (write_word w ++ (10 ∷ []))))))

-- The lines of pairs, numbered from k on.
unfoldable pub overlap_lines : List Word → ℕ → List Pair → List ℕ
unfolding list_line
overlap_lines ws k [] = []
overlap_lines ws k (o ∷ os) = list_line k o (list_word ws o) ++ overlap_lines ws (suc k) os

-- The lines of all pairs of a list of leading words, numbered from 1.
abbrev pub all_lines : List Word → List ℕ
all_lines ws = overlap_lines ws 1 (overlaps ws)

-- The list of the pairs of a list of leading words.
unfoldable pub overlap_text : List Word → List ℕ
unfolding overlap_lines overlaps
overlap_text ws = overlap_names ++ (10 ∷ overlap_lines ws 1 (overlaps ws))

-- How many bytes a line has, where the overlap word is written with so many.
abbrev pub line_length : ℕ → Pair → ℕ → ℕ
line_length k o bytes =
    length (write_number k) + length (write_number o.first) + length (write_number o.second) + length (write_number o.shared) + length (write_number o.at) + bytes + 6
