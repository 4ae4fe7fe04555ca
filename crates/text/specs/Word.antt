-- Words as texts: `-`, the empty word, or one or more letters `a` to `z` (bytes 97 to 122).
use Rattle.std.specs.Prelude.{Bool, true, false, List, [], ◌∷◌, ℕ, eqb, length, get_or}
use Rattle.text.specs.Bytes.{all_within}

-- What a field says as a word: no word, or the list of its letters.
pub data WordField : Type 0 where
  no_word : WordField
  word : List ℕ → WordField

-- The field is `-`, byte 45.
unfoldable pub is_dash : List ℕ → Bool
is_dash f = elim (eqb (length f) 1) [ true ↦ eqb (get_or f 0 0) 45 | false ↦ false ]

-- The word that a field says.
unfoldable pub word_of : List ℕ → WordField
unfolding all_within is_dash
word_of f = elim (eqb (length f) 0) [
  | true ↦ no_word
  | false ↦ elim (is_dash f) [ true ↦ word [] | false ↦ elim (all_within 97 122 f) [ true ↦ word f | false ↦ no_word ] ]
]

-- A word as it is written.
unfoldable pub write_word : List ℕ → List ℕ
write_word [] = 45 ∷ []
write_word (a ∷ w) = a ∷ w
