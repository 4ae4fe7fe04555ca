-- Bounds of coefficients and words.
use Rattle.std.specs.Prelude.{Bool, true, false, List, ℕ, ◌+◌, ltb, length}
use Rattle.text.specs.Bytes.{all_within}

-- Coefficients are 1 to p - 1.
unfoldable pub coef_fits : ℕ → ℕ → Bool
coef_fits p c = elim (ltb 0 c) [ false ↦ false | true ↦ ltb c p ]

-- A word has at most `most` letters, and they are the first so many that are in use, `a` (byte 97) the first of them.
unfoldable pub word_fits_of : ℕ → ℕ → List ℕ → Bool
unfolding all_within
word_fits_of most letters w = elim (ltb most (length w)) [ true ↦ false | false ↦ all_within 97 (96 + letters) w ]
