-- What is stored in a table's head and in the rows of its terms.
use Rattle.std.specs.Prelude.{List, [], ◌∷◌, map, ℕ, ◌+◌, ◌*◌, ◌/◌, ◌%◌, length, get_or}
use Rattle.words.specs.Word.{Word}
use Rattle.words.specs.Laid.{laid_word}
use Rattle.words.specs.Weighted.{weight}
use Rattle.packedwords.specs.Packed.{window}
use Rattle.package.specs.declared.Head.{Head}

-- Entry k of the head of a package with m terms: the relations of a second house are none.
abbrev pub head_entry : Head → ℕ → ℕ → ℕ
head_entry h m k = get_or (h.p ∷ h.letters ∷ h.gens ∷ 0 ∷ h.basis ∷ m ∷ []) k 0

-- The row of the term with coefficient c and word w, by the keys of the letters: coefficient and size, and the word's two blocks.
abbrev pub row_of : (ℕ → ℕ) → ℕ → Word → List ℕ
row_of key c w =
    (c * 4294967296 + (256 * weight (λ (a : ℕ). key a / 32) w + length w))
    ∷ window (map (λ (a : ℕ). key a % 32) w) 0
    ∷ window (map (λ (a : ℕ). key a % 32) w) 12
    ∷ []

-- Entry k of the rows of terms that lie in slices.
abbrev pub row_entry : (ℕ → ℕ) → List ℕ → List ℕ → List ℕ → List ℕ → ℕ → ℕ
row_entry key coefs starts lens bytes k = get_or (row_of key (get_or coefs (k / 3) 0) (laid_word starts lens bytes (k / 3))) (k % 3) 0
