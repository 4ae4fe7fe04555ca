-- Packed words of at most 24 letters: with two of them around it, each word of a table still has a place in the working formula.
use Rattle.std.specs.Prelude.{◌≡◌, List, ℕ, ◌%◌, ◌≤◌}
use Rattle.words.specs.Word.{Word}
use Rattle.table.specs.Words.{word_of, Sixfold}
use Rattle.packedterms.specs.declared.PackedWord.{PackedWord}

-- Six blocks hold a word of size z, which has at most 24 letters.
pub record Short (t : List ℕ) (z : ℕ) (bs : List ℕ) : Type 0 where
  pub six : Sixfold t z bs
  pub few : z % 256 ≤ 24

-- The same, and the word is u.
pub record ShortWord (t : List ℕ) (u : Word) (z : ℕ) (bs : List ℕ) : Type 0 where
  pub short : Short t z bs
  pub word : word_of t z bs ≡ u

-- A packed word as a value has at most 24 letters.
abbrev pub ShortIn : {n : ℕ} → List ℕ → PackedWord n → Type 0
ShortIn t w = Short t w.size w.blocks

-- The same, and the word is u.
abbrev pub HoldsShort : {n : ℕ} → List ℕ → Word → PackedWord n → Type 0
HoldsShort t u w = ShortWord t u w.size w.blocks
