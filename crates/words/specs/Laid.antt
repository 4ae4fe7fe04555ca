-- Words that lie in bytes: for each word, where it starts and how long it is.
use Rattle.std.specs.Prelude.{List, [], ◌∷◌, ℕ, zero, suc, ◌+◌, ◌≤◌, ◌<◌, length, get_or, take, drop}
use Rattle.words.specs.Word.{Word}

-- Word g, from 0: the lens[g] bytes from starts[g] on.
abbrev pub laid_word : List ℕ → List ℕ → List ℕ → ℕ → Word
laid_word starts lens bytes g = take (get_or lens g 0) (drop (get_or starts g 0) bytes)

-- n words, from word g on.
unfoldable pub laid_from : List ℕ → List ℕ → List ℕ → ℕ → ℕ → List Word
laid_from starts lens bytes g zero = []
laid_from starts lens bytes g (suc n) = laid_word starts lens bytes g ∷ laid_from starts lens bytes (suc g) n

-- The first n words.
unfoldable pub laid_words : List ℕ → List ℕ → List ℕ → ℕ → List Word
unfolding laid_from
laid_words starts lens bytes n = laid_from starts lens bytes 0 n

-- Word g has a start and a length, and lies inside the bytes.
pub record WordInside (starts lens bytes : List ℕ) (g : ℕ) : Type 0 where
  pub starting : g < length starts
  pub ending : g < length lens
  pub inside : get_or starts g 0 + get_or lens g 0 ≤ length bytes

-- Each of the first n words has a start and a length, and lies inside the bytes.
pub record Laid (starts lens bytes : List ℕ) (n : ℕ) : Type 0 where
  pub starting : n ≤ length starts
  pub ending : n ≤ length lens
  pub inside : (g : ℕ) → g < n → get_or starts g 0 + get_or lens g 0 ≤ length bytes
