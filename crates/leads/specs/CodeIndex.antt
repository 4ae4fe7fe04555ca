-- The index of a list of words of codes: 832 masks. The first 800 are 25 rows of 32: in row k, column x, bit g says that word g has the code x at
-- place k; no code is 0, and column 0 has the words that end there. The last 32 are for two letters at once: bit d of mask 800 + c says that some
-- word of the list may begin a word whose first two codes are c and d.
use Rattle.std.specs.Prelude.{◌≡◌, List, [], ℕ, ◌+◌, ◌*◌, ◌≤◌, ◌<◌, length, get_or}
use Rattle.lists.specs.All.{All}
use Rattle.words.specs.Word.{Word}
use Rattle.packedwords.specs.Packed.{Codes, Nonzero}
use Rattle.leads.specs.Masks.{bit}

-- How many masks there are.
abbrev pub index_size : ℕ
index_size = 832

-- A word has a mark in row k at column x: at the code of each of its letters, and behind the last at 0.
pub record CodeMarked (b : Word) (k x : ℕ) : Type 0 where
  pub row : k ≤ length b
  pub at : get_or b k 0 ≡ x

-- Word g's mark in row k at column x.
abbrev pub HasCode : List ℕ → ℕ → ℕ → ℕ → Type 0
HasCode t g k x = bit (get_or t (k * 32 + x) 0) g ≡ 1

-- b may begin a word whose first two codes are c and d: it has no first letter, or c, and no second, or d.
pub record Opens (b : Word) (c d : ℕ) : Type 0 where
  pub first : 0 < length b → get_or b 0 0 ≡ c
  pub second : 1 < length b → get_or b 1 0 ≡ d

-- The mark of the codes c and d.
abbrev pub HasPair : List ℕ → ℕ → ℕ → Type 0
HasPair t c d = bit (get_or t (800 + c) 0) d ≡ 1

-- A list that has an index: at most 64 words, each of at most 24 letters, which are codes other than 0.
pub record CodeIndexable (ls : List Word) : Type 0 where
  pub few : length ls ≤ 64
  pub short : All (λ b. length b ≤ 24) ls
  pub codes : All Codes ls
  pub nonzero : All Nonzero ls

-- The masks are the index of the list: the rows have the marks of the list's words, and no others; the pairs that a word may open are marked.
pub record CodeIndexed (ls : List Word) (t : List ℕ) : Type 0 where
  pub words : CodeIndexable ls
  pub room : length t ≡ index_size
  pub held : (g k x : ℕ) → g < length ls → k < 25 → x < 32 → CodeMarked (get_or ls g []) k x → HasCode t g k x
  pub only : (g k x : ℕ) → k < 25 → x < 32 → HasCode t g k x → (g < length ls) × CodeMarked (get_or ls g []) k x
  pub opens : (g c d : ℕ) → g < length ls → c < 32 → d < 32 → Opens (get_or ls g []) c d → HasPair t c d

-- Masks without marks.
pub record CodeBlank (t : List ℕ) : Type 0 where
  pub room : length t ≡ index_size
  pub zeros : (i : ℕ) → get_or t i 0 ≡ 0

-- The index in the making: the pairs of the first p words are marked; rows are done word after word, so that word g's row k comes after g * 25 + k
-- others, and the marks of the first s rows are there, and no others.
pub record CodesHold (ls : List Word) (p s : ℕ) (t : List ℕ) : Type 0 where
  pub room : length t ≡ index_size
  pub held : (g k x : ℕ) → g * 25 + k < s → k < 25 → x < 32 → CodeMarked (get_or ls g []) k x → HasCode t g k x
  pub only : (g k x : ℕ) → k < 25 → x < 32 → HasCode t g k x → (g * 25 + k < s) × CodeMarked (get_or ls g []) k x
  pub opens : (g c d : ℕ) → g < p → c < 32 → d < 32 → Opens (get_or ls g []) c d → HasPair t c d

-- From t to u the rows of word g are done, in every list whose word g it is.
abbrev pub CodeRowsDone : Word → ℕ → List ℕ → List ℕ → Type 0
CodeRowsDone b g t u = (ls : List Word) (p : ℕ) → get_or ls g [] ≡ b → CodesHold ls p (g * 25) t → CodesHold ls p (g * 25 + 25) u

-- From t to u the pairs that b may open are marked as well; the rows are as they were, and no pair is lost.
pub record PairsDone (b : Word) (t u : List ℕ) : Type 0 where
  pub room : length u ≡ length t
  pub rows : (i : ℕ) → i < 800 → get_or u i 0 ≡ get_or t i 0
  pub kept : (c d : ℕ) → c < 32 → d < 32 → HasPair t c d → HasPair u c d
  pub opens : (c d : ℕ) → c < 32 → d < 32 → Opens b c d → HasPair u c d
