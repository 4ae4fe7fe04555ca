-- What the parts of the search in a packed word say.
use Rattle.std.specs.Prelude.{◌≡◌, List, ℕ, ◌^◌, ◌≤◌, ◌<◌, drop}
use Rattle.words.specs.Word.{Word}
use Rattle.packedwords.specs.Packed.{Codes, Blocks, window, window_of, unpacked, Packs}
use Rattle.algebra.specs.Spot.{Spot, nowhere, found}
use Rattle.leads.specs.CodeIndex.{CodeIndexed}
use Rattle.leads.specs.SpotOfWords.{BegunBy, spot_of_words_from}

-- Blocks from which windows are read: each block, and each twelve letters in a row, have at most 60 bits.
pub record Windowed (bs : List ℕ) : Type 0 where
  pub blocks : Blocks bs
  pub windows : (i : ℕ) → window_of bs i < 2 ^ 60

-- The first 24 letters of u, with zeros behind its end, are those of the blocks x and y.
pub record Fronted (u : Word) (x y : ℕ) : Type 0 where
  pub codes : Codes u
  pub first : window u 0 ≡ x
  pub second : window u 12 ≡ y

-- r is the mask of the words, of every list that t is the index of, that a word begins with whose first 24 letters are those of x and y.
abbrev pub BegunFrom : List ℕ → ℕ → ℕ → ℕ → Type 0
BegunFrom t x y r = (ls : List Word) (u : Word) → CodeIndexed ls t → Fronted u x y → BegunBy ls u r

-- The spot s, and where that is nowhere the spot r.
unfoldable pub spot_or : Spot → Spot → Spot
spot_or nowhere r = r
spot_or (found i n) r = found i n

-- s is what a search says that goes from place i of w on and stops before place `end`: with what a search from `end` on says it is what a search from
-- i on says.
abbrev pub SpotBetween : List Word → Word → ℕ → ℕ → Spot → Type 0
SpotBetween ls w i end s = spot_or s (spot_of_words_from ls (drop end w) end) ≡ spot_of_words_from ls (drop i w) i

-- The same of the word in blocks, for every list that t is the index of.
abbrev pub SearchedBetween : List ℕ → List ℕ → ℕ → ℕ → Spot → Type 0
SearchedBetween t bs i end s = (ls : List Word) (n : ℕ) → CodeIndexed ls t → Packs n bs → end ≤ n → SpotBetween ls (unpacked n bs) i end s
