-- Pairs kept as numbers.
use Rattle.std.specs.Prelude.{◌≡◌, Bool, true, false, Some, List, ℕ, ◌+◌, ◌*◌, ◌<◌, length, get_or, drop}
use Rattle.words.specs.Word.{Word}
use Rattle.overlaps.specs.Overlaps.{overlaps}
use Rattle.overlapsearch.specs.declared.PairAt.{PairAt}
use Rattle.overlapsearch.specs.Position.{seen_pairs, FoundAt}

-- 1 for yes.
unfoldable pub flag_of : Bool → ℕ
flag_of b = elim b [ true ↦ 1 | false ↦ 0 ]

-- A pair as one number: 6 bits for each word, 5 for the shared letters and 5 for the place, and one that says whether it is an inclusion.
unfoldable pub packed_pair : PairAt → ℕ
unfolding flag_of
packed_pair f = ((f.first * 64 + f.second) * 1024 + (f.shared * 32 + f.at)) * 2 + flag_of f.inside

-- The pair's numbers are within these bits.
pub record Small (f : PairAt) : Type 0 where
  pub first : f.first < 64
  pub second : f.second < 64
  pub shared : f.shared < 32
  pub at : f.at < 32

-- The number is that of pair k of the list of the words, counted from 0.
pub record KeptPair (lens : List ℕ) (n : ℕ) (ws : List Word) (packed k : ℕ) : Type 0 where
  pub pair : PairAt
  pub small : Small pair
  pub is : packed ≡ packed_pair pair
  pub found : FoundAt lens n pair
  pub left : seen_pairs ws (Some pair) ≡ drop k (overlaps ws)

-- Of the first count pairs of the list those are kept that there is room for.
abbrev pub KeptPairs : List ℕ → ℕ → List Word → List ℕ → ℕ → Type 0
KeptPairs lens n ws kept count = (k : ℕ) → k < length kept → k < count → KeptPair lens n ws (get_or kept k 0) k
