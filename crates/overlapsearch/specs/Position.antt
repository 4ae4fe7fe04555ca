-- Places in the order of the pairs, and what is left of their list from a place on.
use Rattle.std.specs.Prelude.{Bool, true, false, List, [], ◌∷◌, ◌++◌, ℕ, zero, suc, ◌+◌, ◌-◌, ◌≤◌, ◌<◌, min, ltb, length, get_or, drop, Option, Some, None}
use Rattle.words.specs.Word.{Word}
use Rattle.words.specs.Place.{stands_at}
use Rattle.wordplaces.specs.TwoLetters.{two_same}
use Rattle.overlaps.specs.Pairs.{Pair}
use Rattle.overlaps.specs.Overlaps.{Part, shares, places_in, sharing, placing, pairs_from, with_first, from_first}
use Rattle.overlapsearch.specs.declared.Cursor.{Cursor}
use Rattle.overlapsearch.specs.declared.PairAt.{PairAt}

-- The part that a place is in.
unfoldable pub part_of : Bool → Part
unfolding shares places_in stands_at
part_of inside = elim inside [ true ↦ placing | false ↦ sharing ]

-- The least number from s on, among k numbers, that passes a test.
unfoldable pub next_passing : (ℕ → Bool) → ℕ → ℕ → Option ℕ
next_passing test s zero = None
next_passing test s (suc k) = elim (test s) [ true ↦ Some s | false ↦ next_passing test (suc s) k ]

-- The least number from s on that polynomials i and j with leading words u and v give in a part.
abbrev pub next_in : Part → Word → Word → ℕ → ℕ → ℕ → Option ℕ
next_in X u v i j s = next_passing (X.passes u v) s (X.limit u v i j - s)

-- The least number of letters from s on, below both lengths, that the end of u and the beginning of v share.
abbrev pub shared_by : Word → Word → ℕ → Option ℕ
shared_by u v s = next_passing (shares u v) s (min (length u) (length v) - s)

-- The least number from k on, among n numbers, where v's letters k - 2 and k - 1 are u's last two; the number behind them where there is none.
-- Where they are not, k letters are not shared.
unfoldable pub next_agreeing : Word → Word → ℕ → ℕ → ℕ
unfolding two_same
next_agreeing u v k zero = k
next_agreeing u v k (suc n) = elim (two_same v (k - 2) u (length u - 2)) [ true ↦ k | false ↦ next_agreeing u v (suc k) n ]

-- The least number from a place on that its two words give.
abbrev pub next_at : Word → Word → Cursor → Option ℕ
next_at u v c = next_in (part_of c.inside) u v (suc c.first) (suc c.second) c.number

-- What the words of a list give in a part from two of them, counted from 0, and a number on: those of the two words, those of the first with the words
-- behind the second, and those of the words behind the first.
unfoldable pub rows_at : Part → List Word → ℕ → ℕ → ℕ → List Pair
unfolding pairs_from with_first from_first
rows_at X ws first second n =
    pairs_from X (get_or ws first []) (get_or ws second []) (suc first) (suc second) n (X.limit (get_or ws first []) (get_or ws second []) (suc first) (suc second) - n)
    ++ (with_first X (get_or ws first []) (suc first) (drop (suc second) ws) (suc (suc second))
    ++ from_first X ws (drop (suc first) ws) (suc (suc first)))

-- What is left of a place's part: nothing where the place is behind all words.
unfoldable pub part_at : List Word → Cursor → List Pair
unfolding part_of rows_at
part_at ws c = elim (ltb c.first (length ws)) [ true ↦ rows_at (part_of c.inside) ws c.first c.second c.number | false ↦ [] ]

-- The parts behind a part: behind the overlaps come the inclusions.
unfoldable pub parts_behind : Bool → List Word → List Pair
unfolding from_first places_in stands_at
parts_behind inside ws = elim inside [ true ↦ [] | false ↦ from_first placing ws ws 1 ]

-- The pairs from a place on.
unfoldable pub pairs_at : List Word → Cursor → List Pair
unfolding part_at parts_behind
pairs_at ws c = part_at ws c ++ parts_behind c.inside ws

-- The first place of all.
abbrev pub origin : Cursor
origin = record { inside = false; first = 0; second = 0; number = 1 }

-- The first place of the inclusions.
abbrev pub turn : Cursor
turn = record { inside = true; first = 0; second = 0; number = 0 }

-- The first place of a part for the two words behind two of n words.
unfoldable pub row_after : Cursor → ℕ → Cursor
unfolding part_of
row_after c n = elim (ltb (suc c.second) n) [
  | true ↦ record { inside = c.inside; first = c.first; second = suc c.second; number = (part_of c.inside).lowest }
  | false ↦ record { inside = c.inside; first = suc c.first; second = 0; number = (part_of c.inside).lowest }
]

-- The pair of a place's two words, of a and b letters, and a number that they give.
unfoldable pub pair_found : Cursor → ℕ → ℕ → ℕ → PairAt
pair_found c a b n = elim c.inside [
  | true ↦ record { inside = true; first = c.first; second = c.second; shared = b; at = n }
  | false ↦ record { inside = false; first = c.first; second = c.second; shared = n; at = a - n }
]

-- As a pair of polynomials: numbers count from 1.
abbrev pub pair_of : PairAt → Pair
pair_of f = record { first = suc f.first; second = suc f.second; shared = f.shared; at = f.at }

-- The number of its place.
unfoldable pub number_of : PairAt → ℕ
number_of f = elim f.inside [ true ↦ f.at | false ↦ f.shared ]

-- The place behind a pair.
abbrev pub behind : PairAt → Cursor
behind f = record { inside = f.inside; first = f.first; second = f.second; number = suc (number_of f) }

-- A pair that was found and those behind it in its part, or none.
unfoldable pub seen_in_part : List Word → Option PairAt → List Pair
unfolding part_at number_of
seen_in_part ws None = []
seen_in_part ws (Some f) = pair_of f ∷ part_at ws (behind f)

-- A pair that was found and all those behind it, or none.
unfoldable pub seen_pairs : List Word → Option PairAt → List Pair
unfolding pairs_at number_of
seen_pairs ws None = []
seen_pairs ws (Some f) = pair_of f ∷ pairs_at ws (behind f)

-- A place among n words: it is behind all of them, or names two of them.
abbrev pub Placed : ℕ → Cursor → Type 0
Placed n c = c.first < n → c.second < n

-- No word has over 24 letters.
abbrev pub AtMost24 : List ℕ → ℕ → Type 0
AtMost24 lens n = (g : ℕ) → g < n → get_or lens g 0 ≤ 24

-- A pair of two of n words: they have at most 24 letters, and the shared letters, from where they begin, lie in both.
pub record FoundAt (lens : List ℕ) (n : ℕ) (f : PairAt) : Type 0 where
  pub first : f.first < n
  pub second : f.second < n
  pub short-first : get_or lens f.first 0 ≤ 24
  pub short-second : get_or lens f.second 0 ≤ 24
  pub within_first : f.at + f.shared ≤ get_or lens f.first 0
  pub within-second : f.shared ≤ get_or lens f.second 0
