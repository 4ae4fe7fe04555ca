-- The list of the pairs of a basis that are to be certified, in the order in which they are listed and numbered: all overlaps (document 01, 'Overlaps'),
-- then all inclusions (document 02, P2); and their differences.
use Rattle.std.specs.Prelude.{Bool, true, false, List, [], ◌∷◌, ◌++◌, ℕ, zero, suc, ◌+◌, ◌-◌, min, eqb, ltb, length, take, drop}
use Rattle.field.specs.Field.{Operations}
use Rattle.words.specs.Word.{Word}
use Rattle.words.specs.Place.{stands_at}
use Rattle.algebra.specs.Poly.{Poly, shift, sub}
use Rattle.lists.specs.Same.{same}
use Rattle.algebra.specs.Ideal.{Family}
use Rattle.algebra.specs.Groebner.{lead, monic}
use Rattle.overlaps.specs.Pairs.{Pair}

-- A part of the list. Polynomials i and j with leading words u and v give, of the numbers from `lowest` on that are below `limit u v i j`, those that
-- pass, rising, each as a pair.
pub record Part : Type 0 where
  pub lowest : ℕ
  pub limit : Word → Word → ℕ → ℕ → ℕ
  pub passes : Word → Word → ℕ → Bool
  pub pair : Word → Word → ℕ → ℕ → ℕ → Pair

-- The last n letters of u are the first n of v.
unfoldable pub shares : Word → Word → ℕ → Bool
unfolding same
shares u v n = same (take n v) (drop (length u - n) u)

-- Overlaps: the number is that of the shared letters, at least 1 and below both lengths.
abbrev pub sharing : Part
sharing = record {
  lowest = 1;
  limit = λ u v i j. min (length u) (length v);
  passes = shares;
  pair = λ u v i j n. record { first = i; second = j; shared = n; at = length u - n };
}

-- How many places a word of b letters, polynomial j's, has in one of a letters, polynomial i's: none in its own and, where the lengths are equal, none
-- in one of a higher number.
unfoldable pub places_in : ℕ → ℕ → ℕ → ℕ → ℕ
places_in a b i j = elim (eqb i j) [
  | true ↦ 0
  | false ↦ elim (ltb b a) [ true ↦ suc a - b | false ↦ elim (ltb i j) [ true ↦ suc a - b | false ↦ 0 ] ]
]

-- Inclusions: the number is the place in u where v begins.
abbrev pub placing : Part
placing = record {
  lowest = 0;
  limit = λ u v i j. places_in (length u) (length v) i j;
  passes = λ u v n. stands_at v u n;
  pair = λ u v i j n. record { first = i; second = j; shared = length v; at = n };
}

-- What two words give from the number s on, through k numbers.
unfoldable pub pairs_from : Part → Word → Word → ℕ → ℕ → ℕ → ℕ → List Pair
pairs_from X u v i j s zero = []
pairs_from X u v i j s (suc k) = elim (X.passes u v s) [
  | true ↦ X.pair u v i j s ∷ pairs_from X u v i j (suc s) k
  | false ↦ pairs_from X u v i j (suc s) k
]

-- What two words give.
unfoldable pub pairs_of : Part → Word → Word → ℕ → ℕ → List Pair
unfolding pairs_from
pairs_of X u v i j = pairs_from X u v i j X.lowest (X.limit u v i j - X.lowest)

-- What polynomial i, with leading word u, gives with each polynomial whose leading word is listed, numbered from j on: second rises.
unfoldable pub with_first : Part → Word → ℕ → List Word → ℕ → List Pair
unfolding pairs_of
with_first X u i [] j = []
with_first X u i (v ∷ vs) j = pairs_of X u v i j ++ with_first X u i vs (suc j)

-- What the listed first polynomials, numbered from i on, give with all: first rises.
unfoldable pub from_first : Part → List Word → List Word → ℕ → List Pair
unfolding with_first
from_first X all [] i = []
from_first X all (u ∷ us) i = with_first X u i all 1 ++ from_first X all us (suc i)

-- The list of a list of leading words: all overlaps, by first, second, shared; then all inclusions, by first, second, place.
unfoldable pub overlaps : List Word → List Pair
unfolding from_first shares places_in stands_at
overlaps ws = from_first sharing ws ws 1 ++ from_first placing ws ws 1

-- The leading words of a basis.
unfoldable pub leads : List Poly → List Word
unfolding lead
leads [] = []
leads (f ∷ ps) = lead f ∷ leads ps

-- The first word followed by the unshared rest of the second. (Of an inclusion nothing is unshared.)
abbrev pub overlap_joined : Word → Word → ℕ → Word
overlap_joined u v shared = u ++ drop shared v

-- Overlap word: the first leading word followed by the unshared rest of the second.
unfoldable pub overlap_word : Family → Pair → Word
unfolding lead
overlap_word G o = overlap_joined (lead (G o.first)) (lead (G o.second)) o.shared

-- What is behind the first leading word in the overlap word: the unshared rest of the second.
unfoldable pub rest_of : Family → Pair → Word
unfolding lead
rest_of G o = drop o.shared (lead (G o.second))

-- What stands before the second leading word in the overlap word.
unfoldable pub front_of : Family → Pair → Word
unfolding lead
front_of G o = take o.at (lead (G o.first))

-- What of the first leading word stands behind the second. (Of an overlap nothing does.)
unfoldable pub back_of : Family → Pair → Word
unfolding lead
back_of G o = drop (o.at + length (lead (G o.second))) (lead (G o.first))

-- Difference: first polynomial × rest, minus front × second polynomial × back, each of the two polynomials divided by its own leading coefficient
-- (document 02, P2 and P4; source document 002, definition 3.5.2).
unfoldable pub difference : Operations → Family → Pair → Poly
unfolding lead shift sub monic rest_of front_of back_of
difference K G o = sub K (shift [] (rest_of G o) (monic K (G o.first))) (shift (front_of G o) (back_of G o) (monic K (G o.second)))
