-- Where a step applies, as it is computed: the greatest word that has a leading word inside, at the leftmost place, with the lowest number there.
-- StepRule.antt states the rule itself, in document 01's words.
use Rattle.std.specs.Prelude.{true, false, List, [], ◌∷◌, ℕ, suc}
use Rattle.std.proofs.Math.Option.{Option, none, some}
use Rattle.words.specs.Word.{Word}
use Rattle.words.specs.Place.{begins}
use Rattle.algebra.specs.Poly.{Term, Poly}

-- The lowest number, counted from n, of a polynomial of the list whose leading word the word begins with.
unfoldable pub first_begins : List Poly → ℕ → Word → Option ℕ
unfolding begins
first_begins [] n w = none
first_begins ([] ∷ ps) n w = first_begins ps (suc n) w
first_begins ((t ∷ f) ∷ ps) n w = elim (begins t.word w) [ true ↦ some n | false ↦ first_begins ps (suc n) w ]

-- A leading word's place in a word, and the number of its polynomial; or no leading word stands inside.
pub data Spot : Type 0 where
  nowhere : Spot
  found : ℕ → ℕ → Spot

-- Place i where a number is found there, else the spot s that was found behind it.
unfoldable pub spot_at : ℕ → Option ℕ → Spot → Spot
spot_at i (some n) s = found i n
spot_at i none s = s

-- The leftmost place of a leading word of the list in w, where w's first letter has place i; of two polynomials that lead there the lower number.
unfoldable pub spot_from : List Poly → Word → ℕ → Spot
unfolding first_begins spot_at
spot_from ps [] i = spot_at i (first_begins ps 1 []) nowhere
spot_from ps (a ∷ w) i = spot_at i (first_begins ps 1 (a ∷ w)) (spot_from ps w (suc i))

-- The same in w, whose first letter has place 0.
unfoldable pub spot : List Poly → Word → Spot
unfolding spot_from
spot ps w = spot_from ps w 0

-- A term of a polynomial whose word has a leading word inside, with the place and the number; or there is none.
pub data Target : Type 0 where
  reduced : Target
  reducible : Term → ℕ → ℕ → Target

-- The term t where its word has a spot, else the target o that was found behind it.
unfoldable pub target_of : Term → Spot → Target → Target
target_of t (found i n) o = reducible t i n
target_of t nowhere o = o

-- The first such term of a polynomial in written form, which has the greatest such word.
unfoldable pub target : List Poly → Poly → Target
unfolding target_of spot
target ps [] = reduced
target ps (t ∷ f) = target_of t (spot ps t.word) (target ps f)
