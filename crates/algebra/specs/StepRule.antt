-- The rule of steps in document 01's words ('Steps'): a step takes the greatest word that has a leading word inside, at the leftmost place. Where the
-- leading words of several polynomials stand at that place, it takes the lowest number (document 02, P2; under document 01 there is only one).
-- Nothing here says how such a step is found: `target` of Spot.antt computes it, and `target_iff` and `target-none_iff` of proofs/RuleOfSteps.antt
-- say that it gives exactly what stands here.
use Rattle.std.specs.Prelude.{◌≢◌, ℕ, ◌<◌}
use mathlib.Core.List.{List, [], Memᴰ}
use Rattle.lists.specs.All.{All}
use Rattle.words.specs.Word.{Word}
use Rattle.words.specs.Order.{Order, Lt}
use Rattle.words.specs.Place.{Stands}
use Rattle.algebra.specs.Poly.{Term, Poly}
use Rattle.algebra.specs.Ideal.{family}
use Rattle.algebra.specs.Groebner.{lead}

-- The leading word of polynomial number n of the list, counted from 1, stands in w at place i. The zero polynomial has no leading word, and a number
-- that names no polynomial of the list stands for the zero polynomial.
pub record LeadStands (ps : List Poly) (w : Word) (i n : ℕ) : Type 0 where
  pub nonzero : family ps n ≢ []
  pub stands : Stands (lead (family ps n)) w i

-- w has a leading word inside: one stands in it, at some place.
pub record LeadInside (ps : List Poly) (w : Word) : Type 0 where
  pub place : ℕ
  pub number : ℕ
  pub stands : LeadStands ps w place number

-- The leftmost place of a leading word in w is i, and n is the lowest number of a polynomial whose leading word stands there.
pub record LeftmostLead (ps : List Poly) (w : Word) (i n : ℕ) : Type 0 where
  pub stands : LeadStands ps w i n
  pub leftmost : (j m : ℕ) → j < i → LeadStands ps w j m → ⊥
  pub lowest : (m : ℕ) → m < n → LeadStands ps w i m → ⊥

-- The step from f that the rule names is at the term t, at place i of its word, with polynomial number n: t is a term of f, no word of f above t's
-- has a leading word inside, and i is the leftmost place of one in t's word, n the lowest number there.
pub record StepRule (O : Order) (ps : List Poly) (f : Poly) (t : Term) (i n : ℕ) : Type 0 where
  pub among : Memᴰ t f
  pub greatest : All (λ s. Lt O t.word s.word → LeadInside ps s.word → ⊥) f
  pub place : LeftmostLead ps t.word i n

-- No step is left: no word of f has a leading word inside.
abbrev pub NoStep : List Poly → Poly → Type 0
NoStep ps f = All (λ s. LeadInside ps s.word → ⊥) f
