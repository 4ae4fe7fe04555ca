-- One step of a run, as the code answers it: nothing is left to be done, the budget is spent, the step leaves too many terms, or it was made.
use Rattle.std.specs.Prelude.{◌≡◌, List, ℕ, ◌+◌, ◌≤◌, ◌<◌, length, Option, Some, None, Result, Ok, Err}
use Rattle.algebra.specs.Poly.{Term, Poly}
use Rattle.algebra.specs.Spot.{reduced, reducible, target}
use Rattle.algebra.specs.Steps.{stepped}
use Rattle.packedsteps.specs.Spots.{NoSpots}
use Rattle.table.specs.Table.{field_in, order_in}
use Rattle.table.specs.Polynomials.{basis_in}
use Rattle.packedterms.specs.declared.PackedWord.{PackedWord}
use Rattle.packedterms.specs.declared.WorkingFormula.{WorkingFormula}
use Rattle.packedterms.specs.InFormula.{formula_in, WorkingIn}
use Rattle.packedsteps.specs.declared.Advanced.{Advanced}
use Rattle.packedsteps.specs.declared.Stop.{Stop}
use Rattle.packedsteps.specs.declared.Stop.TheVariants.{Over, Spent}
use Rattle.packedsteps.specs.Lines.{LineTaken}

-- A step applies to f: at the term, at the place in its word, with the polynomial of that number.
pub record Pending (t : List ℕ) (f : Poly) : Type 0 where
  pub term : Term
  pub place : ℕ
  pub number : ℕ
  pub at : target (basis_in t) f ≡ reducible term place number

-- f after that step.
abbrev pub after_step : (t : List ℕ) (f : Poly) → Pending t f → Poly
after_step t f p = stepped (field_in t) (order_in t) (basis_in t) f p.term p.place p.number

-- The step was not made, since it leaves over 512 terms.
pub record TooMany (t : List ℕ) (f : Poly) (used budget : ℕ) : Type 0 where
  pub pending : Pending t f
  pub more : used < budget
  pub many : 512 < length (after_step t f pending)

-- The step was made: h is what it leaves, at most 512 terms, no word before term k has a leading word inside, and this is the line taken away.
pub record StepMade (t : List ℕ) (f : Poly) (used budget : ℕ) (h : WorkingFormula) (left right : PackedWord 6) (k g x : ℕ) : Type 0 where
  pub pending : Pending t f
  pub more : used < budget
  pub few : h.terms ≤ 512
  pub working : WorkingIn t h
  pub sum : formula_in t h ≡ after_step t f pending
  pub clear : NoSpots (basis_in t) (formula_in t h) k
  pub of : pending.number ≡ g
  pub line : LineTaken t pending.term pending.place g x left right

-- What an answer tells of f, of the working formula h as it then is, and of the two words.
unfoldable pub AdvancedTo : (t : List ℕ) (f : Poly) (used budget : ℕ) (h : WorkingFormula) (left right : PackedWord 6) → Result (Option Advanced) Stop → Type 0
AdvancedTo t f used budget h left right (Ok None) = (target (basis_in t) f ≡ reduced) × WorkingIn t h × (formula_in t h ≡ f)
AdvancedTo t f used budget h left right (Ok (Some a)) = StepMade t f used budget h left right a.target.term a.target.number a.coef
AdvancedTo t f used budget h left right (Err (Over step)) = (step ≡ used + 1) × TooMany t f used budget
AdvancedTo t f used budget h left right (Err Spent) = (used ≡ budget) × Pending t f
