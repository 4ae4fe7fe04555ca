-- How a run ends, as the code answers it: the polynomial is what the working formula then is.
use Rattle.std.specs.Prelude.{List, ℕ, ◌≤◌, Result, Ok, Err}
use Rattle.algebra.specs.Steps.{Ended, answer, over, spent}
use Rattle.packedsteps.specs.declared.Stop.{Stop}
use Rattle.packedsteps.specs.declared.Stop.TheVariants.{Over, Spent}
use Rattle.packedterms.specs.declared.WorkingFormula.{WorkingFormula}
use Rattle.packedterms.specs.InFormula.{formula_in, WorkingIn}

-- The answer, with the formula as it then is.
unfoldable pub ran_seen : List ℕ → WorkingFormula → Result ℕ Stop → Ended
ran_seen t f (Ok steps) = answer (formula_in t f) steps
ran_seen t f (Err (Over step)) = over step
ran_seen t f (Err Spent) = spent

-- Where there is a short form, the formula is it: a polynomial in written form, of at most 512 terms.
unfoldable pub RanHolds : List ℕ → WorkingFormula → Result ℕ Stop → Type 0
RanHolds t f (Ok steps) = (f.terms ≤ 512) × WorkingIn t f
RanHolds t f (Err e) = Unit {0}
