-- A formula brought to its short form under the basis of a table: the working formula then is it.
use Rattle.std.specs.Prelude.{List, ℕ, ◌≤◌, Result, Ok, Err}
use Rattle.algebra.specs.Steps.{run}
use Rattle.package.specs.Formula.{FormulaOutcome, wrong_at, formula}
use Rattle.acceptance.specs.Reduction.{Reduction, refused_by, short_form, reduction_of}
use Rattle.table.specs.Table.{field_in, order_in}
use Rattle.table.specs.Polynomials.{polynomials_in, basis_in}
use Rattle.packedterms.specs.declared.WorkingFormula.{WorkingFormula}
use Rattle.packedterms.specs.InFormula.{formula_in, WorkingIn}
use Rattle.package.specs.declared.Refusal.{Refusal}

-- What is made of a formula's bytes under the basis of t: 16 where they do not read, else what the run ends with.
unfoldable pub reduced_by : List ℕ → ℕ → FormulaOutcome → Reduction
unfolding reduction_of run polynomials_in
reduced_by t budget (wrong_at n) = refused_by 16 n
reduced_by t budget (formula f) = reduction_of budget (run 512 (field_in t) (order_in t) (basis_in t) budget 0 f)

-- What the answer says, with the working formula as it then is.
unfoldable pub seen_reduced : List ℕ → WorkingFormula → Result ℕ Refusal → Reduction
seen_reduced t f (Ok steps) = short_form (formula_in t f) steps
seen_reduced t f (Err r) = refused_by r.number r.place

-- Where there is a short form, the working formula is it: a polynomial in written form, of at most 512 terms.
unfoldable pub ShortHeld : List ℕ → WorkingFormula → Result ℕ Refusal → Type 0
ShortHeld t f (Ok steps) = (f.terms ≤ 512) × WorkingIn t f
ShortHeld t f (Err r) = Unit {0}
