-- How bringing a formula to its short form ends (document 01, 'Steps', and the order of refusals).
use Rattle.std.specs.Prelude.{List, ℕ}
use Rattle.field.specs.Field.{field_of}
use Rattle.words.specs.Order.{word_order}
use Rattle.algebra.specs.Poly.{Poly}
use Rattle.algebra.specs.Steps.{Ended, answer, over, spent, run}
use Rattle.package.specs.declared.Limits.{Limits}
use Rattle.package.specs.Formula.{FormulaOutcome, wrong_at, formula, read_formula}
use Rattle.package.specs.Package.{Package, Outcome, refused, read}
use Rattle.acceptance.specs.Content.{basis}
use Rattle.acceptance.specs.Acceptance.{acceptance}

-- A formula's bounds: 48 terms, words of 24 letters.
abbrev pub formula_limits : Limits
formula_limits = record { terms = 48; len = 24 }

-- Refused with number and place, or the short form and the number of steps.
pub data Reduction : Type 0 where
  refused_by : ℕ → ℕ → Reduction
  short_form : Poly → ℕ → Reduction

-- 17 and 18 as steps go; the place of 18 is the budget.
unfoldable pub reduction_of : ℕ → Ended → Reduction
reduction_of budget (answer N m) = short_form N m
reduction_of budget (over k) = refused_by 17 k
reduction_of budget spent = refused_by 18 budget

-- 16 for a formula that does not read.
unfoldable pub formula_reduced : Package → ℕ → FormulaOutcome → Reduction
unfolding reduction_of run field_of word_order basis
formula_reduced P budget (wrong_at n) = refused_by 16 n
formula_reduced P budget (formula f) = reduction_of budget (run 512 (field_of P.head.p) word_order (basis P) budget 0 f)

unfoldable pub package_reduced : List ℕ → ℕ → Outcome → Reduction
unfolding formula_reduced read_formula
package_reduced text budget (refused n k) = refused_by n k
package_reduced text budget (read P) = formula_reduced P budget (read_formula P.head.p P.head.letters formula_limits text)

-- Formula services judge the whole package, then 16, then 17 and 18 as steps go.
unfoldable pub reduction : List ℕ → List ℕ → ℕ → Reduction
unfolding package_reduced acceptance
reduction bytes text budget = package_reduced text budget (acceptance bytes)
