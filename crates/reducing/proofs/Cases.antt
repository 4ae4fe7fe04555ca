-- What a formula is brought to under a package, case by case: the package is refused, the formula does not read, or it is run; and that a basis divided by
-- its leading coefficients serves for it.
use mathlib.Core.Path.{◌≡◌, refl, sym, ◌∙◌, ap, ap₂}
use mathlib.Core.Logic.{◌⊎◌}
use mathlib.Core.List.{List, [], map}
use Prim.Native.Nat.{ℕ}
use Rattle.std.specs.Prelude.{Result, Ok}
use Rattle.field.specs.Field.{field_of}
use Rattle.words.specs.Order.{word_order}
use Rattle.algebra.specs.Poly.{Poly}
use Rattle.algebra.specs.Ideal.{family}
use Rattle.algebra.specs.Groebner.{Led, monic}
use Rattle.algebra.specs.Steps.{run}
use Rattle.algebra.proofs.DividedRuns.{run-monic}
use Rattle.algebra.proofs.WrittenForm.{written-led}
use Rattle.working.proofs.Families.{family-written}
use Rattle.package.specs.declared.Head.{Head}
use Rattle.package.specs.declared.Refusal.{Refusal}
use Rattle.package.specs.Formula.{FormulaOutcome, wrong_at, formula, read_formula}
use Rattle.package.specs.Package.{refused}
use Rattle.acceptance.specs.Content.{basis}
use Rattle.acceptance.specs.Acceptance.{acceptance}
use Rattle.acceptance.specs.Reduction.{formula_limits, refused_by, reduction_of, formula_reduced, package_reduced, reduction}
use Rattle.table.specs.Table.{prime_in, letters_in, field_in, order_in}
use Rattle.table.specs.Polynomials.{basis_in}
use Rattle.table.specs.Tabled.{Tabled}
use Rattle.tablesums.specs.Heading.{head_in}
use Rattle.accepting.specs.Accepted.{TableAccepted, Accepts}
use Rattle.reducing.specs.Reductions.{reduced_by}

-- A package that is refused.
pub turned_refused : (bytes text : List ℕ) (budget n k : ℕ) → acceptance bytes ≡ refused n k → refused_by n k ≡ reduction bytes text budget
unfolding reduction package_reduced
turned_refused bytes text budget n k e = sym (ap (package_reduced text budget) e)

-- A package that is taken.
pub taken-accepted : (bytes t : List ℕ) (r : Result ℕ Refusal) (n : ℕ) → Accepts bytes t r → r ≡ Ok n → TableAccepted bytes t
unfolding Accepts
taken-accepted bytes t r n a e = (rw e at a).0

-- A formula that does not read: 16 at its line.
pub wrong_refused : (t : List ℕ) (budget n : ℕ) (u : FormulaOutcome) → wrong_at n ≡ u → refused_by 16 n ≡ reduced_by t budget u
unfolding reduced_by
wrong_refused t budget n u e = ap (reduced_by t budget) e

-- A formula that reads is run; g is what the run begins with.
pub run-reduced : (t : List ℕ) (budget : ℕ) (f g : Poly) (u : FormulaOutcome) → u ≡ formula f → g ≡ f
    → reduction_of budget (run 512 (field_in t) (order_in t) (basis_in t) budget 0 g) ≡ reduced_by t budget u
unfolding reduced_by
run-reduced t budget f g u e q = ap (λ (h : Poly). reduction_of budget (run 512 (field_in t) (order_in t) (basis_in t) budget 0 h)) q ∙ sym (ap (reduced_by t budget) e)

module _ {bytes t : List ℕ} (a : TableAccepted bytes t) where
  -- Under an accepted package the formula decides.
  pub table_reduced : (text : List ℕ) (budget : ℕ)
      → reduced_by t budget (read_formula (prime_in t) (letters_in t) formula_limits text) ≡ reduction bytes text budget
  unfolding reduction package_reduced formula_reduced reduced_by
  table_reduced text budget =
      sym (ap (package_reduced text budget) a.accepted ∙ by_head a.whole.head a.head (read_formula a.whole.head.p a.whole.head.letters formula_limits text) refl)
    where
      same : (u : FormulaOutcome) → formula_reduced a.whole budget u ≡ reduced_by t budget u
      same (wrong_at n) = refl
      same (formula f) =
          ap (λ (h : Head). reduction_of budget (run 512 (field_of h.p) word_order (basis a.whole) budget 0 f)) a.head
          ∙ ap (λ (ps : List Poly). reduction_of budget (run 512 (field_in t) (order_in t) ps budget 0 f)) (sym a.basis)

      by_head : (h : Head) → h ≡ head_in t → (u : FormulaOutcome) → u ≡ read_formula h.p h.letters formula_limits text
          → formula_reduced a.whole budget u ≡ reduced_by t budget (read_formula (prime_in t) (letters_in t) formula_limits text)
      by_head h e u q = same u ∙ ap (reduced_by t budget) (q ∙ ap (λ (k : Head). read_formula k.p k.letters formula_limits text) e)

-- Under a table whose basis is divided by its leading coefficients a formula comes to the same.
pub divided-reduced : (t u : List ℕ) → Tabled t → prime_in u ≡ prime_in t → letters_in u ≡ letters_in t → basis_in u ≡ map (monic (field_in t)) (basis_in t)
    → (text : List ℕ) (budget : ℕ)
    → reduced_by u budget (read_formula (prime_in u) (letters_in u) formula_limits text) ≡ reduced_by t budget (read_formula (prime_in t) (letters_in t) formula_limits text)
unfolding reduced_by
divided-reduced t u T p l b text budget =
    ap₂ (λ (x y : ℕ). reduced_by u budget (read_formula x y formula_limits text)) p l ∙ go (read_formula (prime_in t) (letters_in t) formula_limits text)
  where
    leads : (i : ℕ) → (family (basis_in t) i ≡ []) ⊎ Led (field_in t) (order_in t) (family (basis_in t) i)
    leads i = written-led T.field T.suits.admissible (family (basis_in t) i) (family-written (field_in t) (order_in t) (basis_in t) T.basis-written i)

    go : (o : FormulaOutcome) → reduced_by u budget o ≡ reduced_by t budget o
    go (wrong_at n) = refl
    go (formula f) =
        ap₂ (λ (x : ℕ) (ps : List Poly). reduction_of budget (run 512 (field_of x) (order_in t) ps budget 0 f)) p b
        ∙ ap (reduction_of budget) (run-monic T.field T.suits.admissible (basis_in t) leads 512 budget 0 f)
