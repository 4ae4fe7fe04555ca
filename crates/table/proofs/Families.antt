-- Relations and basis polynomials by number are the polynomials of the items, and how many they are.
use mathlib.Core.Path.{◌≡◌, refl, ◌∙◌, ap}
use mathlib.Core.List.{List}
use Prim.Native.Nat.{ℕ, zero, suc, ◌+◌, ◌<◌}
use native.Mathlib.Omega.{arith}
use lib.ListN.{length}
use Rattle.algebra.specs.Ideal.{family}
use Rattle.table.specs.Table.{gens_in, basis_count_in}
use Rattle.table.specs.Polynomials.{polynomial_in, polynomials_in, relations_in, basis_in}

family_from : (t : List ℕ) (j n k : ℕ) → k < n → family (polynomials_in t j n) (suc k) ≡ polynomial_in t (j + k)
unfolding family polynomials_in
family_from t j zero k h = absurd (omega arith)
family_from t j (suc n) zero h = ap (polynomial_in t) (omega arith)
family_from t j (suc n) (suc k) h = family_from t (suc j) n k (omega arith) ∙ ap (polynomial_in t) (omega arith)

-- n polynomials are n.
pub polynomials-count : (t : List ℕ) (j n : ℕ) → length (polynomials_in t j n) ≡ n
unfolding polynomials_in
polynomials-count t j zero = refl
polynomials-count t j (suc n) = ap suc (polynomials-count t (suc j) n)

pub family-relations : (t : List ℕ) (k : ℕ) → k < gens_in t → family (relations_in t) (suc k) ≡ polynomial_in t (suc k)
family-relations t k h = family_from t 1 (gens_in t) k h ∙ ap (polynomial_in t) (omega arith)

pub family-basis : (t : List ℕ) (k : ℕ) → k < basis_count_in t → family (basis_in t) (suc k) ≡ polynomial_in t (gens_in t + suc k)
family-basis t k h = family_from t (gens_in t + 1) (basis_count_in t) k h ∙ ap (polynomial_in t) (omega arith)
