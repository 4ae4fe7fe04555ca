-- The basis polynomials of a table divided one after the other.
use mathlib.Core.Path.{◌≡◌, refl, ◌∙◌, ap, ap₂}
use mathlib.Core.List.{List, map}
use Prim.Native.Nat.{ℕ, suc, ◌+◌, ◌≤◌, ◌<◌}
use native.Mathlib.Decide.{dec_lt}
use native.Mathlib.Omega.{arith}
use Rattle.algebra.specs.Groebner.{monic}
use Rattle.table.specs.Table.{prime_in, letters_in, gens_in, basis_count_in, field_in}
use Rattle.table.specs.Polynomials.{polynomial_in, polynomials_in, relations_in, basis_in}
use Rattle.table.specs.Tabled.{Tabled}
use Rattle.tabulating.specs.Divided.{ItemDivided}
use Rattle.tabulating.proofs.ItemLists.{polynomials-map}

-- The first n polynomials of the basis are divided, and the others are not.
pub record DividedBelow (t : List ℕ) (n : ℕ) (u : List ℕ) : Type 0 where
  pub tabled : Tabled u
  pub prime : prime_in u ≡ prime_in t
  pub letters : letters_in u ≡ letters_in t
  pub gens : gens_in u ≡ gens_in t
  pub count : basis_count_in u ≡ basis_count_in t
  pub relations : relations_in u ≡ relations_in t
  pub divided : (k : ℕ) → k < n → k < basis_count_in t → polynomial_in u (gens_in t + suc k) ≡ monic (field_in t) (polynomial_in t (gens_in t + suc k))
  pub left : (k : ℕ) → n ≤ k → k < basis_count_in t → polynomial_in u (gens_in t + suc k) ≡ polynomial_in t (gens_in t + suc k)

pub divided-none : (t : List ℕ) → Tabled t → DividedBelow t 0 t
divided-none t T = record {
  tabled = T;
  prime = refl;
  letters = refl;
  gens = refl;
  count = refl;
  relations = refl;
  divided = λ k a b. absurd (omega arith);
  left = λ k a b. refl;
}

-- One more.
pub divided-more : (t u v : List ℕ) (n : ℕ) → n < basis_count_in t → DividedBelow t n u → ItemDivided u n v → DividedBelow t (n + 1) v
divided-more t u v n h D I = record {
  tabled = I.tabled;
  prime = I.prime ∙ D.prime;
  letters = I.letters ∙ D.letters;
  gens = I.gens ∙ D.gens;
  count = I.count ∙ D.count;
  relations = I.relations ∙ D.relations;
  divided = λ k a b. go k a b (dec_lt k n);
  left = λ k a b. other k b (λ e. omega arith) ∙ D.left k (omega arith) b;
}
  where
    other : (k : ℕ) → k < basis_count_in t → (k ≡ n → ⊥) → polynomial_in v (gens_in t + suc k) ≡ polynomial_in u (gens_in t + suc k)
    other k b ne = rw D.gens at (I.others k (rw D.count b) ne)

    go : (k : ℕ) → k < n + 1 → k < basis_count_in t → Dec (k < n) → polynomial_in v (gens_in t + suc k) ≡ monic (field_in t) (polynomial_in t (gens_in t + suc k))
    go k a b (yes l) = other k b (λ e. omega arith) ∙ D.divided k l b
    go k a b (no l) =
        let e : k ≡ n = omega arith in
        let own : polynomial_in v (gens_in t + suc n) ≡ monic (field_in t) (polynomial_in u (gens_in t + suc n)) = rw (D.gens, D.prime) at I.divided in
        rw e (own ∙ ap (monic (field_in t)) (D.left n (omega arith) h))

-- All of them.
pub divided-all : (t u : List ℕ) (n : ℕ) → basis_count_in t ≤ n → DividedBelow t n u → basis_in u ≡ map (monic (field_in t)) (basis_in t)
divided-all t u n h D =
    ap₂ (λ (a b : ℕ). polynomials_in u (a + 1) b) D.gens D.count
    ∙ polynomials-map (monic (field_in t)) t u (gens_in t + 1) (basis_count_in t)
    (λ k l. let e : gens_in t + suc k ≡ gens_in t + 1 + k = omega arith in rw e at (D.divided k (omega arith) l))
