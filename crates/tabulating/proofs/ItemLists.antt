-- Lists of a table's polynomials, and of their terms: what holds of each holds of all, and what each becomes the list becomes.
use mathlib.Core.Path.{◌≡◌, refl, ap₂, subst}
use mathlib.Core.Logic.{◌≢◌}
use mathlib.Core.List.{List, [], ◌∷◌, map, cons≢nil}
use Prim.Native.Nat.{ℕ, zero, suc, ◌+◌, ◌≤◌, ◌<◌}
use native.Mathlib.Omega.{arith}
use Rattle.lists.specs.All.{All, done, ◌also◌}
use Rattle.field.specs.Field.{Operations}
use Rattle.algebra.specs.Poly.{Term, Poly, scale}
use Rattle.algebra.specs.Groebner.{lead_coef}
use Rattle.working.specs.Working.{terms}
use Rattle.table.specs.Polynomials.{polynomial_in, polynomials_in}

-- what holds of each of n polynomials holds of all
pub polynomials-all : (P : Poly → Type 0) (t : List ℕ) (j n : ℕ) → ((k : ℕ) → k < n → P (polynomial_in t (j + k))) → All P (polynomials_in t j n)
unfolding polynomials_in
polynomials-all P t j zero h = done
polynomials-all P t j (suc n) h =
    let e : j + 0 ≡ j = omega arith in
    subst (λ (k : ℕ). P (polynomial_in t k)) e (h 0 (omega arith))
    also polynomials-all P t (suc j) n (λ k l. let q : j + suc k ≡ suc j + k = omega arith in subst (λ (i : ℕ). P (polynomial_in t i)) q (h (suc k) (omega arith)))

-- every term times y
pub terms-scaled : (F G : ℕ → Term) (y : ℕ) (K : Operations) (i n : ℕ)
    → ((j : ℕ) → i ≤ j → j < i + n → G j ≡ record { coef = K.mul y (F j).coef; word = (F j).word }) → terms G i n ≡ scale K y (terms F i n)
unfolding terms scale
terms-scaled F G y K i zero h = refl
terms-scaled F G y K i (suc n) h = ap₂ ◌∷◌ (h i (omega arith) (omega arith)) (terms-scaled F G y K (suc i) n (λ j a b. h j (omega arith) (omega arith)))

-- each is as it was
pub polynomials-same : (t u : List ℕ) (j n : ℕ) → ((k : ℕ) → k < n → polynomial_in u (j + k) ≡ polynomial_in t (j + k)) → polynomials_in u j n ≡ polynomials_in t j n
unfolding polynomials_in
polynomials-same t u j zero h = refl
polynomials-same t u j (suc n) h =
    let e : j + 0 ≡ j = omega arith in
    ap₂ ◌∷◌ (rw e at (h 0 (omega arith)))
    (polynomials-same t u (suc j) n (λ k l. let q : j + suc k ≡ suc j + k = omega arith in rw q at (h (suc k) (omega arith))))

-- each becomes another
pub polynomials-map : (F : Poly → Poly) (t u : List ℕ) (j n : ℕ) → ((k : ℕ) → k < n → polynomial_in u (j + k) ≡ F (polynomial_in t (j + k)))
    → polynomials_in u j n ≡ map F (polynomials_in t j n)
unfolding polynomials_in
polynomials-map F t u j zero h = refl
polynomials-map F t u j (suc n) h =
    let e : j + 0 ≡ j = omega arith in
    ap₂ ◌∷◌ (rw e at (h 0 (omega arith)))
    (polynomials-map F t u (suc j) n (λ k l. let q : j + suc k ≡ suc j + k = omega arith in rw q at (h (suc k) (omega arith))))

-- a polynomial times y has a first term, where it has one
pub scaled-some : (K : Operations) (y : ℕ) (f : Poly) → f ≢ [] → (scale K y f ≢ []) × (lead_coef (scale K y f) ≡ K.mul y (lead_coef f))
unfolding scale lead_coef
scaled-some K y [] n = absurd (n refl)
scaled-some K y (s ∷ f) n = (cons≢nil, refl)
