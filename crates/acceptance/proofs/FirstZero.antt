-- 8: none is refused exactly if no polynomial is zero, and 8 is given exactly with the number of the first that is.
use mathlib.Core.Path.{◌≡◌, refl, sym, ◌∙◌, ap}
use mathlib.Core.Logic.{◌≢◌, ◌⊎◌, inl, inr}
use mathlib.Core.List.{List, [], ◌∷◌, cons≢nil}
use Prim.Native.Nat.{ℕ, zero, suc, ◌+◌, ◌-◌, ◌≤◌, ◌<◌}
use native.Mathlib.Decide.{dec_lt}
use native.Mathlib.Omega.{arith}
use Rattle.lists.specs.All.{All, done, ◌also◌}
use Rattle.lists.proofs.Every.{all_at}
use Rattle.algebra.specs.Poly.{Term, Poly}
use Rattle.algebra.specs.Ideal.{family}
use Rattle.acceptance.specs.Check.{Verdict, refusal, fine, zeros_judged, basis_judged}
use Rattle.acceptance.specs.ZeroBasis.{FirstZero}
use Rattle.acceptance.proofs.Verdicts.{refusal_not_fine}

pub zeros_to : (ps : List Poly) (i : ℕ) → zeros_judged ps i ≡ fine → All (λ f. f ≢ []) ps
unfolding zeros_judged
zeros_to [] i e = done
zeros_to ([] ∷ ps) i e = absurd (refusal_not_fine e)
zeros_to ((t ∷ f) ∷ ps) i e = cons≢nil also zeros_to ps (suc i) e

pub zeros_from : (ps : List Poly) (i : ℕ) → All (λ f. f ≢ []) ps → zeros_judged ps i ≡ fine
unfolding zeros_judged
zeros_from [] i done = refl
zeros_from ([] ∷ ps) i (h also hs) = absurd (h refl)
zeros_from ((t ∷ f) ∷ ps) i (h also hs) = zeros_from ps (suc i) hs

-- a basis that is judged fine has no zero polynomial
pub fine-nonzero : (ps : List Poly) → basis_judged ps ≡ fine → All (λ f. f ≢ []) ps
unfolding basis_judged
fine-nonzero ps e = zeros_to ps 1 e

-- the first zero of a list, behind one polynomial that is not zero
behind : (t : Term) (f : Poly) (ps : List Poly) (i : ℕ) → FirstZero ps i → FirstZero ((t ∷ f) ∷ ps) (suc i)
unfolding family
behind t f ps zero z = absurd (let k = z.some in omega arith)
behind t f ps (suc i) z = record { some = omega arith; most = let k = z.most in omega arith; zero = z.zero; before = go }
  where
    go : (k : ℕ) → 1 ≤ k → k < suc (suc i) → family ((t ∷ f) ∷ ps) k ≢ []
    go zero a b = absurd (omega arith)
    go (suc zero) a b = cons≢nil
    go (suc (suc k)) a b = z.before (suc k) (omega arith) (omega arith)

-- polynomials numbered from j on: none is zero, or 8 is given with the number of the first that is
zeros : (ps : List Poly) (j : ℕ) → (zeros_judged ps j ≡ fine) ⊎ ((i : ℕ) × FirstZero ps i × (zeros_judged ps j ≡ refusal 8 (j + i - 1)))
unfolding zeros_judged family
zeros [] j = inl refl
zeros ([] ∷ ps) j =
    let e : j ≡ j + 1 - 1 = omega arith in
    inr (1, record { some = omega arith; most = omega arith; zero = refl; before = λ k a b. absurd (omega arith) }, ap (refusal 8) e)
zeros ((t ∷ f) ∷ ps) j = go (zeros ps (suc j))
  where
    go : (zeros_judged ps (suc j) ≡ fine) ⊎ ((i : ℕ) × FirstZero ps i × (zeros_judged ps (suc j) ≡ refusal 8 (suc j + i - 1)))
        → (zeros_judged ps (suc j) ≡ fine) ⊎ ((i : ℕ) × FirstZero ((t ∷ f) ∷ ps) i × (zeros_judged ps (suc j) ≡ refusal 8 (j + i - 1)))
    go (inl e) = inl e
    go (inr (i, z, e)) =
        let n : suc j + i - 1 ≡ j + suc i - 1 = omega arith in
        inr (suc i, behind t f ps i z, e ∙ ap (refusal 8) n)

-- there is one first
first-once : {ps : List Poly} {i k : ℕ} → FirstZero ps i → FirstZero ps k → i ≡ k
first-once {ps} {i} {k} x y = go (dec_lt i k) (dec_lt k i)
  where
    go : Dec (i < k) → Dec (k < i) → i ≡ k
    go (yes l) _ = absurd (y.before i x.some l x.zero)
    go (no _) (yes l) = absurd (x.before k y.some l y.zero)
    go (no a) (no b) = omega arith

module _ (ps : List Poly) where
  -- what 8 says
  pub zero_of_refusal : (v : Verdict) → zeros_judged ps 1 ≡ v → (v ≡ fine) ⊎ ((i : ℕ) × FirstZero ps i × (v ≡ refusal 8 i))
  zero_of_refusal v e = go (zeros ps 1)
    where
      go : (zeros_judged ps 1 ≡ fine) ⊎ ((i : ℕ) × FirstZero ps i × (zeros_judged ps 1 ≡ refusal 8 (1 + i - 1))) → (v ≡ fine) ⊎ ((i : ℕ) × FirstZero ps i × (v ≡ refusal 8 i))
      go (inl q) = inl (sym e ∙ q)
      go (inr (i, z, q)) = let n : 1 + i - 1 ≡ i = omega arith in inr (i, z, sym e ∙ q ∙ ap (refusal 8) n)

  -- and where it is given
  pub refusal_of_zero : (i : ℕ) → FirstZero ps i → zeros_judged ps 1 ≡ refusal 8 i
  unfolding family
  refusal_of_zero zero z = absurd (let k = z.some in omega arith)
  refusal_of_zero (suc i) z = go (zero_of_refusal (zeros_judged ps 1) refl)
    where
      go : (zeros_judged ps 1 ≡ fine) ⊎ ((k : ℕ) × FirstZero ps k × (zeros_judged ps 1 ≡ refusal 8 k)) → zeros_judged ps 1 ≡ refusal 8 (suc i)
      go (inl q) = absurd (all_at (zeros_to ps 1 q) [] i (let k = z.most in omega arith) z.zero)
      go (inr (k, y, q)) = q ∙ ap (refusal 8) (first-once y z)
