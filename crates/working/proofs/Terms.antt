-- Runs of terms: what is next, how a run splits, and what holds of all of its terms.
use mathlib.Core.Path.{◌≡◌, refl, sym, ap, ap₂, ◌∙◌}
use mathlib.Core.List.{[], ◌∷◌, ◌++◌}
use Prim.Native.Nat.{ℕ, zero, suc, ◌+◌, ◌-◌, ◌≤◌, ◌<◌}
use native.Mathlib.Nat.{add-zero}
use native.Mathlib.Numerals.{add-one}
use native.Mathlib.Decide.{ℕ_discrete}
use native.Mathlib.Omega.{arith}
use lib.ListN.{length, get_or}
use Rattle.lists.specs.All.{All, done, ◌also◌}
use Rattle.algebra.specs.Poly.{Term, Poly}
use Rattle.working.specs.Working.{terms}
use Rattle.working.specs.Rotation.{rotated_right, rotated_left}
use Rattle.working.proofs.RotationRight.{right_at, right-low, right_mid}
use Rattle.working.proofs.RotationLeft.{left-low, left_mid}

-- No terms.
pub terms-none : (F : ℕ → Term) (k : ℕ) → k ≡ 0 → terms F 0 k ≡ []
unfolding terms
terms-none F k e = rw e

module _ (F : ℕ → Term) where
  pub terms-length : (i k : ℕ) → length (terms F i k) ≡ k
  unfolding terms
  terms-length i zero = refl
  terms-length i (suc k) = ap suc (terms-length (suc i) k)

  pub terms-next : (i n : ℕ) → i < n → terms F i (n - i) ≡ F i ∷ terms F (i + 1) (n - (i + 1))
  unfolding terms
  terms-next i n h = let e : n - i ≡ suc (n - (i + 1)) = omega arith in rw (e, add-one i)

  pub terms-end : (i n : ℕ) → n ≤ i → terms F i (n - i) ≡ []
  unfolding terms
  terms-end i n h = let e : n - i ≡ 0 = omega arith in rw e

  terms_split : (i k m : ℕ) → terms F i (k + m) ≡ terms F i k ++ terms F (i + k) m
  unfolding terms
  terms_split i zero m = let e : 0 + m ≡ m = omega arith in let d : i + 0 ≡ i = omega arith in rw (e, d)
  terms_split i (suc k) m =
      let e : suc k + m ≡ suc (k + m) = omega arith in
      let d : i + suc k ≡ suc i + k = omega arith in
      rw (e, d) (ap (λ (f : Poly). F i ∷ f) (terms_split (suc i) k m))

  -- the first k, and the others
  pub terms-cut : (k n : ℕ) → k ≤ n → terms F 0 n ≡ terms F 0 k ++ terms F k (n - k)
  terms-cut k n h =
      let e : n ≡ k + (n - k) = omega arith in
      let d : 0 + k ≡ k = omega arith in
      ap (terms F 0) e ∙ terms_split 0 k (n - k) ∙ rw d

  -- the first n, and the next
  pub terms-last : (n : ℕ) → terms F 0 (n + 1) ≡ terms F 0 n ++ (F n ∷ [])
  terms-last n =
      terms-cut n (n + 1) (omega arith)
      ∙ ap (λ (f : Poly). terms F 0 n ++ f) (terms-next n (n + 1) (omega arith) ∙ ap (λ (f : Poly). F n ∷ f) (terms-end (n + 1) (n + 1) (omega arith)))

  -- term k by its number
  terms-get : (i k j : ℕ) (d : Term) → j < k → get_or (terms F i k) j d ≡ F (i + j)
  unfolding terms
  terms-get i zero j d h = absurd (omega arith)
  terms-get i (suc k) zero d h = ap F (omega arith)
  terms-get i (suc k) (suc j) d h = terms-get (suc i) k j d (omega arith) ∙ ap F (omega arith)

  pub terms_at : (n k : ℕ) (d : Term) → k < n → get_or (terms F 0 n) k d ≡ F k
  terms_at n k d h = terms-get 0 n k d h ∙ ap F (omega arith)

  module _ (P : Term → Type 0) where
    pub terms-all : (i k : ℕ) → ((j : ℕ) → i ≤ j → j < i + k → P (F j)) → All P (terms F i k)
    unfolding terms
    terms-all i zero h = done
    terms-all i (suc k) h = h i (omega arith) (omega arith) also terms-all (suc i) k (λ j a b. h j (omega arith) (omega arith))

    pub all-terms : (i k : ℕ) → All P (terms F i k) → (j : ℕ) → i ≤ j → j < i + k → P (F j)
    unfolding terms
    all-terms i zero h j a b = absurd (omega arith)
    all-terms i (suc k) (x also xs) j a b = go (ℕ_discrete j i) (all-terms (suc i) k xs j)
      where
        go : Dec (j ≡ i) → (suc i ≤ j → j < suc i + k → P (F j)) → P (F j)
        go (yes e) rest = rw e x
        go (no e) rest = rest (omega arith) (omega arith)

-- two runs that agree term by term, wherever they start
pub terms-shift : (G F : ℕ → Term) (a b n : ℕ) → ((j : ℕ) → j < n → G (a + j) ≡ F (b + j)) → terms G a n ≡ terms F b n
unfolding terms
terms-shift G F a b zero h = refl
terms-shift G F a b (suc n) h =
    ap₂ ◌∷◌ (ap G (sym (add-zero a)) ∙ h 0 (omega arith) ∙ ap F (add-zero b))
    (terms-shift G F (suc a) (suc b) n (λ j l. ap G (omega arith) ∙ h (suc j) (omega arith) ∙ ap F (omega arith)))

-- two runs with the same terms
pub terms-same : (G F : ℕ → Term) (i k : ℕ) → ((j : ℕ) → i ≤ j → j < i + k → G j ≡ F j) → terms G i k ≡ terms F i k
terms-same G F i k h = terms-shift G F i i k (λ j l. h (i + j) (omega arith) (omega arith))

module _ (G F : ℕ → Term) (k n : ℕ) (h : k ≤ n) where
  -- term n goes to k
  pub terms-right : ((j : ℕ) → G j ≡ F (rotated_right k n j)) → terms G 0 (n + 1) ≡ terms F 0 k ++ (F n ∷ terms F k (n - k))
  terms-right e =
      let a : terms G 0 k ≡ terms F 0 k = terms-same G F 0 k (λ j _ q. e j ∙ rw (right-low k n j (omega arith))) in
      let b : G k ≡ F n = e k ∙ rw (right_at k n k refl) in
      let d : n + 1 - (k + 1) ≡ n - k = omega arith in
      let s : terms G (suc k) (n - k) ≡ terms F k (n - k) =
      terms-shift G F (suc k) k (n - k) (λ j l. e (suc k + j) ∙ rw (right_mid k n (suc k + j) (omega arith) (omega arith)) (ap F (omega arith))) in
      terms-cut G k (n + 1) (omega arith) ∙ rw (terms-next G k (n + 1) (omega arith), a, b, d, add-one k, s)

  -- term k goes behind the others
  pub terms-left : ((j : ℕ) → G j ≡ F (rotated_left k n j)) → terms G 0 n ≡ terms F 0 k ++ terms F (k + 1) (n - k)
  terms-left e =
      let a : terms G 0 k ≡ terms F 0 k = terms-same G F 0 k (λ j _ q. e j ∙ rw (left-low k n j h (omega arith))) in
      let s : terms G k (n - k) ≡ terms F (suc k) (n - k) =
      terms-shift G F k (suc k) (n - k) (λ j l. e (k + j) ∙ rw (left_mid k n (k + j) (omega arith) (omega arith)) (ap F (omega arith))) in
      terms-cut G k n h ∙ rw (a, s, add-one k)
