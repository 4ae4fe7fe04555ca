-- Sections stored entry by entry, and one behind the other.
use mathlib.Core.Path.{◌≡◌, refl, ◌∙◌, ap}
use mathlib.Core.List.{List}
use Prim.Native.Nat.{ℕ, ◌+◌, ◌-◌, ◌≤◌, ◌<◌}
use native.Mathlib.Nat.{add-zero}
use native.Mathlib.Decide.{dec_lt}
use native.Mathlib.Omega.{arith}
use lib.ListN.{length, get_or, set, length-set}
use lib.Seq.{get_or-set_same, get_or-set_other}
use Rattle.lists.proofs.Entries.{below_next}
use Rattle.tabulating.specs.Filled.{Filled}

pub filled_none : (a : ℕ) (f : ℕ → ℕ) (t : List ℕ) → Filled a 0 f t t
filled_none a f t = record { size = refl; inside = λ k h. absurd (omega arith); below = λ k h. refl; above = λ k h. refl }

-- One entry more.
pub filled_more : (a n : ℕ) (f : ℕ → ℕ) (t u : List ℕ) (x : ℕ) → Filled a n f t u → a + n < length t → x ≡ f n
    → Filled a (n + 1) f t (set u (a + n) x)
filled_more a n f t u x h l e =
    let s = h.size in
    record {
      size = length-set u (a + n) x ∙ h.size;
      inside = below_next (λ (k : ℕ). get_or (set u (a + n) x) (a + k) 0 ≡ f k) n
          (λ k q. get_or-set_other u (a + n) (a + k) x 0 (λ d. omega arith) ∙ h.inside k q) (get_or-set_same u (a + n) x 0 (omega arith) ∙ e);
      below = λ k q. get_or-set_other u (a + n) k x 0 (λ d. omega arith) ∙ h.below k q;
      above = λ k q. get_or-set_other u (a + n) k x 0 (λ d. omega arith) ∙ h.above k (omega arith);
    }

-- Three entries.
pub filled_three : (a : ℕ) (f : ℕ → ℕ) (t : List ℕ) (x y z : ℕ) → a + 3 ≤ length t → x ≡ f 0 → y ≡ f 1 → z ≡ f 2
    → Filled a 3 f t (set (set (set t a x) (a + 1) y) (a + 2) z)
filled_three a f t x y z h d e g =
    let one : Filled a 1 f t (set t a x) = rw (add-zero a) at (filled_more a 0 f t t x (filled_none a f t) (omega arith) d) in
    filled_more a 2 f t _ z (filled_more a 1 f t _ y one (omega arith) e) (omega arith) g

-- Six entries at the front.
pub filled_six : (f : ℕ → ℕ) (t : List ℕ) → 6 ≤ length t
    → Filled 0 6 f t (set (set (set (set (set (set t 0 (f 0)) 1 (f 1)) 2 (f 2)) 3 (f 3)) 4 (f 4)) 5 (f 5))
filled_six f t h =
    let three = filled_three 0 f t (f 0) (f 1) (f 2) (omega arith) refl refl refl in
    let four = filled_more 0 3 f t _ (f 3) three (omega arith) refl in
    let five = filled_more 0 4 f t _ (f 4) four (omega arith) refl in
    filled_more 0 5 f t _ (f 5) five (omega arith) refl

-- A section and another behind it are one.
pub filled_append : (a n m : ℕ) (f g : ℕ → ℕ) (t u v : List ℕ) → Filled a n f t u → Filled (a + n) m g u v → ((k : ℕ) → k < m → g k ≡ f (n + k))
    → Filled a (n + m) f t v
filled_append a n m f g t u v h q e = record {
  size = q.size ∙ h.size;
  inside = λ k l. go k l (dec_lt k n);
  below = λ k l. q.below k (omega arith) ∙ h.below k l;
  above = λ k l. q.above k (omega arith) ∙ h.above k (omega arith);
}
  where
    go : (k : ℕ) → k < n + m → Dec (k < n) → get_or v (a + k) 0 ≡ f k
    go k l (yes d) = q.below (a + k) (omega arith) ∙ h.inside k d
    go k l (no d) =
        let place : a + k ≡ a + n + (k - n) = omega arith in
        let number : n + (k - n) ≡ k = omega arith in
        ap (λ (x : ℕ). get_or v x 0) place ∙ q.inside (k - n) (omega arith) ∙ e (k - n) (omega arith) ∙ ap f number

-- Two sections in a range of entries: all else is kept.
pub filled_range : (a n b m c d : ℕ) (f g : ℕ → ℕ) (t u v : List ℕ) → Filled a n f t u → Filled b m g u v
    → c ≤ a → c ≤ b → a + n ≤ c + d → b + m ≤ c + d
    → Filled c d (λ k. get_or v (c + k) 0) t v
filled_range a n b m c d f g t u v h q e₁ e₂ e₃ e₄ = record {
  size = q.size ∙ h.size;
  inside = λ k l. refl;
  below = λ k l. q.below k (omega arith) ∙ h.below k (omega arith);
  above = λ k l. q.above k (omega arith) ∙ h.above k (omega arith);
}
