-- The written form of a run of terms by number: coefficients are elements, and words fall.
use mathlib.Core.Path.{◌≡◌}
use Prim.Native.Nat.{ℕ, zero, suc, ◌+◌, ◌≤◌, ◌<◌}
use native.Mathlib.Decide.{ℕ_discrete}
use native.Mathlib.Omega.{arith}
use Rattle.field.specs.Field.{Operations}
use Rattle.words.specs.Order.{Order, Lt}
use Rattle.algebra.specs.Poly.{Term}
use Rattle.algebra.specs.Written.{Written}
use Rattle.algebra.specs.Written as W
use Rattle.working.specs.Working.{terms}
use Rattle.working.proofs.Terms.{all-terms}

module _ (K : Operations) (O : Order) (F : ℕ → Term) where
  pub written-coef : (i k : ℕ) → Written K O (terms F i k) → (j : ℕ) → i ≤ j → j < i + k → (F j).coef < K.size
  unfolding terms
  written-coef i zero h j a b = absurd (omega arith)
  written-coef i (suc k) (W.term x y q h) j a b = go (ℕ_discrete j i) (written-coef (suc i) k h j)
    where
      go : Dec (j ≡ i) → (suc i ≤ j → j < suc i + k → (F j).coef < K.size) → (F j).coef < K.size
      go (yes e) rest = rw e x
      go (no e) rest = rest (omega arith) (omega arith)

  pub written_falls : (i k : ℕ) → Written K O (terms F i k) → (a b : ℕ) → i ≤ a → a < b → b < i + k → Lt O (F b).word (F a).word
  unfolding terms
  written_falls i zero h a b q r s = absurd (omega arith)
  written_falls i (suc k) (W.term x y u h) a b q r s = go (ℕ_discrete a i) (written_falls (suc i) k h a b)
    where
      go : Dec (a ≡ i) → (suc i ≤ a → a < b → b < suc i + k → Lt O (F b).word (F a).word) → Lt O (F b).word (F a).word
      go (yes e) rest = rw e (all-terms F (λ t. Lt O t.word (F i).word) (suc i) k u b (omega arith) (omega arith))
      go (no e) rest = rest (omega arith) r (omega arith)
