-- The two rotations undo each other, and neither leads out of a slice.
use mathlib.Core.Path.{◌≡◌, refl, sym}
use Prim.Native.Nat.{ℕ, ◌+◌, ◌-◌, ◌≤◌, ◌<◌}
use native.Mathlib.Decide.{dec_le, dec_lt, ℕ_discrete}
use native.Mathlib.Omega.{arith}
use Rattle.working.specs.Rotation.{rotated_right, rotated_left}
use Rattle.working.proofs.RotationRight.{right_at, right-low, right_mid, right-high}
use Rattle.working.proofs.RotationLeft.{left_at, left-low, left_mid, left-high}

module _ (k n : ℕ) (h : k ≤ n) where
  pub left-right : (j : ℕ) → rotated_left k n (rotated_right k n j) ≡ j
  left-right j = go (ℕ_discrete j k) (dec_lt j k) (dec_le j n)
    where
      go : Dec (j ≡ k) → Dec (j < k) → Dec (j ≤ n) → rotated_left k n (rotated_right k n j) ≡ j
      go (yes e) d f = rw (right_at k n j e, left_at k n n refl) (sym e)
      go (no e) (yes d) f = rw (right-low k n j d, left-low k n j h d)
      go (no e) (no d) (yes f) = rw (right_mid k n j (omega arith) f, left_mid k n (j - 1) (omega arith) (omega arith)) (omega arith)
      go (no e) (no d) (no f) = rw (right-high k n j h (omega arith), left-high k n j h (omega arith))

  pub right-left : (j : ℕ) → rotated_right k n (rotated_left k n j) ≡ j
  right-left j = go (ℕ_discrete j n) (dec_lt j k) (dec_le j n)
    where
      go : Dec (j ≡ n) → Dec (j < k) → Dec (j ≤ n) → rotated_right k n (rotated_left k n j) ≡ j
      go (yes e) d f = rw (left_at k n j e, right_at k n k refl) (sym e)
      go (no e) (yes d) f = rw (left-low k n j h d, right-low k n j d)
      go (no e) (no d) (yes f) = rw (left_mid k n j (omega arith) (omega arith), right_mid k n (j + 1) (omega arith) (omega arith)) (omega arith)
      go (no e) (no d) (no f) = rw (left-high k n j h (omega arith), right-high k n j h (omega arith))

  pub right-below : (s j : ℕ) → n < s → j < s → rotated_right k n j < s
  right-below s j q r = go (ℕ_discrete j k) (dec_lt j k) (dec_le j n)
    where
      go : Dec (j ≡ k) → Dec (j < k) → Dec (j ≤ n) → rotated_right k n j < s
      go (yes e) d f = rw (right_at k n j e) q
      go (no e) (yes d) f = rw (right-low k n j d) r
      go (no e) (no d) (yes f) = rw (right_mid k n j (omega arith) f) (omega arith)
      go (no e) (no d) (no f) = rw (right-high k n j h (omega arith)) r

  pub left_below : (s j : ℕ) → n < s → j < s → rotated_left k n j < s
  left_below s j q r = go (ℕ_discrete j n) (dec_lt j k) (dec_le j n)
    where
      go : Dec (j ≡ n) → Dec (j < k) → Dec (j ≤ n) → rotated_left k n j < s
      go (yes e) d f = rw (left_at k n j e) (omega arith)
      go (no e) (yes d) f = rw (left-low k n j h d) r
      go (no e) (no d) (yes f) = rw (left_mid k n j (omega arith) (omega arith)) (omega arith)
      go (no e) (no d) (no f) = rw (left-high k n j h (omega arith)) r
