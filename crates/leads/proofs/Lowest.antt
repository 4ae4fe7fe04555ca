-- The zeros below the lowest bit of a mask are counted up to that bit.
use mathlib.Core.Path.{◌≡◌, refl, sym, ap, ◌∙◌}
use Prim.Native.Nat.{ℕ, zero, suc, ◌+◌, ◌/◌, ◌%◌, ◌^◌, ◌<◌}
use native.Mathlib.Omega.{arith}
use native.Mathlib.Nat.{div-one}
use lib.Pow.{shr-shr, shr_lt}
use lib.Count.{count_trailing_zeros}
use Rattle.leads.specs.Masks.{bit, LowestBit}

-- a higher bit is one of the half
bit_half : (m g : ℕ) → bit m (suc g) ≡ bit (m / 2) g
bit_half m g =
    let e : suc g ≡ 1 + g = omega arith in
    ap (λ (n : ℕ). m / 2 ^ n % 2) e ∙ ap (λ (n : ℕ). n % 2) (sym (shr-shr m 1 g))

pub lowest-counted : (k m : ℕ) → (m ≡ 0 → ⊥) → m < 2 ^ k → (count_trailing_zeros k m < k) × LowestBit m (count_trailing_zeros k m)
unfolding count_trailing_zeros
lowest-counted zero m n h = absurd (n (let q : m < 1 = h in omega arith))
lowest-counted (suc k) m n h = go (m % 2) refl (lowest-counted k (m / 2))
  where
    below : m / 2 < 2 ^ k
    below = shr_lt k 1 (let e : k + 1 ≡ suc k = omega arith in rw e h)

    go : (d : ℕ) → m % 2 ≡ d → ((m / 2 ≡ 0 → ⊥) → m / 2 < 2 ^ k → (count_trailing_zeros k (m / 2) < k) × LowestBit (m / 2) (count_trailing_zeros k (m / 2)))
        → (count_trailing_zeros (suc k) m < suc k) × LowestBit m (count_trailing_zeros (suc k) m)
    go zero e ih =
        let (r, l) = ih (λ z. n (omega arith)) below in
        rw (count_trailing_zeros, e) (omega arith, record { set = bit_half m (count_trailing_zeros k (m / 2)) ∙ l.set; lowest = λ j q b. none l j q b })
      where
        none : LowestBit (m / 2) (count_trailing_zeros k (m / 2)) → (j : ℕ) → j < suc (count_trailing_zeros k (m / 2)) → bit m j ≡ 1 → ⊥
        none l zero q b = let z = div-one m in omega arith
        none l (suc j) q b = l.lowest j (omega arith) (sym (bit_half m j) ∙ b)
    go (suc zero) e ih = rw (count_trailing_zeros, e) (omega arith, record { set = let z = div-one m in omega arith; lowest = λ j q. absurd (omega arith) })
    go (suc (suc d)) e ih = absurd (omega arith)
