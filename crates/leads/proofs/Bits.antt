-- Laws of the bits of masks: of both masks, of either, of one bit more, and of all bits.
use mathlib.Core.Path.{◌≡◌, refl, sym, ap, ◌∙◌}
use mathlib.Core.Logic.{◌⊎◌, inl, inr}
use Prim.Native.Nat.{ℕ, zero, suc, ◌+◌, ◌-◌, ◌*◌, ◌/◌, ◌%◌, ◌^◌, ◌≤◌, ◌<◌, min, max}
use native.Mathlib.Decide.{ℕ_discrete, dec_lt}
use native.Mathlib.Omega.{arith}
use native.Mathlib.Nat.{zero-div, div_self, div-eq_of_lt, mul-div_cancel_left, mod-eq_of_lt}
use lib.Pow.{pow-add, pow_pos, pow-lt, ones_split, ones_lt, high}
use lib.Bits.{bit_and, bit_or, and_step, and_shr, or_step, or_shr}
use Rattle.leads.specs.Masks.{bit}

odd_and : (a b : ℕ) → bit_and a b % 2 ≡ min (a % 2) (b % 2)
odd_and a b = go (a % 2) (b % 2) refl refl
  where
    go : (x y : ℕ) → a % 2 ≡ x → b % 2 ≡ y → bit_and a b % 2 ≡ min (a % 2) (b % 2)
    go zero y p q = let s = and_step a b in let t : min (a % 2) (b % 2) ≡ 0 = rw p (omega arith) in omega arith
    go (suc zero) zero p q = let s = and_step a b in let t : min (a % 2) (b % 2) ≡ 0 = rw (p, q) (omega arith) in omega arith
    go (suc zero) (suc zero) p q = let s = and_step a b in let t : min (a % 2) (b % 2) ≡ 1 = rw (p, q) (omega arith) in omega arith
    go (suc zero) (suc (suc y)) p q = absurd (omega arith)
    go (suc (suc x)) y p q = absurd (omega arith)

odd_or : (a b : ℕ) → bit_or a b % 2 ≡ max (a % 2) (b % 2)
odd_or a b = go (a % 2) (b % 2) refl refl
  where
    go : (x y : ℕ) → a % 2 ≡ x → b % 2 ≡ y → bit_or a b % 2 ≡ max (a % 2) (b % 2)
    go zero y p q = let s = or_step a b in let t : max (a % 2) (b % 2) ≡ b % 2 = rw p (omega arith) in omega arith
    go (suc zero) zero p q = let s = or_step a b in let t : max (a % 2) (b % 2) ≡ 1 = rw (p, q) (omega arith) in omega arith
    go (suc zero) (suc zero) p q = let s = or_step a b in let t : max (a % 2) (b % 2) ≡ 1 = rw (p, q) (omega arith) in omega arith
    go (suc zero) (suc (suc y)) p q = absurd (omega arith)
    go (suc (suc x)) y p q = absurd (omega arith)

module _ (a b g : ℕ) where
  bit_and_lem : bit (bit_and a b) g ≡ min (bit a g) (bit b g)
  bit_and_lem = rw (and_shr a b g) (odd_and (a / 2 ^ g) (b / 2 ^ g))

  bit_or_lem : bit (bit_or a b) g ≡ max (bit a g) (bit b g)
  bit_or_lem = rw (or_shr a b g) (odd_or (a / 2 ^ g) (b / 2 ^ g))

  -- a bit of both masks is a bit of each
  pub and_out : bit (bit_and a b) g ≡ 1 → (bit a g ≡ 1) × (bit b g ≡ 1)
  and_out e = let s = bit_and_lem in (omega arith, omega arith)

  pub and_in : bit a g ≡ 1 → bit b g ≡ 1 → bit (bit_and a b) g ≡ 1
  and_in p q = let s = bit_and_lem in omega arith

  -- a bit of either mask is a bit of one of them
  pub or_out : bit (bit_or a b) g ≡ 1 → (bit a g ≡ 1) ⊎ (bit b g ≡ 1)
  or_out e = go (ℕ_discrete (bit a g) 1)
    where
      go : Dec (bit a g ≡ 1) → (bit a g ≡ 1) ⊎ (bit b g ≡ 1)
      go (yes p) = inl p
      go (no n) = let s = bit_or_lem in inr (omega arith)

  pub or_left : bit a g ≡ 1 → bit (bit_or a b) g ≡ 1
  or_left p = let s = bit_or_lem in omega arith

  pub or_right : bit b g ≡ 1 → bit (bit_or a b) g ≡ 1
  or_right p = let s = bit_or_lem in omega arith

-- the mask 0 has no bit
pub bit-zero : (g : ℕ) → bit 0 g ≡ 1 → ⊥
bit-zero g e = let s : 0 / 2 ^ g ≡ 0 = zero-div (2 ^ g) in omega arith

-- a power of 2 has one bit
pow-same : (g : ℕ) → bit (2 ^ g) g ≡ 1
pow-same g = let e : 2 ^ g / 2 ^ g ≡ 1 = div_self (pow_pos g) in omega arith

-- a power of 2 that is not the lowest is even
pow_even : (n : ℕ) → 1 ≤ n → 2 ^ n ≡ 2 * 2 ^ (n - 1)
pow_even n h = let e : n ≡ 1 + (n - 1) = omega arith in ap (λ (k : ℕ). 2 ^ k) e ∙ pow-add 2 1 (n - 1)

pow_other : (g j : ℕ) → (j ≡ g → ⊥) → bit (2 ^ g) j ≡ 0
pow_other g j d = go (dec_lt g j)
  where
    go : Dec (g < j) → bit (2 ^ g) j ≡ 0
    go (yes h) = let e : 2 ^ g / 2 ^ j ≡ 0 = div-eq_of_lt (pow-lt h) in omega arith
    go (no h) =
        let e : g ≡ j + (g - j) = omega arith in
        let x : 2 ^ g / 2 ^ j ≡ 2 ^ (g - j) = ap (λ (n : ℕ). 2 ^ n / 2 ^ j) e ∙ rw (pow-add 2 j (g - j)) (mul-div_cancel_left (2 ^ (g - j)) (pow_pos j)) in
        let y = pow_even (g - j) (omega arith) in
        omega arith

-- one bit more: it is there, the others are kept, and there is no other
module _ (m g : ℕ) where
  pub bit-new : bit (bit_or m (2 ^ g)) g ≡ 1
  bit-new = or_right m (2 ^ g) g (pow-same g)

  pub bit_kept : (j : ℕ) → bit m j ≡ 1 → bit (bit_or m (2 ^ g)) j ≡ 1
  bit_kept j h = or_left m (2 ^ g) j h

  pub bit_old : (j : ℕ) → (j ≡ g → ⊥) → bit (bit_or m (2 ^ g)) j ≡ 1 → bit m j ≡ 1
  bit_old j d h = let s = bit_or_lem m (2 ^ g) j in let e = pow_other g j d in omega arith

-- the mask of all n bits has each
pub bit-all : (n g : ℕ) → g < n → bit (2 ^ n - 1) g ≡ 1
bit-all n g h =
    let e : n - g + g ≡ n = omega arith in
    let s : 2 ^ n - 1 ≡ (2 ^ (n - g) - 1) * 2 ^ g + (2 ^ g - 1) = ap (λ (m : ℕ). 2 ^ m - 1) (sym e) ∙ ones_split (n - g) g in
    let q : (2 ^ n - 1) / 2 ^ g ≡ 2 ^ (n - g) - 1 = ap (λ (m : ℕ). m / 2 ^ g) s ∙ high (2 ^ (n - g) - 1) g (ones_lt g) in
    let y = pow_even (n - g) (omega arith) in
    let z : 0 < 2 ^ (n - g - 1) = pow_pos (n - g - 1) in
    omega arith

-- 1 shifted by g, as the machine has it
pub shifted : (g : ℕ) → g < 64 → 1 * 2 ^ g % 18446744073709551616 ≡ 2 ^ g
shifted g h = let e : 1 * 2 ^ g ≡ 2 ^ g = omega arith in let q : 2 ^ g < 2 ^ 64 = pow-lt h in rw e (mod-eq_of_lt q)
