-- What `field_of p` answers at elements: modulo p, without a remainder where one subtraction does; and for 256 sums bit by bit, and the products and inverses of `gf256`.
use mathlib.Core.Path.{◌≡◌, sym, ◌∙◌, ap}
use mathlib.Core.Logic.{◌≢◌}
use Prim.Native.Nat.{ℕ, ◌+◌, ◌-◌, ◌*◌, ◌%◌, ◌≤◌, ◌<◌}
use native.Mathlib.Nat.{mod-eq_of_lt, mod-eq-sub-mod, mod_self, mul-le-mul}
use native.Mathlib.Omega.{arith}
use lib.Bits.{bit_xor, xor_lt}
use Rattle.field.specs.ByteField.{byte_sum}
use Rattle.field.specs.Field.{Operations, modular, gf256, field_of}
use Rattle.field.proofs.Fields.{field_256, field_other}

module _ (p : ℕ) (n : p ≢ 256) (a : ℕ) where
  pub sum-small : (b : ℕ) → a + b < p → a + b ≡ (field_of p).add a b
  unfolding modular
  sum-small b h = sym (ap (λ (K : Operations). K.add a b) (field_other p n) ∙ mod-eq_of_lt h)

  pub sum_large : (b : ℕ) → p ≤ a + b → a + b - p < p → a + b - p ≡ (field_of p).add a b
  unfolding modular
  sum_large b h l = sym (ap (λ (K : Operations). K.add a b) (field_other p n) ∙ mod-eq-sub-mod h ∙ mod-eq_of_lt l)

  pub neg-zero : a ≡ 0 → a < p → 0 ≡ (field_of p).neg a
  unfolding modular
  neg-zero e h =
      sym (ap (λ (K : Operations). K.neg a) (field_other p n) ∙ ap (λ (x : ℕ). x % p) (omega (arith, mod-eq_of_lt h)) ∙ mod_self p)

  pub neg-some : 0 < a → a < p → p - a ≡ (field_of p).neg a
  unfolding modular
  neg-some l h =
      let m : p - a < p = omega arith in
      sym (ap (λ (K : Operations). K.neg a) (field_other p n) ∙ ap (λ (x : ℕ). (p - x) % p) (mod-eq_of_lt h) ∙ mod-eq_of_lt m)

  pub product-mod : (b : ℕ) → a * b % p ≡ (field_of p).mul a b
  unfolding modular
  product-mod b = sym (ap (λ (K : Operations). K.mul a b) (field_other p n))

module _ {p : ℕ} (e : p ≡ 256) where
  is_256 : field_of p ≡ gf256
  is_256 = ap field_of e ∙ field_256

  pub byte_sum_lem : (a b : ℕ) → a < p → b < p → bit_xor a b ≡ (field_of p).add a b
  unfolding gf256 byte_sum
  byte_sum_lem a b h l =
      let x : a < 256 = omega arith in
      let y : b < 256 = omega arith in
      sym (ap (λ (K : Operations). K.add a b) is_256 ∙ rw (mod-eq_of_lt x, mod-eq_of_lt y))

  pub byte_sum-lt : (a b : ℕ) → a < p → b < p → bit_xor a b < p
  byte_sum-lt a b h l = rw e (xor_lt 8 a b (omega arith) (omega arith))

  pub byte_neg : (a : ℕ) → a < p → a ≡ (field_of p).neg a
  unfolding gf256
  byte_neg a h = let x : a < 256 = omega arith in sym (ap (λ (K : Operations). K.neg a) is_256 ∙ mod-eq_of_lt x)

  pub byte_product : (a b : ℕ) {r : ℕ} → r ≡ gf256.mul a b → r ≡ (field_of p).mul a b
  byte_product a b q = q ∙ sym (ap (λ (K : Operations). K.mul a b) is_256)

  pub byte_inverse : (a : ℕ) {r : ℕ} → r ≡ gf256.inv a → r ≡ (field_of p).inv a
  byte_inverse a q = q ∙ sym (ap (λ (K : Operations). K.inv a) is_256)

-- a product of two numbers below 65,536 fits 32 bits
pub product-fits : (a b : ℕ) → a < 65536 → b < 65536 → a * b < 4294967296
product-fits a b p q =
    let x : a ≤ 65535 = omega arith in
    let y : b ≤ 65535 = omega arith in
    omega (arith, mul-le-mul x y)
