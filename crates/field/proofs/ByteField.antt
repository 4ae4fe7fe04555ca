-- The laws of GF(256), and its products and inverses read from the tables.
use mathlib.Core.Path.{◌≡◌, sym, ◌∙◌, ap}
use mathlib.Core.Logic.{◌≢◌}
use Prim.Native.Nat.{ℕ, zero, suc, ◌+◌, ◌-◌, ◌%◌, ◌≤◌, ◌<◌}
use native.Mathlib.Nat.{mod-eq_of_lt, mod-mod}
use native.Mathlib.Omega.{arith}
use Rattle.field.specs.ByteField.{byte_sum, byte_times, byte_power}
use Rattle.field.specs.ByteTables.{power_at, log_at}
use Rattle.field.specs.Field.{Field, gf256}
use Rattle.field.proofs.ByteSums.{sum-zero, sum_comm, sum_self, sum_assoc, sum_byte}
use Rattle.field.proofs.ByteTables.{tables_rule}
use Rattle.field.proofs.ByteProducts as Products
use Rattle.field.proofs.Derived.{inv_unique}
use Rattle.field.proofs.ByteProducts.{raised, raised_byte, times_byte, times_one, times_zero}

lt : (a : ℕ) → a % 256 < 256
lt a = omega arith

sum-red : (a b : ℕ) → byte_sum (a % 256) (b % 256) % 256 ≡ byte_sum (a % 256) (b % 256)
sum-red a b = mod-eq_of_lt (sum_byte (a % 256) (b % 256) (lt a) (lt b))

times_red : (a b : ℕ) → byte_times 8 (a % 256) (b % 256) % 256 ≡ byte_times 8 (a % 256) (b % 256)
times_red a b = mod-eq_of_lt (times_byte 8 (a % 256) (b % 256) (lt b))

power_byte : (n a : ℕ) → byte_power n a < 256
unfolding byte_power
power_byte zero a = omega arith
power_byte (suc n) a = times_byte 8 a (byte_power n a) (power_byte n a)

inverse_law : (a : ℕ) → a % 256 ≢ 0 → byte_times 8 (a % 256) (byte_power 254 (a % 256) % 256) ≡ 1
unfolding byte_power
inverse_law a n = rw (mod-eq_of_lt (power_byte 254 (a % 256))) (Products.power-whole power_at log_at tables_rule (a % 256) (omega arith) (lt a))

pub gf256-field : Field gf256
unfolding gf256
gf256-field = record {
  one_lt = omega arith;
  red-lt = lt;
  red_elem = λ a h. mod-eq_of_lt h;
  red-add = sum-red;
  red-mul = times_red;
  red-neg = λ a. mod-mod a 256;
  add_comm = λ a b. sum_comm (a % 256) (b % 256);
  add_assoc = λ a b c. rw (sum-red a b, sum-red b c) (sum_assoc (a % 256) (b % 256) (c % 256));
  add-zero = λ a. sum-zero (a % 256);
  add-neg = λ a. rw (mod-mod a 256) (sum_self (a % 256));
  mul_comm = λ a b. Products.times_comm power_at log_at tables_rule (a % 256) (b % 256) (lt a) (lt b);
  mul_assoc = λ a b c. rw (times_red a b, times_red b c) (Products.times_assoc power_at log_at tables_rule (a % 256) (b % 256) (c % 256) (lt a) (lt b) (lt c));
  mul_one = λ a. times_one (a % 256) (lt a);
  mul-add = λ a b c. rw (sum-red b c, times_red a b, times_red a c) (Products.times_sum power_at log_at tables_rule (a % 256) (b % 256) (c % 256) (lt a) (lt b) (lt c));
  mul-inv = inverse_law;
}

-- Products through the tables, by the way the code goes.
module _ (a b : ℕ) (p : a < 256) (q : b < 256) where
  product_of_bytes : gf256.mul a b ≡ byte_times 8 a b
  unfolding gf256
  product_of_bytes = rw (mod-eq_of_lt p, mod-eq_of_lt q)

  pub product-zero-left : a ≡ 0 → 0 ≡ gf256.mul a b
  product-zero-left e = sym (product_of_bytes ∙ rw e (Products.zero_times power_at log_at tables_rule b q))

  pub product-zero-right : b ≡ 0 → 0 ≡ gf256.mul a b
  product-zero-right e = sym (product_of_bytes ∙ rw e (times_zero 8 a))

  module _ (m : 0 < a) (n : 0 < b) {i : ℕ} (e : i ≡ log_at a + log_at b) where
    product_by_logarithms : gf256.mul a b ≡ raised i 1
    product_by_logarithms = product_of_bytes ∙ Products.product_is power_at log_at tables_rule a b m p n q ∙ ap (λ (k : ℕ). raised k 1) (sym e)

    pub product-low : {r : ℕ} → i < 255 → r ≡ power_at i → r ≡ gf256.mul a b
    product-low h g = g ∙ Products.power_is power_at log_at tables_rule i h ∙ sym product_by_logarithms

    pub product_high : {r : ℕ} → 255 ≤ i → i < 510 → r ≡ power_at (i - 255) → r ≡ gf256.mul a b
    product_high h l g =
        let around : i - 255 + 255 ≡ i = omega arith in
        g ∙ Products.power_is power_at log_at tables_rule (i - 255) (omega arith) ∙ sym (Products.past-whole power_at log_at tables_rule (i - 255))
        ∙ ap (λ (k : ℕ). raised k 1) around ∙ sym product_by_logarithms

-- what the tables hold, in bounds
pub logarithm-lt : (a : ℕ) → 0 < a → a < 256 → log_at a < 255
logarithm-lt a p q = tables_rule.log_lt a p q

pub power-lt : (i : ℕ) → i < 255 → power_at i < 256
power-lt i h = rw (Products.power_is power_at log_at tables_rule i h) (raised_byte i 1 (omega arith))

pub inverse_byte : (a : ℕ) → gf256.inv a < 256
unfolding gf256
inverse_byte a = power_byte 254 (a % 256)

-- Inverses through the tables: b with a × b = 1 is the inverse of a.
module _ (a : ℕ) (m : 0 < a) (p : a < 256) where
  only-inverse : (b : ℕ) → b < 256 → gf256.mul a b ≡ 1 → b ≡ gf256.inv a
  unfolding gf256
  only-inverse b q e =
      sym (mod-eq_of_lt q) ∙ inv_unique gf256-field a b (λ z. omega (arith, mod-eq_of_lt p)) e ∙ mod-eq_of_lt (inverse_byte a)

  raised_inverse : (j : ℕ) → j + log_at a ≡ 255 → raised j 1 ≡ gf256.inv a
  raised_inverse j e =
      let q = raised_byte j 1 (omega arith) in
      only-inverse (raised j 1) q (product_of_bytes a (raised j 1) p q ∙ Products.complement_is power_at log_at tables_rule a j m p e)

  pub inverse_of_one : log_at a ≡ 0 → 1 ≡ gf256.inv a
  inverse_of_one z = sym (Products.whole power_at log_at tables_rule) ∙ raised_inverse 255 (omega arith)

  pub inverse_by_logarithm : {i r : ℕ} → i ≡ log_at a → 0 < i → r ≡ power_at (255 - i) → r ≡ gf256.inv a
  inverse_by_logarithm {i} e h g =
      let low = logarithm-lt a m p in
      g ∙ Products.power_is power_at log_at tables_rule (255 - i) (omega arith) ∙ raised_inverse (255 - i) (omega arith)
