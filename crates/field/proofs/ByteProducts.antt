-- Products in GF(256). A product by a power of x is as many products by x: so products of powers of x are commutative and associative and
-- distribute over sums, and since every byte but 0 is a power of x, by any tables that obey the rule, so are all products.
use mathlib.Core.Path.{◌≡◌, refl, sym, ◌∙◌, ap}
use mathlib.Core.Logic.{◌≢◌}
use Prim.Native.Nat.{ℕ, zero, suc, ◌+◌, ◌*◌, ◌/◌, ◌%◌, ◌<◌}
use native.Mathlib.Nat.{mod-eq_of_lt, add_comm, zero-add, suc-add, zero-mul, one-mul, mul-zero, suc-mul, mul_comm}
use native.Mathlib.Decide.{ℕ_discrete}
use native.Mathlib.Omega.{arith}
use lib.Dec.{eqb, eqb→eq}
use Rattle.field.specs.ByteField.{byte_sum, times_x, byte_times, byte_power}
use Rattle.field.specs.ByteTables.{TablesRule}
use Rattle.field.proofs.Computed.{at_below}
use Rattle.field.proofs.ByteSums.{sum_self, sum_byte, x-sum, x_byte, x-zero}

-- x^n × a
unfoldable pub raised : ℕ → ℕ → ℕ
raised zero a = a
raised (suc n) a = times_x (raised n a)

pub raised_byte : (n a : ℕ) → a < 256 → raised n a < 256
unfolding raised
raised_byte zero a h = h
raised_byte (suc n) a h = x_byte (raised n a) (raised_byte n a h)

raised_zero : (n : ℕ) → raised n 0 ≡ 0
unfolding raised
raised_zero zero = refl
raised_zero (suc n) = ap times_x (raised_zero n) ∙ x-zero

raised_sum : (n a b : ℕ) → a < 256 → b < 256 → raised n (byte_sum a b) ≡ byte_sum (raised n a) (raised n b)
unfolding raised
raised_sum zero a b p q = refl
raised_sum (suc n) a b p q = ap times_x (raised_sum n a b p q) ∙ x-sum (raised n a) (raised n b) (raised_byte n a p) (raised_byte n b q)

raised_raised : (m n a : ℕ) → raised m (raised n a) ≡ raised (m + n) a
unfolding raised
raised_raised zero n a = ap (λ (k : ℕ). raised k a) (sym (zero-add n))
raised_raised (suc m) n a = ap times_x (raised_raised m n a) ∙ ap (λ (k : ℕ). raised k a) (sym (suc-add m n))

-- a bit, times b
bit_byte : (i b : ℕ) → i < 2 → b < 256 → i * b < 256
bit_byte zero b p q = omega arith
bit_byte (suc zero) b p q = omega arith
bit_byte (suc (suc i)) b p q = absurd (omega arith)

bit-x : (i b : ℕ) → i < 2 → i * times_x b ≡ times_x (i * b)
bit-x zero b p = zero-mul (times_x b) ∙ sym (ap times_x (zero-mul b) ∙ x-zero)
bit-x (suc zero) b p = one-mul (times_x b) ∙ sym (ap times_x (one-mul b))
bit-x (suc (suc i)) b p = absurd (omega arith)

pub times_byte : (k a b : ℕ) → b < 256 → byte_times k a b < 256
unfolding byte_times
times_byte zero a b h = omega arith
times_byte (suc k) a b h =
    sum_byte (a % 2 * b) (byte_times k (a / 2) (times_x b)) (bit_byte (a % 2) b (omega arith) h) (times_byte k (a / 2) (times_x b) (x_byte b h))

pub times_zero : (k a : ℕ) → byte_times k a 0 ≡ 0
unfolding byte_times
times_zero zero a = refl
times_zero (suc k) a = rw (x-zero, times_zero k (a / 2), mul-zero (a % 2)) (sum_self 0)

-- a × (x × b) = x × (a × b)
times_x_lem : (k a b : ℕ) → b < 256 → byte_times k a (times_x b) ≡ times_x (byte_times k a b)
unfolding byte_times
times_x_lem zero a b h = sym x-zero
times_x_lem (suc k) a b h =
    rw (bit-x (a % 2) b (omega arith), times_x_lem k (a / 2) (times_x b) (x_byte b h))
    (sym (x-sum (a % 2 * b) (byte_times k (a / 2) (times_x b)) (bit_byte (a % 2) b (omega arith) h) (times_byte k (a / 2) (times_x b) (x_byte b h))))

-- a × 1 = a: a test computed at every byte
pub times_one : (a : ℕ) → a < 256 → byte_times 8 a 1 ≡ a
unfolding byte_times times_x byte_sum
times_one a h = eqb→eq (byte_times 8 a 1) a (at_below (λ n. eqb (byte_times 8 n 1) n) 256 tt a h)

-- a × x^n = x^n × a, which is a multiplied by x as often
pub times_raised : (n a : ℕ) → a < 256 → byte_times 8 a (raised n 1) ≡ raised n a
unfolding raised
times_raised zero a h = times_one a h
times_raised (suc n) a h = times_x_lem 8 a (raised n 1) (raised_byte n 1 (omega arith)) ∙ ap times_x (times_raised n a h)

zero_times_raised : (n : ℕ) → byte_times 8 0 (raised n 1) ≡ 0
zero_times_raised n = times_raised n 0 (omega arith) ∙ raised_zero n

-- the n-th power of x^i
power_raised : (n i : ℕ) → byte_power n (raised i 1) ≡ raised (n * i) 1
unfolding byte_power raised
power_raised zero i = ap (λ (k : ℕ). raised k 1) (sym (zero-mul i))
power_raised (suc n) i =
    ap (byte_times 8 (raised i 1)) (power_raised n i) ∙ times_raised (n * i) (raised i 1) (raised_byte i 1 (omega arith)) ∙ raised_raised (n * i) i 1
    ∙ ap (λ (k : ℕ). raised k 1) (sym (suc-mul n i))

module _ (power log : ℕ → ℕ) (R : TablesRule power log) where
  pub power_is : (i : ℕ) → i < 255 → power i ≡ raised i 1
  unfolding raised
  power_is zero h = R.first
  power_is (suc i) h = ap power (sym (mod-eq_of_lt h)) ∙ R.next i (omega arith) ∙ ap times_x (power_is i (omega arith))

  -- every byte but 0 is a power of x
  pub byte_is : (a : ℕ) → 0 < a → a < 256 → a ≡ raised (log a) 1
  byte_is a p q = sym (R.power_log a p q) ∙ power_is (log a) (R.log_lt a p q)

  -- x^255 is 1
  pub whole : raised 255 1 ≡ 1
  unfolding raised
  whole = ap times_x (sym (power_is 254 (omega arith))) ∙ sym (R.next 254 (omega arith)) ∙ R.first

  pub past-whole : (n : ℕ) → raised (n + 255) 1 ≡ raised n 1
  past-whole n = sym (raised_raised n 255 1) ∙ ap (raised n) whole

  wholes : (n : ℕ) → raised (n * 255) 1 ≡ 1
  unfolding raised
  wholes zero = refl
  wholes (suc n) = ap (λ (k : ℕ). raised k 1) (suc-mul n 255) ∙ past-whole (n * 255) ∙ wholes n

  some : {a : ℕ} → a ≢ 0 → 0 < a
  some n = omega arith

  -- the product of two bytes other than 0 has the sum of their logarithms
  pub product_is : (a b : ℕ) → 0 < a → a < 256 → 0 < b → b < 256 → byte_times 8 a b ≡ raised (log a + log b) 1
  product_is a b p q r s =
      ap (byte_times 8 a) (byte_is b r s) ∙ times_raised (log b) a q ∙ ap (raised (log b)) (byte_is a p q) ∙ raised_raised (log b) (log a) 1
      ∙ ap (λ (k : ℕ). raised k 1) (add_comm (log b) (log a))

  -- where the logarithm of a and j add up to 255, a × x^j is 1
  pub complement_is : (a j : ℕ) → 0 < a → a < 256 → j + log a ≡ 255 → byte_times 8 a (raised j 1) ≡ 1
  complement_is a j p q e =
      times_raised j a q ∙ ap (raised j) (byte_is a p q) ∙ raised_raised j (log a) 1 ∙ ap (λ (k : ℕ). raised k 1) e ∙ whole

  pub zero_times : (b : ℕ) → b < 256 → byte_times 8 0 b ≡ 0
  zero_times b h = go (ℕ_discrete b 0)
    where
      go : Dec (b ≡ 0) → byte_times 8 0 b ≡ 0
      go (yes e) = ap (byte_times 8 0) e ∙ times_zero 8 0
      go (no n) = ap (byte_times 8 0) (byte_is b (some n) h) ∙ zero_times_raised (log b)

  pub times_comm : (a b : ℕ) → a < 256 → b < 256 → byte_times 8 a b ≡ byte_times 8 b a
  times_comm a b p q = go (ℕ_discrete a 0) (ℕ_discrete b 0)
    where
      go : Dec (a ≡ 0) → Dec (b ≡ 0) → byte_times 8 a b ≡ byte_times 8 b a
      go (yes e) d = rw e (zero_times b q ∙ sym (times_zero 8 b))
      go (no m) (yes e) = rw e (times_zero 8 a ∙ sym (zero_times a p))
      go (no m) (no n) =
          product_is a b (some m) p (some n) q ∙ ap (λ (k : ℕ). raised k 1) (add_comm (log a) (log b)) ∙ sym (product_is b a (some n) q (some m) p)

  -- a × b is a multiplied by x as often as b's logarithm says
  times_is : (a b : ℕ) → a < 256 → 0 < b → b < 256 → byte_times 8 a b ≡ raised (log b) a
  times_is a b p q r = ap (byte_times 8 a) (byte_is b q r) ∙ times_raised (log b) a p

  pub times_assoc : (a b c : ℕ) → a < 256 → b < 256 → c < 256 → byte_times 8 (byte_times 8 a b) c ≡ byte_times 8 a (byte_times 8 b c)
  times_assoc a b c p q r = go (ℕ_discrete b 0) (ℕ_discrete c 0)
    where
      go : Dec (b ≡ 0) → Dec (c ≡ 0) → byte_times 8 (byte_times 8 a b) c ≡ byte_times 8 a (byte_times 8 b c)
      go d (yes e) = rw e (times_zero 8 (byte_times 8 a b) ∙ sym (ap (byte_times 8 a) (times_zero 8 b) ∙ times_zero 8 a))
      go (yes e) (no n) = rw (e, times_zero 8 a, zero_times c r) (sym (times_zero 8 a))
      go (no m) (no n) =
          times_is (byte_times 8 a b) c (times_byte 8 a b q) (some n) r ∙ ap (raised (log c)) (times_is a b p (some m) q)
          ∙ sym (ap (byte_times 8 a) (times_is b c q (some n) r ∙ ap (raised (log c)) (byte_is b (some m) q) ∙ raised_raised (log c) (log b) 1)
          ∙ times_raised (log c + log b) a p ∙ sym (raised_raised (log c) (log b) a))

  sum_times : (a b c : ℕ) → a < 256 → b < 256 → c < 256 → byte_times 8 (byte_sum a b) c ≡ byte_sum (byte_times 8 a c) (byte_times 8 b c)
  sum_times a b c p q r = go (ℕ_discrete c 0)
    where
      go : Dec (c ≡ 0) → byte_times 8 (byte_sum a b) c ≡ byte_sum (byte_times 8 a c) (byte_times 8 b c)
      go (yes e) = rw (e, times_zero 8 (byte_sum a b), times_zero 8 a, times_zero 8 b) (sym (sum_self 0))
      go (no n) =
          times_is (byte_sum a b) c (sum_byte a b p q) (some n) r ∙ raised_sum (log c) a b p q
          ∙ sym (rw (times_is a c p (some n) r, times_is b c q (some n) r))

  pub times_sum : (a b c : ℕ) → a < 256 → b < 256 → c < 256 → byte_times 8 a (byte_sum b c) ≡ byte_sum (byte_times 8 a b) (byte_times 8 a c)
  times_sum a b c p q r =
      times_comm a (byte_sum b c) p (sum_byte b c q r) ∙ sum_times b c a q r p ∙ rw (times_comm b a q p, times_comm c a r p)

  -- a^255 is 1
  pub power-whole : (a : ℕ) → 0 < a → a < 256 → byte_power 255 a ≡ 1
  power-whole a p q =
      ap (byte_power 255) (byte_is a p q) ∙ power_raised 255 (log a) ∙ ap (λ (k : ℕ). raised k 1) (mul_comm 255 (log a)) ∙ wholes (log a)
