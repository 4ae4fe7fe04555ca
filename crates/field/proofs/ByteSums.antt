-- Sums in GF(256) are those of a vector space over GF(2), and x times a sum is the sum of x times each.
use mathlib.Core.Path.{◌≡◌, sym, ◌∙◌}
use Prim.Native.Nat.{ℕ, zero, suc, ◌+◌, ◌*◌, ◌/◌, ◌%◌, ◌<◌}
use native.Mathlib.Nat.{zero-mul}
use native.Mathlib.Omega.{arith}
use lib.Arith.{bin_ind}
use lib.Bits.{xor_zero_l, xor_zero_r, xor_comm, xor_self, xor_lt, xor_shr, xor_mod, xor_add_and}
use Rattle.field.specs.ByteField.{byte_sum, times_x}

zero-sum : (a : ℕ) → byte_sum 0 a ≡ a
unfolding byte_sum
zero-sum a = xor_zero_l a

pub sum-zero : (a : ℕ) → byte_sum a 0 ≡ a
unfolding byte_sum
sum-zero a = xor_zero_r a

pub sum_comm : (a b : ℕ) → byte_sum a b ≡ byte_sum b a
unfolding byte_sum
sum_comm a b = xor_comm a b

pub sum_self : (a : ℕ) → byte_sum a a ≡ 0
unfolding byte_sum
sum_self a = xor_self a

pub sum_byte : (a b : ℕ) → a < 256 → b < 256 → byte_sum a b < 256
unfolding byte_sum
sum_byte a b p q = xor_lt 8 a b p q

sum_half : (a b : ℕ) → byte_sum a b / 2 ≡ byte_sum (a / 2) (b / 2)
unfolding byte_sum
sum_half a b = xor_shr a b 1

-- bit 0 of a sum is that of the sum with carries
sum_odd : (a b : ℕ) → byte_sum a b % 2 ≡ (a + b) % 2
unfolding byte_sum
sum_odd a b = omega (arith, xor_add_and a b)

sum-sum_odd : (a b c : ℕ) → byte_sum (byte_sum a b) c % 2 ≡ (a + b + c) % 2
sum-sum_odd a b c = omega (arith, sum_odd (byte_sum a b) c, sum_odd a b)

odd_sum-sum : (a b c : ℕ) → byte_sum a (byte_sum b c) % 2 ≡ (a + b + c) % 2
odd_sum-sum a b c = omega (arith, sum_odd a (byte_sum b c), sum_odd b c)

same_bits : (m n : ℕ) → m / 2 ≡ n / 2 → m % 2 ≡ n % 2 → m ≡ n
same_bits m n p q = omega arith

pub sum_assoc : (a b c : ℕ) → byte_sum (byte_sum a b) c ≡ byte_sum a (byte_sum b c)
sum_assoc = bin_ind (λ a. (b c : ℕ) → byte_sum (byte_sum a b) c ≡ byte_sum a (byte_sum b c)) start step
  where
    start : (b c : ℕ) → byte_sum (byte_sum 0 b) c ≡ byte_sum 0 (byte_sum b c)
    start b c = rw (zero-sum b, zero-sum (byte_sum b c))

    step : (a : ℕ) → ((b c : ℕ) → byte_sum (byte_sum (a / 2) b) c ≡ byte_sum (a / 2) (byte_sum b c)) → (b c : ℕ)
        → byte_sum (byte_sum a b) c ≡ byte_sum a (byte_sum b c)
    step a rest b c =
        same_bits (byte_sum (byte_sum a b) c) (byte_sum a (byte_sum b c))
        (rw (sum_half (byte_sum a b) c, sum_half a b, sum_half a (byte_sum b c), sum_half b c) (rest (b / 2) (c / 2)))
        (sum-sum_odd a b c ∙ sym (odd_sum-sum a b c))

-- (a + b) + (c + d) = (a + c) + (b + d)
sum-sums : (a b c d : ℕ) → byte_sum (byte_sum a b) (byte_sum c d) ≡ byte_sum (byte_sum a c) (byte_sum b d)
sum-sums a b c d = cc (sum_assoc a b (byte_sum c d), sum_assoc b c d, sum_comm b c, sum_assoc c b d, sum_assoc a c (byte_sum b d))

sum_double : (a b : ℕ) → byte_sum a b * 2 ≡ byte_sum (a * 2) (b * 2)
sum_double a b =
    let h : byte_sum (a * 2) (b * 2) / 2 ≡ byte_sum a b = sum_half (a * 2) (b * 2) ∙ rw (half a, half b) in
    omega (arith, h, sum_odd (a * 2) (b * 2))
  where
    half : (n : ℕ) → n * 2 / 2 ≡ n
    half n = omega arith

-- a sum of two bits, times c
sum_bits_times : (a b c : ℕ) → a < 2 → b < 2 → byte_sum a b * c ≡ byte_sum (a * c) (b * c)
sum_bits_times zero b c p q = rw (zero-sum b, zero-mul c) (sym (zero-sum (b * c)))
sum_bits_times (suc zero) zero c p q = rw (sum-zero 1, zero-mul c) (sym (sum-zero (1 * c)))
sum_bits_times (suc zero) (suc zero) c p q = rw (sum_self 1, sum_self (1 * c)) (zero-mul c)
sum_bits_times (suc zero) (suc (suc b)) c p q = absurd (omega arith)
sum_bits_times (suc (suc a)) b c p q = absurd (omega arith)

-- the bits below 7, and bit 7
sum_low : (a b : ℕ) → byte_sum a b % 128 ≡ byte_sum (a % 128) (b % 128)
unfolding byte_sum
sum_low a b = xor_mod a b 7

sum-high : (a b : ℕ) → byte_sum a b / 128 ≡ byte_sum (a / 128) (b / 128)
unfolding byte_sum
sum-high a b = xor_shr a b 7

-- whatever byte stands in for x^8
shifted_sum : (r a b : ℕ) → a < 256 → b < 256
    → byte_sum (byte_sum a b % 128 * 2) (byte_sum a b / 128 * r) ≡ byte_sum (byte_sum (a % 128 * 2) (a / 128 * r)) (byte_sum (b % 128 * 2) (b / 128 * r))
shifted_sum r a b p q =
    rw (sum_low a b, sum-high a b, sum_double (a % 128) (b % 128), sum_bits_times (a / 128) (b / 128) r (omega arith) (omega arith))
    (sum-sums (a % 128 * 2) (b % 128 * 2) (a / 128 * r) (b / 128 * r))

pub x-sum : (a b : ℕ) → a < 256 → b < 256 → times_x (byte_sum a b) ≡ byte_sum (times_x a) (times_x b)
unfolding times_x
x-sum a b p q = shifted_sum _ a b p q

pub x_byte : (a : ℕ) → a < 256 → times_x a < 256
unfolding times_x
x_byte a p = sum_byte _ _ (omega arith) (omega arith)

pub x-zero : times_x 0 ≡ 0
unfolding times_x
x-zero = sum_self 0
