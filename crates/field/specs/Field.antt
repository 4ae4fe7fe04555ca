-- Finite fields: the operations, their laws, and which field a number means.
use Rattle.std.specs.Prelude.{◌≡◌, true, false, ◌≢◌, ℕ, zero, suc, ◌+◌, ◌-◌, ◌*◌, ◌/◌, ◌%◌, ◌<◌, eqb}
use Rattle.std.proofs.Math.Logic.{ite}
use Rattle.std.proofs.Math.Decide.{dec_lt}
use Rattle.field.specs.ByteField.{byte_sum, byte_times, byte_power}

-- The operations. The elements are the numbers below `size`; 0 is zero and 1 is one.
-- Each operation is total: it first takes a number to the element that it stands for, `red`.
pub record Operations : Type 0 where
  pub size : ℕ
  pub red : ℕ → ℕ
  pub add : ℕ → ℕ → ℕ
  pub mul : ℕ → ℕ → ℕ
  pub neg : ℕ → ℕ
  pub inv : ℕ → ℕ

-- The laws of a field. Since the operations are total, each holds of all numbers, and only the inverse has a condition.
pub record Field (K : Operations) : Type 0 where
  pub one_lt : 1 < K.size
  pub red-lt : (a : ℕ) → K.red a < K.size
  pub red_elem : (a : ℕ) → a < K.size → K.red a ≡ a
  pub red-add : (a b : ℕ) → K.red (K.add a b) ≡ K.add a b
  pub red-mul : (a b : ℕ) → K.red (K.mul a b) ≡ K.mul a b
  pub red-neg : (a : ℕ) → K.red (K.neg a) ≡ K.neg a
  pub add_comm : (a b : ℕ) → K.add a b ≡ K.add b a
  pub add_assoc : (a b c : ℕ) → K.add (K.add a b) c ≡ K.add a (K.add b c)
  pub add-zero : (a : ℕ) → K.add a 0 ≡ K.red a
  pub add-neg : (a : ℕ) → K.add a (K.neg a) ≡ 0
  pub mul_comm : (a b : ℕ) → K.mul a b ≡ K.mul b a
  pub mul_assoc : (a b c : ℕ) → K.mul (K.mul a b) c ≡ K.mul a (K.mul b c)
  pub mul_one : (a : ℕ) → K.mul a 1 ≡ K.red a
  pub mul-add : (a b c : ℕ) → K.mul a (K.add b c) ≡ K.add (K.mul a b) (K.mul a c)
  pub mul-inv : (a : ℕ) → K.red a ≢ 0 → K.mul a (K.inv a) ≡ 1

-- The inverse of r modulo a prime p, for r below p: of 1 it is 1, and of a greater r it is -(p / r) times that of p % r.
-- The first argument only bounds the recursion: p % r is below r.
unfoldable pub inverse_mod : (p : ℕ) → ℕ → ℕ → ℕ
inverse_mod p zero r = 1
inverse_mod p (suc k) r = ite (dec_lt 1 r) ((p - p / r) * inverse_mod p k (p % r) % p) 1

-- Sums and products of numbers, modulo p.
unfoldable pub modular : ℕ → Operations
unfolding inverse_mod
modular p = record {
  size = p;
  red = λ a. a % p;
  add = λ a b. (a + b) % p;
  mul = λ a b. a * b % p;
  neg = λ a. (p - a % p) % p;
  inv = λ a. inverse_mod p (a % p) (a % p);
}

-- Sums and products of bytes as polynomials in x over GF(2). Every byte is its own opposite; and of one other than 0 the power 255 is 1, so that its
-- power 254 is its inverse.
unfoldable pub gf256 : Operations
gf256 = record {
  size = 256;
  red = λ a. a % 256;
  add = λ a b. byte_sum (a % 256) (b % 256);
  mul = λ a b. byte_times 8 (a % 256) (b % 256);
  neg = λ a. a % 256;
  inv = λ a. byte_power 254 (a % 256);
}

-- The field that the number p of a package means: GF(256) for 256, and GF(p) for a prime p.
unfoldable pub field_of : ℕ → Operations
unfolding modular gf256
field_of p = elim (eqb p 256) [ true ↦ gf256 | false ↦ modular p ]
