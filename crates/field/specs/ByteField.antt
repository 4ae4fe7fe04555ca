-- GF(256): polynomials in x over GF(2), of degree below 8. A byte stands for one: its bit i is the coefficient of x^i.
use Rattle.std.specs.Prelude.{ℕ, zero, suc, ◌*◌, ◌/◌, ◌%◌}
use Rattle.std.specs.Int.Bits.{bit_xor}

-- a + b: bit by bit, so that equal powers of x cancel.
unfoldable pub byte_sum : ℕ → ℕ → ℕ
byte_sum a b = bit_xor a b

-- x × a: each bit moves up one place. A bit that leaves place 7 stands for x^8, and x^8 + x^4 + x^3 + x^2 + 1 counts as zero: x^4 + x^3 + x^2 + 1, the
-- byte 29, is added in its place.
unfoldable pub times_x : ℕ → ℕ
times_x a = byte_sum (a % 128 * 2) (a / 128 * 29)

-- The product, where a counts by its lowest k bits: bit 0 of a stands for b, bit 1 for x × b, bit 2 for x × x × b, and so on.
unfoldable pub byte_times : ℕ → ℕ → ℕ → ℕ
byte_times zero a b = 0
byte_times (suc k) a b = byte_sum (a % 2 * b) (byte_times k (a / 2) (times_x b))

-- a^n
unfoldable pub byte_power : ℕ → ℕ → ℕ
byte_power zero a = 1
byte_power (suc n) a = byte_times 8 a (byte_power n a)
