-- A number below 100,000 has at most five digits.
use Prim.Native.Nat.{ℕ, suc, ◌*◌, ◌/◌, ◌≤◌, ◌<◌}
use native.Mathlib.Decide.{dec_lt}
use native.Mathlib.Omega.{arith}
use lib.ListN.{length}
use Rattle.text.specs.Number.{write_number}
use Rattle.text.proofs.Decimal.{length-digit, length_more}

-- one digit more than n / 10 has
digits_step : (n k m : ℕ) → (n / 10 < m → length (write_number (n / 10)) ≤ k) → n < 10 * m → 1 ≤ k → length (write_number n) ≤ suc k
digits_step n k m h l p = elim (dec_lt n 10) [
  | yes d ↦ omega (arith, length-digit n d)
  | no d ↦ omega (arith, length_more n (omega arith), h (omega arith))
]

pub five_digits : (n : ℕ) → n < 100000 → length (write_number n) ≤ 5
five_digits n h =
    digits_step n 4 10000 (λ h₁.
    digits_step (n / 10) 3 1000 (λ h₂.
    digits_step (n / 10 / 10) 2 100 (λ h₃.
    digits_step (n / 10 / 10 / 10) 1 10 (λ h₄. omega (arith, length-digit (n / 10 / 10 / 10 / 10) h₄))
    (omega arith) (omega arith)) (omega arith) (omega arith)) (omega arith) (omega arith)) (omega arith) (omega arith)
