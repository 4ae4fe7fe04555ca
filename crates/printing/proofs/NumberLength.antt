-- A number of 64 bits has at most twenty digits.
use Prim.Native.Nat.{ℕ, ◌^◌, ◌≤◌, ◌<◌}
use native.Mathlib.Omega.{arith}
use lib.ListN.{length}
use Rattle.text.specs.Number.{write_number}
use Rattle.text.proofs.Digits.{pow}
use Rattle.text.proofs.NumberTexts.{few-digits}

pub twenty_digits : (n : ℕ) → n < 2 ^ 64 → length (write_number n) ≤ 20
unfolding pow
twenty_digits n h = few-digits 19 n (omega arith)
