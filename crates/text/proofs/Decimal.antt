-- The decimal digits of a number: those of n / 10, and behind them the last one.
use mathlib.Core.Path.{◌≡◌, refl}
use mathlib.Core.Bool.{Bool, true, false}
use mathlib.Core.List.{List, [], ◌∷◌, ◌++◌}
use Prim.Native.Nat.{ℕ, zero, suc, ◌+◌, ◌-◌, ◌/◌, ◌%◌, ◌≤◌, ◌<◌}
use native.Mathlib.Omega.{arith}
use native.Mathlib.Decide.{dec_lt}
use lib.Dec.{ltb}
use lib.ListN.{length, set, length-append}
use lib.Seq.{sets}
use borrow.Author.Tests.{lt-ltb, le-ltb, ltb-false}
use Rattle.lists.proofs.Stores.{sets_last}
use Rattle.text.specs.Number.{decimal, write_number}

-- Any count of digits that suffices gives the same digits.
same-decimal : (k j n : ℕ) → n ≤ k → n ≤ j → decimal k n ≡ decimal j n
unfolding decimal
same-decimal zero zero n h g = refl
same-decimal zero (suc j) n h g = rw (decimal, lt-ltb n 10 (omega arith))
same-decimal (suc k) zero n h g = rw (decimal, lt-ltb n 10 (omega arith))
same-decimal (suc k) (suc j) n h g = go (ltb n 10) refl (λ b. same-decimal k j (n / 10) (omega arith) (omega arith))
  where
    go : (t : Bool) → ltb n 10 ≡ t → (10 ≤ n → decimal k (n / 10) ≡ decimal j (n / 10)) → decimal (suc k) n ≡ decimal (suc j) n
    go true e r = rw (decimal, e)
    go false e r = rw (decimal, e, r (ltb-false n 10 e))

-- A number below 10 is one digit.
pub write_digit : (n : ℕ) → n < 10 → write_number n ≡ (48 + n) ∷ []
unfolding write_number decimal
write_digit zero h = refl
write_digit (suc n) h = rw (write_number, decimal, lt-ltb (suc n) 10 h)

-- Any other is n / 10 and the last digit.
pub write_more : (n : ℕ) → 10 ≤ n → write_number n ≡ write_number (n / 10) ++ ((48 + n % 10) ∷ [])
unfolding write_number decimal
write_more zero h = absurd (omega arith)
write_more (suc n) h = rw (write_number, decimal, le-ltb (suc n) 10 h, same-decimal n (suc n / 10) (suc n / 10) (omega arith) (omega arith))

pub length_more : (n : ℕ) → 10 ≤ n → length (write_number n) ≡ length (write_number (n / 10)) + 1
length_more n h = rw (write_more n h, length-append)

pub length-digit : (n : ℕ) → n < 10 → length (write_number n) ≡ 1
length-digit n h = rw write_digit

-- No number is written with no digit.
pub length_some : (n : ℕ) → 1 ≤ length (write_number n)
length_some n = elim (dec_lt n 10) [ yes h ↦ omega (arith, length-digit n h) | no h ↦ omega (arith, length_more n (omega arith)) ]

-- Storing the last digit of m first, and then those of m / 10 before it, stores m.
pub digit-stored : (out : List ℕ) (at o m d : ℕ) → 10 ≤ m → o ≡ at + length (write_number m) → d ≡ 48 + m % 10
    → sets (set out (o - 1) d) at (write_number (m / 10)) ≡ sets out at (write_number m)
digit-stored out at o m d h e q =
    rw (write_more m h, q) (sets_last out at (o - 1) (48 + m % 10) (write_number (m / 10)) (omega (arith, length_more m h)))

-- Storing a number of one digit.
pub one_digit-stored : (out : List ℕ) (at m d : ℕ) → m < 10 → d ≡ 48 + m % 10 → set out at d ≡ sets out at (write_number m)
one_digit-stored out at m d h q =
    let e : d ≡ 48 + m = omega arith in
    rw (write_digit m h, e)
