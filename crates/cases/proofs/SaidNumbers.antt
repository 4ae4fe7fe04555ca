-- The number that digits say, turn by turn, and how large it is.
use mathlib.Core.Path.{◌≡◌, refl}
use mathlib.Core.Bool.{Bool, true, false}
use mathlib.Core.List.{List, [], ◌∷◌}
use Prim.Native.Nat.{ℕ, zero, suc, ◌+◌, ◌*◌, ◌-◌, ◌≤◌, ◌<◌}
use native.Mathlib.Numerals.{add-one}
use native.Mathlib.Omega.{arith}
use native.Mathlib.Nat.{add-zero}
use lib.Dec.{ltb}
use lib.ListN.{length, get_or, drop, drop_of_length-le, length-take}
use lib.Seq.{drop-cons}
use borrow.Author.Tests.{ltb-false}
use Rattle.text.specs.Pieces.{part}
use Rattle.text.proofs.Digits.{pow, pow_more}
use Rattle.cases.specs.HeadLine.{digit, said}

-- one digit more
module _ (f : List ℕ) (i n : ℕ) where
  pub said-next : i < length f → said (n * 10 + digit (get_or f i 0)) (drop (i + 1) f) ≡ said n (drop i f)
  unfolding said
  said-next h = rw (drop-cons f i 0 h, said, add-one i)

  pub said-end : length f ≤ i → said n (drop i f) ≡ n
  unfolding said
  said-end h = rw (drop_of_length-le f h)

-- A digit says at most 9.
pub digit-small : (d : ℕ) → digit d ≤ 9
unfolding digit
digit-small d = go (ltb d 48) (ltb 57 d) refl
  where
    go : (t u : Bool) → ltb 57 d ≡ u → ◌≤◌ (elim t [ true ↦ 0 | false ↦ elim u [ true ↦ 0 | false ↦ d - 48 ] ]) 9
    go true u e = omega arith
    go false true e = omega arith
    go false false e = omega (arith, ltb-false 57 d e)

pow_monotone : (i j : ℕ) → i ≤ j → pow i ≤ pow j
unfolding pow
pow_monotone zero zero h = omega arith
pow_monotone zero (suc j) h = omega (arith, pow_monotone zero j (omega arith))
pow_monotone (suc i) zero h = absurd (omega arith)
pow_monotone (suc i) (suc j) h = omega (arith, pow_monotone i j (omega arith))

pub pow-nine : (i : ℕ) → i ≤ 9 → pow i ≤ 1000000000
unfolding pow
pow-nine i h = omega (arith, pow_monotone i 9 h)

-- A number of i digits and some more is below a power of ten.
said-below : (acc i : ℕ) (f : List ℕ) → acc < pow i → said acc f < pow (i + length f)
unfolding said
said-below acc i [] h = rw add-zero h
said-below acc i (d ∷ ds) h =
    let e : i + 1 + length ds ≡ i + suc (length ds) = omega arith in
    rw e at (said-below (acc * 10 + digit d) (i + 1) ds (pow_more i acc (digit d) h (digit-small d)))

-- Five digits say at most 99,999.
pub five_said : (s : List ℕ) (a : ℕ) → said 0 (part s a 5) ≤ 99999
unfolding pow
five_said s a =
    let f = part s a 5 in
    omega (arith, said-below 0 0 f (omega arith), pow_monotone (0 + length f) 5 (omega (arith, length-take 5 (drop a s))))
