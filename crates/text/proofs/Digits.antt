-- Digits, turn by turn, and how large a number of at most five digits is.
use mathlib.Core.Path.{◌≡◌}
use mathlib.Core.Bool.{false}
use mathlib.Core.List.{List}
use Prim.Native.Nat.{ℕ, zero, suc, ◌+◌, ◌*◌, ◌-◌, ◌≤◌, ◌<◌}
use native.Mathlib.Numerals.{add-one}
use native.Mathlib.Omega.{arith}
use lib.ListN.{length, get_or, drop, drop_of_length-le}
use lib.Seq.{drop-cons}
use Rattle.text.proofs.Bytewise.{within_in}
use Rattle.text.specs.Bytes.{within}
use Rattle.text.specs.Number.{digits}
use Rattle.std.specs.Prelude.{None, Some}

unfoldable pub pow : ℕ → ℕ
pow zero = 1
pow (suc n) = 10 * pow n

pub pow_five : (i : ℕ) → i ≤ 5 → pow i ≤ 100000
unfolding pow
pow_five zero h = omega arith
pow_five (suc zero) h = omega arith
pow_five (suc (suc zero)) h = omega arith
pow_five (suc (suc (suc zero))) h = omega arith
pow_five (suc (suc (suc (suc zero)))) h = omega arith
pow_five (suc (suc (suc (suc (suc zero))))) h = omega arith
pow_five (suc (suc (suc (suc (suc (suc n)))))) h = absurd (omega arith)

pub pow_more : (i n d : ℕ) → n < pow i → d ≤ 9 → n * 10 + d < pow (i + 1)
unfolding pow
pow_more i n d h k = rw add-one (omega arith)

module _ (acc : ℕ) (f : List ℕ) (i : ℕ) where
  pub digits_here : (d : ℕ) → i < length f → d ≡ get_or f i 0 → 48 ≤ d → d ≤ 57 → digits (acc * 10 + (d - 48)) (drop (i + 1) f) ≡ digits acc (drop i f)
  unfolding digits
  digits_here d h e lo hi = rw (e, drop-cons f i 0, digits, within_in 48 57 (get_or f i 0) (omega arith) (omega arith), add-one i)

  pub digits_not : (d : ℕ) → i < length f → d ≡ get_or f i 0 → within 48 57 d ≡ false → digits acc (drop i f) ≡ None
  unfolding digits
  digits_not d h e w = let v : within 48 57 (get_or f i 0) ≡ false = rw e at w in rw (drop-cons f i 0, digits, v)

  pub digits-end : length f ≤ i → digits acc (drop i f) ≡ Some acc
  unfolding digits
  digits-end h = rw drop_of_length-le
