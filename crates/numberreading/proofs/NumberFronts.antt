-- A number's field, digit by digit: what one byte more does to the number read so far.
use mathlib.Core.Path.{◌≡◌, refl, sym, ap, ◌∙◌}
use mathlib.Core.Bool.{Bool, true, false}
use mathlib.Core.List.{List, [], ◌∷◌}
use Prim.Native.Nat.{ℕ, ◌+◌, ◌*◌, ◌-◌, ◌≤◌, ◌<◌}
use native.Mathlib.Omega.{arith}
use lib.ListN.{length, get_or, drop}
use borrow.Author.Tests.{eq-eqb, ne_eqb}
use borrow.Author.Rules.{rules}
use Rattle.std.proofs.Common.{tests}
use Rattle.std.specs.Prelude.{IsTrue, ◌↔◌}
use Rattle.std.specs.Char.{is_ascii_digit}
use Rattle.text.proofs.Bytewise.{within-high, within_in, within_iff, within-bounds}
use Rattle.text.proofs.Cutting.{stop_here, stop-later, stop-end}
use Rattle.text.proofs.Digits.{pow, pow_more}
use Rattle.text.specs.Bytes.{within}
use Rattle.text.specs.Field.{none, some, num_then}
use Rattle.text.specs.Number.{digits, number}
use Rattle.text.specs.Pieces.{pieces, stop}
use Rattle.std.specs.Prelude.{None, Some}
use Rattle.fieldreading.proofs.FieldReading.{num_end, num_value}
use Rattle.fieldreading.proofs.Fronts.{front, front_here, front-later, length_front, front_not_first, num_none, num_one, num_more}

-- The digits are the library's.
digit-within : (x : ℕ) → is_ascii_digit x ≡ within 48 57 x
digit-within x = let h : IsTrue (is_ascii_digit x) ↔ ((48 ≤ x) × (x ≤ 57)) = search (rules, tests) in within_iff 48 57 x (is_ascii_digit x) h

module _ (x : ℕ) where
  pub digit-bounds : is_ascii_digit x ≡ true → (48 ≤ x) × (x ≤ 57)
  digit-bounds e = within-bounds 48 57 x (sym (digit-within x) ∙ e)

  pub digit_not : is_ascii_digit x ≡ false → within 48 57 x ≡ false
  digit_not e = sym (digit-within x) ∙ e

-- What a field says as a number, if it does not start with `0`.
module _ (f : List ℕ) (z : get_or f 0 0 ≡ 48 → ⊥) where
  number-some : (n : ℕ) → 1 ≤ length f → length f ≤ 5 → digits 0 f ≡ Some n → number f ≡ Some n
  unfolding number
  number-some n a b e = rw (number, within_in 1 5 (length f) a b, ne_eqb (get_or f 0 0) 48 z, e)

  number_not : digits 0 f ≡ None → number f ≡ None
  unfolding number
  number_not e = go (within 1 5 (length f)) refl
    where
      go : (t : Bool) → within 1 5 (length f) ≡ t → number f ≡ None
      go true q = rw (number, q, ne_eqb (get_or f 0 0) 48 z, e)
      go false q = rw (number, q)

number_long : (f : List ℕ) → 6 ≤ length f → number f ≡ None
unfolding number
number_long f h = rw (number, within-high 1 5 (length f) (omega arith) (omega arith))

-- The number read so far stays below a power of ten.
pub pow-start : (at : ℕ) → 0 < pow (at - at)
unfolding pow
pow-start at = let z : at - at ≡ 0 = omega arith in rw z (omega arith)

pub pow-next : (at i n d : ℕ) → at ≤ i → n < pow (i - at) → d ≤ 9 → n * 10 + d < pow (i + 1 - at)
pow-next at i n d a h b = let z : i + 1 - at ≡ i - at + 1 = omega arith in rw z (pow_more (i - at) n d h b)

-- The digits of the field that starts at the place at, read up to the place i: they say n, and the bytes from i on say the rest.
module _ (l : List ℕ) (at i n : ℕ) (h : i + stop 32 (drop i l) ≡ at + stop 32 (drop at l))
    (q : digits n (front 32 (drop i l)) ≡ digits 0 (front 32 (drop at l))) (z : get_or l at 0 ≡ 48 → ⊥) where
  no_zero : get_or (front 32 (drop at l)) 0 0 ≡ 48 → ⊥
  no_zero = front_not_first 32 l at 48 (λ y. omega arith) z

  -- The end of the line.
  pub digits_last : length l ≤ i → none ≡ num_then number (pieces 32 (drop at l))
  digits_last k = num_end number l at i (sym (stop-end 32 l i k) ∙ h) k

  -- The byte at the place i.
  module _ (k : i < length l) where
    -- A space ends the digits.
    pub digits-ended : get_or l i 0 ≡ 32 → at < i → i ≤ at + 5 → some n (pieces 32 (drop (i + 1) l)) ≡ num_then number (pieces 32 (drop at l))
    unfolding digits
    digits-ended y a b =
        let p : i ≡ at + stop 32 (drop at l) = sym (stop_here 32 l i k y) ∙ h in
        let m : i - at ≡ stop 32 (drop at l) = omega arith in
        let v : digits 0 (front 32 (drop at l)) ≡ Some n = sym q ∙ ap (digits n) (front_here 32 l i k y) in
        let u = number-some (front 32 (drop at l)) no_zero n (rw length_front (omega arith)) (rw length_front (omega arith)) v in
        num_value number l at i p n k (rw m u)

    -- There are none before it.
    pub digits-none : get_or l i 0 ≡ 32 → i ≡ at → none ≡ num_then number (pieces 32 (drop at l))
    unfolding number within
    digits-none w a = num_none number (drop at l) (rw (← a, front_here 32 l i k w))

    -- A byte that is no digit and no space.
    pub digits_broken : (get_or l i 0 ≡ 32 → ⊥) → is_ascii_digit (get_or l i 0) ≡ false → none ≡ num_then number (pieces 32 (drop at l))
    unfolding digits
    digits_broken s w =
        let x : within 48 57 (get_or l i 0) ≡ false = digit_not (get_or l i 0) w in
        let v : digits 0 (front 32 (drop at l)) ≡ None = sym q ∙ rw (front-later 32 l i k s, digits, x) in
        num_none number (drop at l) (number_not (front 32 (drop at l)) no_zero v)

    -- Five digits, and no space behind them.
    pub digits-many : (get_or l i 0 ≡ 32 → ⊥) → at + 5 ≤ i → none ≡ num_then number (pieces 32 (drop at l))
    digits-many s b =
        num_none number (drop at l)
        (number_long (front 32 (drop at l)) (rw length_front (omega (arith, stop-later 32 l i k s))))

    -- One digit more.
    pub digits_more : is_ascii_digit (get_or l i 0) ≡ true
        → (i + 1 + stop 32 (drop (i + 1) l) ≡ at + stop 32 (drop at l)) × (digits (n * 10 + (get_or l i 0 - 48)) (front 32 (drop (i + 1) l)) ≡ digits 0 (front 32 (drop at l)))
    unfolding digits
    digits_more w =
        let b = digit-bounds (get_or l i 0) w in
        let s : get_or l i 0 ≡ 32 → ⊥ = λ y. omega (arith, b.0) in
        let x : within 48 57 (get_or l i 0) ≡ true = within_in 48 57 (get_or l i 0) b.0 b.1 in
        (stop-later 32 l i k s ∙ h, rw (front-later 32 l i k s, digits, x) at q)

-- A field that starts with `0`: it is a number if it has no other byte.
number-zero : (x : ℕ) → x ≡ 48 → number (x ∷ []) ≡ Some 0
unfolding number within
number-zero x e = rw e

leading-zero : (f : List ℕ) → 2 ≤ length f → get_or f 0 0 ≡ 48 → number f ≡ None
unfolding number
leading-zero f h e = go (within 1 5 (length f)) refl
  where
    go : (t : Bool) → within 1 5 (length f) ≡ t → number f ≡ None
    go true q = rw (number, q, eq-eqb (get_or f 0 0) 48 e, ne_eqb (length f) 1 (λ y. omega arith))
    go false q = rw (number, q)

module _ (l : List ℕ) (at : ℕ) (k : at < length l) (z : get_or l at 0 ≡ 48) where
  pub zero_alone : get_or l (at + 1) 0 ≡ 32 → some 0 (pieces 32 (drop (at + 2) l)) ≡ num_then number (pieces 32 (drop at l))
  zero_alone e = num_one l at k (λ y. omega arith) number 0 e (number-zero (get_or l at 0) z)

  pub zero_more : (get_or l (at + 1) 0 ≡ 32 → ⊥) → none ≡ num_then number (pieces 32 (drop at l))
  zero_more e = num_more l at k (λ y. omega arith) number e (λ f h y. leading-zero f h (y ∙ z))
