-- A line of numbers, turn by turn, and how long it is.
use mathlib.Core.Path.{◌≡◌, ap, ◌∙◌}
use mathlib.Core.List.{List, [], ◌∷◌, ◌++◌}
use Prim.Native.Nat.{ℕ, ◌+◌, ◌^◌, ◌≤◌, ◌<◌}
use native.Mathlib.Numerals.{add-one}
use native.Mathlib.Omega.{arith}
use lib.ListN.{length, get_or, drop, set, length-append, length-set, drop_of_length-le}
use lib.Seq.{sets, length-sets, drop-cons}
use Rattle.text.specs.Number.{write_number}
use Rattle.lists.proofs.Stores.{sets_append}
use Rattle.printing.proofs.NumberLength.{twenty_digits}
use Rattle.printing.specs.Printed.{numbers_line}

-- one number more
module _ (ns : List ℕ) (i : ℕ) (h : i < length ns) where
  pub numbers_next : numbers_line (drop i ns) ≡ 32 ∷ (write_number (get_or ns i 0) ++ numbers_line (drop (i + 1) ns))
  unfolding numbers_line
  numbers_next = rw (drop-cons ns i 0 h, add-one i)

  pub next-length : length (numbers_line (drop i ns)) ≡ 1 + length (write_number (get_or ns i 0)) + length (numbers_line (drop (i + 1) ns))
  next-length = rw numbers_next (omega (arith, length-append (write_number (get_or ns i 0)) (numbers_line (drop (i + 1) ns))))

  pub next-stored : (l l₁ : List ℕ) (o a : ℕ) → l₁ ≡ sets (set l o 32) (o + 1) (write_number (get_or ns i 0)) → a ≡ o + 1 + length (write_number (get_or ns i 0))
      → sets l₁ a (numbers_line (drop (i + 1) ns)) ≡ sets l o (numbers_line (drop i ns))
  next-stored l l₁ o a e p =
      let w = write_number (get_or ns i 0) in
      let rest = numbers_line (drop (i + 1) ns) in
      rw (numbers_next, e, p) (sets_append (set l o 32) (o + 1) w rest ∙ ap (λ (k : ℕ). sets (set l o 32) k (w ++ rest)) (add-one o))

  pub next-room : (l l₁ : List ℕ) (o : ℕ) → l₁ ≡ sets (set l o 32) (o + 1) (write_number (get_or ns i 0)) → length l₁ ≡ length l
  next-room l l₁ o e = ap (λ (x : List ℕ). length x) e ∙ length-sets (set l o 32) (o + 1) (write_number (get_or ns i 0)) ∙ length-set l o 32

-- the line's end
pub numbers_end : (ns : List ℕ) (i : ℕ) → length ns ≤ i → numbers_line (drop i ns) ≡ 10 ∷ []
unfolding numbers_line
numbers_end ns i h = rw (drop_of_length-le ns h)

-- Each number of 64 bits takes at most 21 bytes.
pub numbers_length : (n : ℕ) (ns : List ℕ) → n < 2 ^ 64 → length (numbers_line (n ∷ ns)) ≤ 21 + length (numbers_line ns)
unfolding numbers_line
numbers_length n ns h = omega (arith, length-append (write_number n) (numbers_line ns), twenty_digits n h)
