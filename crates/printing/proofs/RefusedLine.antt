-- The line of a refusal: how long it is, and what is stored one behind the other.
use mathlib.Core.Path.{◌≡◌}
use mathlib.Core.List.{List, [], ◌∷◌}
use Prim.Native.Nat.{ℕ, ◌+◌, ◌^◌, ◌≤◌, ◌<◌}
use native.Mathlib.Omega.{arith}
use lib.ListN.{length}
use lib.Seq.{sets}
use Rattle.text.specs.Ascii.{ascii}
use Rattle.lists.proofs.Stores.{stored-then}
use Rattle.printing.specs.Printed.{numbers_line, refused_line}
use Rattle.printing.proofs.NumbersLine.{numbers_length}

-- Number and place have at most twenty digits each.
pub two_numbers_length : (n k : ℕ) → n < 2 ^ 64 → k < 2 ^ 64 → length (numbers_line (n ∷ k ∷ [])) ≤ 43
unfolding numbers_line
two_numbers_length n k h g = omega (arith, numbers_length n (k ∷ []) h, numbers_length k [] g)

pub refused-length : (a b n k : ℕ) → a ≡ 7 → b ≡ a + length (numbers_line (n ∷ k ∷ [])) → b ≡ length (refused_line n k)
unfolding refused_line
refused-length a b n k p q = omega arith

pub refused-stored : (l l₁ l₂ : List ℕ) (a n k : ℕ) → (a ≡ 7) × (l₁ ≡ sets l 0 (ascii "refused")) → l₂ ≡ sets l₁ a (numbers_line (n ∷ k ∷ []))
    → l₂ ≡ sets l 0 (refused_line n k)
unfolding refused_line
refused-stored l l₁ l₂ a n k (p, e) f = stored-then l l₁ l₂ 0 a (ascii "refused") (numbers_line (n ∷ k ∷ [])) e p f
