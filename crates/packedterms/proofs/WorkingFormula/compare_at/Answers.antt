-- `compare_at`: the weights decide, and where they are equal the blocks.
use mathlib.Core.Path.{◌≡◌, sym, ◌∙◌}
use Prim.Native.Nat.{ℕ, ◌<◌}
use native.Mathlib.Decide.{dec_lt}
use native.Mathlib.Omega.{arith}
use Rattle.std.specs.Ordering.{nat_cmp}
use Rattle.std.proofs.lemmas.Bool.Decides.{nat_tests}
use Rattle.std.specs.declared.cmp.Ordering.{Ordering}
use Rattle.std.specs.declared.cmp.Ordering.TheVariants.{Equal}
use Rattle.words.specs.Order.{by_number_of}
use Rattle.words.proofs.Lexicographic.{number-less, number-greater, number_same}
use Rattle.packedterms.proofs.WorkingFormula.compare_at.Goals as goal

-- two numbers that differ
number-unequal : (m n : ℕ) (d : Ordering) → (nat_cmp m n ≡ Equal → ⊥) → by_number_of m n d ≡ nat_cmp m n
number-unequal m n d h = go (dec_lt m n) (dec_lt n m)
  where
    go : Dec (m < n) → Dec (n < m) → by_number_of m n d ≡ nat_cmp m n
    go (yes p) q = number-less d p ∙ grind (arith, nat_tests)
    go (no p) (yes q) = number-greater d q ∙ grind (arith, nat_tests)
    go (no p) (no q) = absurd (h (grind (arith, nat_tests)))

-- and two that do not
number-equal : (m n : ℕ) (d : Ordering) → Equal ≡ nat_cmp m n → by_number_of m n d ≡ d
number-equal m n d h = number_same d (grind (arith, nat_tests))

pub returns-in-Equal : goal.returns-in-Equal
returns-in-Equal c = c.compare.ensures ∙ sym (number-equal _ _ _ c.in-Equal.ensures)

pub returns-in_default : goal.returns-in_default
returns-in_default c = c.cmp.ensures ∙ sym (number-unequal _ _ _ (rw c.cmp.ensures at c.in_default.not-Equal))
