-- The words of an item of the table fall.
use mathlib.Core.Path.{◌≡◌}
use mathlib.Core.List.{List}
use Prim.Native.Nat.{ℕ, zero, suc, ◌+◌, ◌-◌, ◌≤◌, ◌<◌}
use native.Mathlib.Decide.{dec_lt}
use native.Mathlib.Omega.{arith}
use Rattle.words.specs.Order.{Lt}
use Rattle.algebra.specs.Written.{Written}
use Rattle.working.proofs.Falling.{written_falls}
use Rattle.working.proofs.Families.{family-written}
use Rattle.table.specs.Table.{gens_in, items_in, field_in, order_in, first_in}
use Rattle.table.specs.Polynomials.{word_in, term_in, polynomial_in, relations_in, basis_in}
use Rattle.table.specs.Tabled.{Tabled}
use Rattle.table.proofs.Families.{family-relations, family-basis}

module _ (t : List ℕ) (T : Tabled t) where
  item-written : (j : ℕ) → 1 ≤ j → j ≤ items_in t → Written (field_in t) (order_in t) (polynomial_in t j)
  item-written zero h m = absurd (omega arith)
  item-written (suc k) h m = go (dec_lt k (gens_in t))
    where
      go : Dec (k < gens_in t) → Written (field_in t) (order_in t) (polynomial_in t (suc k))
      go (yes q) = rw (family-relations t k q) at (family-written (field_in t) (order_in t) (relations_in t) T.relations-written (suc k))
      go (no q) =
          let i = k - gens_in t in
          let e : gens_in t + suc i ≡ suc k = omega arith in
          rw (family-basis t i (omega arith), e) at (family-written (field_in t) (order_in t) (basis_in t) T.basis-written (suc i))

  pub item_falls : (j : ℕ) → 1 ≤ j → j ≤ items_in t → (a b : ℕ) → first_in t j ≤ a → a < b → b < first_in t (suc j)
      → Lt (order_in t) (word_in t b) (word_in t a)
  item_falls j h m a b x y z =
      written_falls (field_in t) (order_in t) (term_in t) (first_in t j) (first_in t (suc j) - first_in t j) (item-written j h m) a b x y (omega arith)
