-- Products behind the first terms: behind none; and those of an item that come after one are behind what that one is behind.
use mathlib.Core.Path.{◌≡◌}
use mathlib.Core.List.{List}
use Prim.Native.Nat.{ℕ, suc, ◌+◌, ◌≤◌}
use native.Mathlib.Omega.{arith}
use Rattle.words.specs.Word.{Word, around}
use Rattle.words.proofs.Admissible.{lt-around}
use Rattle.algebra.specs.Poly.{Poly}
use Rattle.table.specs.Table.{items_in, order_in, first_in}
use Rattle.table.specs.Polynomials.{word_in}
use Rattle.table.specs.Tabled.{Tabled}
use Rattle.table.proofs.FallingWords.{item_falls}
use Rattle.packedterms.specs.Behind.{Behind, none}
use Rattle.packedterms.proofs.BehindTerms.{behind_lower}
use Rattle.itemadding.specs.Lower.{Lower}

pub lower_none : (t : List ℕ) (left right : Word) (first end : ℕ) (f : Poly) → Lower t left right first end 0 f
lower_none t left right first end f = record { behind = λ i x y. none }

pub lower_next : (t : List ℕ) → Tabled t → (item : ℕ) → 1 ≤ item → item ≤ items_in t → (left right : Word) (i : ℕ) → first_in t item ≤ i → (k : ℕ) (f : Poly)
    → {u : Word} → u ≡ around left right (word_in t i) → Behind (order_in t) u k f → Lower t left right (i + 1) (first_in t (suc item)) k f
lower_next t T item some most left right i h k f e b = record {
  behind = λ j x y.
      let A = T.suits.admissible in
      behind_lower A (rw e (lt-around A left right (word_in t j) (word_in t i) (item_falls t T item some most i j h (omega arith) y))) b;
}
