-- Products that belong behind the first terms of the formula.
use Rattle.std.specs.Prelude.{List, ℕ, ◌≤◌, ◌<◌}
use Rattle.words.specs.Word.{Word, around}
use Rattle.algebra.specs.Poly.{Poly}
use Rattle.table.specs.Table.{order_in}
use Rattle.table.specs.Polynomials.{word_in}
use Rattle.packedterms.specs.Behind.{Behind}

-- Left × word × right is below the words of the first `from` terms of f, for each term of the table from `first` on, before `end`.
pub record Lower (t : List ℕ) (left right : Word) (first end from : ℕ) (f : Poly) : Type 0 where
  pub behind : (i : ℕ) → first ≤ i → i < end → Behind (order_in t) (around left right (word_in t i)) from f
