-- Orders by weight (document 02, P10): the heavier word is greater, and at equal weight the first differing letter decides.
use Rattle.std.specs.Prelude.{◌≡◌, [], ◌∷◌, ℕ, ◌+◌, ◌≤◌}
use Rattle.words.specs.Word.{Word}
use Rattle.words.specs.Order.{Order, letter_rank, by_number_of, by_letters}

-- What each letter weighs, and its rank among letters: the higher is greater.
pub record Weighing : Type 0 where
  pub weigh : ℕ → ℕ
  pub rank : ℕ → ℕ

-- Every letter weighs at least 1, and no two have one rank.
pub record Proper (W : Weighing) : Type 0 where
  pub some : (a : ℕ) → 1 ≤ W.weigh a
  pub own : (a b : ℕ) → W.rank a ≡ W.rank b → a ≡ b

-- A word's weight is the sum over its letters.
unfoldable pub weight : (ℕ → ℕ) → Word → ℕ
weight weigh [] = 0
weight weigh (a ∷ w) = weigh a + weight weigh w

-- The order by weight.
unfoldable pub weighted_order : Weighing → Order
unfolding weight by_number_of by_letters
weighted_order W u v = by_number_of (weight W.weigh u) (weight W.weigh v) (by_letters W.rank u v)

-- Document 01's order has no weights: each letter weighs 1.
unfoldable pub unit_weighing : Weighing
unfolding letter_rank
unit_weighing = record { weigh = λ a. 1; rank = letter_rank }
