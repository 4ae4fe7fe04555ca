-- The keys of document 01's order.
use Rattle.std.specs.Prelude.{◌≡◌, List, ℕ, ◌-◌, ◌<◌}
use Rattle.words.specs.Word.{Letter}
use Rattle.table.specs.Table.{key_in, letter_in, weight_in}

-- The code c stands for the byte 123 - c, so `a` has the greatest code of the letters, 26, and `z` the least, 1; everything weighs 1. The key of a
-- letter is its code + 32 × 1.
pub record Plain (t : List ℕ) : Type 0 where
  pub letters : (c : ℕ) → c < 32 → letter_in t c ≡ 123 - c
  pub weights : (c : ℕ) → c < 32 → weight_in t c ≡ 1
  pub keys : (a : ℕ) → Letter 26 a → key_in t a ≡ 155 - a
