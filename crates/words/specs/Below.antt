-- 'Below' in document 01's order, as a test.
use Rattle.std.specs.Prelude.{Bool, List, ℕ}
use Rattle.std.specs.Ordering.{is_lt}
use Rattle.words.specs.Order.{word_order}

-- u is below v in document 01's order.
unfoldable pub is_below : List ℕ → List ℕ → Bool
unfolding word_order
is_below u v = is_lt (word_order u v)
