-- A word below another in document 01's order is not longer.
use mathlib.Core.Path.{◌≡◌}
use Prim.Native.Nat.{ℕ, ◌≤◌, ◌<◌}
use native.Mathlib.Decide.{dec_lt}
use native.Mathlib.Omega.{arith}
use lib.ListN.{length}
use borrow.Author.Tests.{lt-ltb, le-ltb}
use Rattle.std.specs.declared.cmp.Ordering.TheVariants.{Greater}
use Rattle.words.specs.Word.{Word}
use Rattle.words.specs.Order.{Lt, by_number_of, word_order}

longer_above : (u v : Word) → length v < length u → word_order u v ≡ Greater
unfolding word_order by_number_of
longer_above u v h = let k : length v ≤ length u = omega arith in rw (word_order, by_number_of, le-ltb (length u) (length v) k, lt-ltb (length v) (length u) h)

pub below_length : (u v : Word) → Lt word_order u v → length u ≤ length v
below_length u v e = go (dec_lt (length v) (length u))
  where
    go : Dec (length v < length u) → length u ≤ length v
    go (no h) = omega arith
    go (yes h) = let z : ◌≡◌ {A = ℕ} 0 1 = cc (longer_above u v h) in absurd (omega arith)
