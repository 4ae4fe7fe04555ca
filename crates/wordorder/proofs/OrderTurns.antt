-- One law for each way through a comparison of two words: what is left of the words says what the whole words say.
use mathlib.Core.Path.{◌≡◌, sym, ap}
use Prim.Native.Nat.{ℕ, ◌+◌, ◌≤◌, ◌<◌}
use native.Mathlib.Numerals.{add-one}
use lib.ListN.{length, get_or, drop, drop_of_length-le}
use lib.Seq.{drop-cons}
use Rattle.std.specs.declared.cmp.Ordering.TheVariants.{Less, Equal, Greater}
use Rattle.words.specs.Word.{Word}
use Rattle.words.specs.Order.{letter_rank, by_letters, word_order}
use Rattle.words.proofs.Lexicographic.{number-less, number-greater, number_same}
use Rattle.words.proofs.WordOrder.{rank_lt}

module _ (u v : Word) where
  pub order_shorter : length u < length v → word_order u v ≡ Less
  unfolding word_order
  order_shorter h = number-less _ h

  pub order_longer : length v < length u → word_order u v ≡ Greater
  unfolding word_order
  order_longer h = number-greater _ h

  pub order_level : length u ≡ length v → word_order u v ≡ by_letters letter_rank u v
  unfolding word_order
  order_level e = number_same _ e

  module _ (i : ℕ) (h : i < length u) (k : i < length v) where
    pub letter-later : get_or u i 0 < 256 → get_or v i 0 < 256 → get_or v i 0 < get_or u i 0 → by_letters letter_rank (drop i u) (drop i v) ≡ Less
    unfolding by_letters
    letter-later p q l =
        rw (drop-cons u i 0 h, drop-cons v i 0 k) (number-less _ ((rank_lt (get_or u i 0) (get_or v i 0) p q).1 l))

    pub letter_earlier : get_or u i 0 < 256 → get_or v i 0 < 256 → get_or u i 0 < get_or v i 0 → by_letters letter_rank (drop i u) (drop i v) ≡ Greater
    unfolding by_letters
    letter_earlier p q l =
        rw (drop-cons u i 0 h, drop-cons v i 0 k) (number-greater _ ((rank_lt (get_or v i 0) (get_or u i 0) q p).1 l))

    pub letter-equal : get_or u i 0 ≡ get_or v i 0
        → by_letters letter_rank (drop (i + 1) u) (drop (i + 1) v) ≡ by_letters letter_rank (drop i u) (drop i v)
    unfolding by_letters
    letter-equal e =
        rw (drop-cons u i 0 h, drop-cons v i 0 k, add-one i) (sym (number_same _ (ap letter_rank e)))

  pub letters-end : (i : ℕ) → length u ≤ i → length v ≤ i → by_letters letter_rank (drop i u) (drop i v) ≡ Equal
  unfolding by_letters
  letters-end i h k = rw (drop_of_length-le u h, drop_of_length-le v k)
