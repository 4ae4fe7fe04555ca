-- Orders of the words: what an admissible order is, and document 01's order.
use Rattle.std.specs.Prelude.{◌≡◌, true, false, ◌⊎◌, [], ◌∷◌, ◌++◌, ℕ, ◌-◌, ◌<◌, ltb, length, get_or}
use mathlib.Core.WellFounded.{Acc}
use Rattle.std.specs.declared.cmp.Ordering.{Ordering}
use Rattle.std.specs.declared.cmp.Ordering.TheVariants.{Less, Equal, Greater}
use Rattle.words.specs.Word.{Word}

-- An order says of any two words how the first stands to the second.
abbrev pub Order : Type 0
Order = Word → Word → Ordering

-- u is below v.
abbrev pub Lt : Order → Word → Word → Type 0
Lt O u v = O u v ≡ Less

-- How the second word stands to the first, where the first stands so to the second.
unfoldable pub opposite : Ordering → Ordering
opposite Less = Greater
opposite Equal = Equal
opposite Greater = Less

-- An admissible order (source document 002, definition 3.1.1, with 3.3.4 for `wf`): total, respected by products on both sides, and with no endless fall.
pub record Admissible (O : Order) : Type 0 where
  pub equal : (u v : Word) → O u v ≡ Equal → u ≡ v
  pub flip : (u v : Word) → O v u ≡ opposite (O u v)
  pub trans : (u v w : Word) → Lt O u v → Lt O v w → Lt O u w
  pub left : (l u v : Word) → Lt O u v → Lt O (l ++ u) (l ++ v)
  pub right : (r u v : Word) → Lt O u v → Lt O (u ++ r) (v ++ r)
  pub wf : (w : Word) → Acc (Lt O) w

-- At the first place where the letters of u and v differ, that of u comes later in the alphabet.
pub record FirstDiffers (u v : Word) : Type 0 where
  pub place : ℕ
  pub inside : place < length u
  pub before : (i : ℕ) → i < place → get_or u i 0 ≡ get_or v i 0
  pub later : get_or v place 0 < get_or u place 0

-- u is below v in document 01's order, in its words: the longer word is greater; at equal length the first differing letter decides, and a is
-- greater than b, b than c.
abbrev pub IsBelow : Word → Word → Type 0
IsBelow u v = (length u < length v) ⊎ ((length u ≡ length v) × FirstDiffers u v)

-- The same as a computation. The rank of a letter: the earlier in the alphabet, the higher.
-- (A number that is no byte stands in no text; it ranks above every byte, so that each number has a rank of its own and the order no endless fall.)
unfoldable pub letter_rank : ℕ → ℕ
letter_rank a = elim (ltb a 256) [ true ↦ 255 - a | false ↦ a ]

-- The greater number decides; where the two are equal, c does.
unfoldable pub by_number_of : ℕ → ℕ → Ordering → Ordering
by_number_of m n c = elim (ltb m n) [ true ↦ Less | false ↦ elim (ltb n m) [ true ↦ Greater | false ↦ c ] ]

-- The first differing letter decides: that of higher rank is greater. (A word that the other goes on from is lower.)
unfoldable pub by_letters : (ℕ → ℕ) → Order
unfolding by_number_of
by_letters rank [] [] = Equal
by_letters rank [] (b ∷ v) = Less
by_letters rank (a ∷ u) [] = Greater
by_letters rank (a ∷ u) (b ∷ v) = by_number_of (rank a) (rank b) (by_letters rank u v)

-- Document 01's order.
unfoldable pub word_order : Order
unfolding by_number_of by_letters letter_rank
word_order u v = by_number_of (length u) (length v) (by_letters letter_rank u v)
