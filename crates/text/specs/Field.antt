-- Reading a line field by field: what a field says, and the fields behind it.
use Rattle.std.specs.Prelude.{true, false, List, [], ◌∷◌, ℕ, Option, Some, None, suc, ◌-◌, eqb, length, get_or}
use Rattle.text.specs.Number.{number}
use Rattle.text.specs.Pieces.{Pieces, final, piece}
use Rattle.text.specs.Word.{WordField, no_word, word, word_of}

-- A number and the fields behind it.
pub data Got : Type 0 where
  none : Got
  some : ℕ → Pieces → Got

unfoldable pub got_of : Option ℕ → Pieces → Got
got_of None ps = none
got_of (Some v) ps = some v ps

-- A field that is not the last, and says a number by `form`.
unfoldable pub num_then : (List ℕ → Option ℕ) → Pieces → Got
unfolding got_of
num_then form (final f) = none
num_then form (piece f ps) = got_of (form f) ps

-- The last field, a number.
unfoldable pub num_last : Pieces → Option ℕ
unfolding number
num_last (final f) = number f
num_last (piece f ps) = None

-- A word and the fields behind it.
pub data GotWord : Type 0 where
  none_word : GotWord
  some_word : List ℕ → Pieces → GotWord

unfoldable pub got_word_of : WordField → Pieces → GotWord
got_word_of no_word ps = none_word
got_word_of (word w) ps = some_word w ps

-- A word that is not the last field.
unfoldable pub word_then : Pieces → GotWord
unfolding got_word_of word_of
word_then (final f) = none_word
word_then (piece f ps) = got_word_of (word_of f) ps

-- The last field, a word.
unfoldable pub word_last : Pieces → WordField
unfolding word_of
word_last (final f) = word_of f
word_last (piece f ps) = no_word

-- Kinds of one letter each have ranks, in a given order: b's rank among the kinds, the first of which has rank n.
unfoldable pub rank_from : ℕ → List ℕ → ℕ → Option ℕ
rank_from n [] b = None
rank_from n (k ∷ ks) b = elim (eqb k b) [ true ↦ Some n | false ↦ rank_from (suc n) ks b ]

-- The rank of a field of one byte among the kinds, counted from 1.
unfoldable pub rank : List ℕ → List ℕ → Option ℕ
unfolding rank_from
rank ks f = elim (eqb (length f) 1) [ true ↦ rank_from 1 ks (get_or f 0 0) | false ↦ None ]

-- A kind as it is written, by its rank.
unfoldable pub write_kind : List ℕ → ℕ → List ℕ
write_kind ks k = get_or ks (k - 1) 0 ∷ []
