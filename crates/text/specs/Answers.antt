-- What the answers of the readers stand for: a place in a line becomes the fields from there on.
use Rattle.std.specs.Prelude.{List, ℕ, Option, Some, None, take, drop}
use Rattle.text.specs.declared.NumberAt.{NumberAt}
use Rattle.text.specs.declared.WordAt.{WordAt}
use Rattle.text.specs.Pieces.{pieces, fields, part}
use Rattle.text.specs.Word.{WordField, no_word, word}
use Rattle.text.specs.Field.{Got, none, some, GotWord, none_word, some_word}

-- A number read in the line l.
unfoldable pub seen_num : List ℕ → Option NumberAt → Got
unfolding pieces
seen_num l None = none
seen_num l (Some n) = some n.value (fields (drop n.next l))

-- The place behind it.
unfoldable pub next_num : Option NumberAt → ℕ
next_num None = 0
next_num (Some n) = n.next

-- A word read in bytes of which it is the first.
unfoldable pub seen_word : List ℕ → Option ℕ → WordField
seen_word f None = no_word
seen_word f (Some n) = word (take n f)

-- The number of its letters.
unfoldable pub len_word : Option ℕ → ℕ
len_word None = 0
len_word (Some n) = n

-- A word read in the text s from the place at on, with the pieces behind it, which the byte b ends.
unfoldable pub seen_word_until : ℕ → List ℕ → ℕ → Option WordAt → GotWord
unfolding pieces
seen_word_until b s at None = none_word
seen_word_until b s at (Some w) = some_word (part s at w.len) (pieces b (drop w.next s))

-- A word read in the line l, with the fields behind it.
unfoldable pub seen_word_at : List ℕ → ℕ → Option WordAt → GotWord
unfolding seen_word_until
seen_word_at l at r = seen_word_until 32 l at r

-- The place behind it.
unfoldable pub next_word : Option WordAt → ℕ
next_word None = 0
next_word (Some w) = w.next

-- The number of its letters.
unfoldable pub span_word : Option WordAt → ℕ
span_word None = 0
span_word (Some w) = w.len
