-- Reading a field: one law for each way through a reader, and what the readers' answers say of the fields.
use mathlib.Core.Path.{◌≡◌, refl, sym, ap, ◌∙◌}
use mathlib.Core.List.{List}
use Prim.Native.Nat.{ℕ, ◌+◌, ◌-◌, ◌≤◌, ◌<◌}
use native.Mathlib.Omega.{arith}
use lib.Dec.{lit<}
use lib.ListN.{length, take, drop}
use Rattle.text.proofs.Cutting.{cut-more, cut-end}
use Rattle.text.proofs.FieldTexts.{number-clear, word-clear}
use Rattle.text.proofs.NumberTexts.{number_is_written}
use Rattle.text.proofs.PieceTexts.{joined-pieces, pieces-last}
use Rattle.text.proofs.WordTexts.{word_is_written}
use Rattle.text.specs.Answers.{seen_num, next_num, seen_word, len_word, seen_word_at, next_word, span_word}
use Rattle.text.specs.Field.{Got, none, some, num_then, num_last, GotWord, none_word, some_word, got_word_of, word_then, word_last}
use Rattle.text.specs.Number.{number, write_number}
use Rattle.text.specs.Pieces.{Pieces, final, piece, pieces, joined, stop, part}
use Rattle.text.specs.Word.{WordField, no_word, word, word_of, write_word}
use Rattle.std.specs.Prelude.{Option, Some, None}
use Rattle.text.specs.declared.NumberAt.{NumberAt}
use Rattle.text.specs.declared.WordAt.{WordAt}

-- A number with another field behind it.
module _ (form : List ℕ → Option ℕ) (l : List ℕ) (at e : ℕ) (h : e ≡ at + stop 32 (drop at l)) where
  pub num_end : length l ≤ e → none ≡ num_then form (pieces 32 (drop at l))
  unfolding num_then
  num_end k = rw (cut-end 32 l at e h k)

  pub num_value : (v : ℕ) → e < length l → form (take (e - at) (drop at l)) ≡ Some v
      → some v (pieces 32 (drop (e + 1) l)) ≡ num_then form (pieces 32 (drop at l))
  unfolding num_then
  num_value v k q = rw (cut-more 32 l at e h k, q)

-- What says a word or a number holds no space, so it is the one field of its bytes.
word_one_field : (f w : List ℕ) → word_of f ≡ word w → pieces 32 f ≡ final f
word_one_field f w h =
    let a = word_is_written f w h in
    let b : pieces 32 (write_word w) ≡ final (write_word w) = pieces-last 32 (word-clear 32 w (lit< tt) a.1) in
    rw (← a.0) at b

number_one_field : (f : List ℕ) (n : ℕ) → number f ≡ Some n → pieces 32 f ≡ final f
number_one_field f n h =
    let a = number_is_written f n h in
    let b : pieces 32 (write_number n) ≡ final (write_number n) = pieces-last 32 (number-clear 32 n (lit< tt)) in
    rw (← a.0) at b

-- The only piece of a text is the text.
final-all : (f g : List ℕ) → pieces 32 f ≡ final g → f ≡ g
unfolding joined
final-all f g e = sym (joined-pieces 32 f) ∙ ap (joined 32) e

-- So the last field's word is the word that all the bytes say, and the same for numbers.
pub word_of_last : (f : List ℕ) → word_of f ≡ word_last (pieces 32 f)
unfolding word_last
word_of_last f = go (word_of f) (pieces 32 f) refl refl
  where
    go : (n : WordField) (ps : Pieces) → word_of f ≡ n → pieces 32 f ≡ ps → n ≡ word_last ps
    go n (final g) a b = sym a ∙ ap word_of (final-all f g b)
    go no_word (piece g ps) a b = refl
    go (word w) (piece g ps) a b = absurd (let q = word_one_field f w a in let y : ◌≡◌ {A = ℕ} 0 1 = cc in omega arith)

pub number_of_last : (f : List ℕ) → number f ≡ num_last (pieces 32 f)
unfolding num_last
number_of_last f = go (number f) (pieces 32 f) refl refl
  where
    go : (n : Option ℕ) (ps : Pieces) → number f ≡ n → pieces 32 f ≡ ps → n ≡ num_last ps
    go n (final g) a b = sym a ∙ ap number (final-all f g b)
    go None (piece g ps) a b = refl
    go (Some v) (piece g ps) a b = absurd (let q = number_one_field f v a in let y : ◌≡◌ {A = ℕ} 0 1 = cc in omega arith)

-- A word with another piece behind it: pieces are ended by the byte b.
module _ (b : ℕ) (l : List ℕ) (at e : ℕ) (h : e ≡ at + stop b (drop at l)) where
  pub word_end : length l ≤ e → none_word ≡ word_then (pieces b (drop at l))
  unfolding word_then
  word_end k = rw (cut-end b l at e h k)

  pub word_some : (w : List ℕ) → e < length l → word_of (take (e - at) (drop at l)) ≡ word w
      → some_word w (pieces b (drop (e + 1) l)) ≡ word_then (pieces b (drop at l))
  unfolding word_then got_word_of
  word_some w k q = rw (cut-more b l at e h k, q)

module _ (l : List ℕ) (at : ℕ) (r : Option WordAt) (x : GotWord) where
  pub seen-none-word : r ≡ None → seen_word_at l at r ≡ x → x ≡ none_word
  unfolding seen_word_at
  seen-none-word q h = sym h ∙ rw q

  pub seen-some-word : (w : WordAt) → r ≡ Some w → seen_word_at l at r ≡ x → x ≡ some_word (part l at w.len) (pieces 32 (drop w.next l))
  unfolding seen_word_at
  seen-some-word w q h = sym h ∙ rw q

pub next-word-le : (r : Option WordAt) (w : WordAt) (m : ℕ) → r ≡ Some w → next_word r ≤ m → w.next ≤ m
unfolding next_word
next-word-le r w m q h = rw q at h

pub span_le : (r : Option WordAt) (at : ℕ) (w : WordAt) (m : ℕ) → r ≡ Some w → at + span_word r ≤ m → at + w.len ≤ m
unfolding span_word
span_le r at w m q h = rw q at h

-- What an answer says of what was read.
module _ (l : List ℕ) (r : Option NumberAt) (x : Got) where
  pub seen_none : r ≡ None → seen_num l r ≡ x → x ≡ none
  unfolding seen_num
  seen_none q h = sym h ∙ rw q

  pub seen-some : (n : NumberAt) → r ≡ Some n → seen_num l r ≡ x → x ≡ some n.value (pieces 32 (drop n.next l))
  unfolding seen_num
  seen-some n q h = sym h ∙ rw q

pub next_le : (r : Option NumberAt) (n : NumberAt) (m : ℕ) → r ≡ Some n → next_num r ≤ m → n.next ≤ m
unfolding next_num
next_le r n m q h = rw q at h

module _ (f : List ℕ) (r : Option ℕ) (x : WordField) where
  pub seen_no_word : r ≡ None → seen_word f r ≡ x → x ≡ no_word
  unfolding seen_word
  seen_no_word q h = sym h ∙ rw q

  pub seen-word : (n : ℕ) → r ≡ Some n → seen_word f r ≡ x → x ≡ word (take n f)
  unfolding seen_word
  seen-word n q h = sym h ∙ rw q

pub len_le : (r : Option ℕ) (k n m : ℕ) → r ≡ Some n → k + len_word r ≤ m → k + n ≤ m
unfolding len_word
len_le r k n m q h = rw q at h
