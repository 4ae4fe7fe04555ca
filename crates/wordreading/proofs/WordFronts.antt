-- A word's field, letter by letter: what one byte more does to the letters that are left to read.
-- A byte b ends it: a space, or a newline where it is the last of its line.
use mathlib.Core.Path.{◌≡◌, refl, sym, ap, ◌∙◌}
use mathlib.Core.Bool.{Bool, true, false}
use mathlib.Core.List.{List, [], ◌∷◌}
use mathlib.Core.Logic.{⊎_elim}
use Prim.Native.Nat.{ℕ, suc, ◌+◌, ◌-◌, ◌≤◌, ◌<◌}
use native.Mathlib.Decide.{dec_lt}
use native.Mathlib.Omega.{arith}
use lib.Dec.{eqb}
use lib.ListN.{length, get_or, drop}
use borrow.Author.Tests.{ne_eqb}
use borrow.Author.Rules.{rules}
use Rattle.std.proofs.Common.{tests}
use Rattle.std.specs.Prelude.{IsTrue, ◌↔◌}
use Rattle.std.specs.Char.{is_ascii_lowercase}
use Rattle.text.proofs.Bytewise.{within_low, within_iff, within-bounds}
use Rattle.text.proofs.Cutting.{stop_here, stop-later, stop-end, pieces-cut, pieces_end}
use Rattle.text.proofs.WordTexts.{write_letters, read-written-word}
use Rattle.text.specs.Bytes.{within, all_within}
use Rattle.text.specs.Field.{none_word, some_word, got_word_of, word_then}
use Rattle.text.specs.Pieces.{pieces, stop, part}
use Rattle.text.specs.Word.{no_word, word, is_dash, word_of}
use Rattle.fieldreading.proofs.FieldReading.{word_end, word_some}
use Rattle.fieldreading.proofs.Fronts.{front, front_here, front-later, length_front, front_not_first, byte_inside, front_one, stop_one, front-more}

-- A first piece that says no word.
word_none : (b : ℕ) (s : List ℕ) → word_of (front b s) ≡ no_word → none_word ≡ word_then (pieces b s)
unfolding word_then got_word_of
word_none b s w = elim (dec_lt (stop b s) (length s)) [ yes k ↦ rw (pieces-cut b s k, w) | no k ↦ rw (pieces_end b s (omega arith)) ]

-- What a field says as a word, if it does not start with `-`.
not_dash : (f : List ℕ) → (get_or f 0 0 ≡ 45 → ⊥) → is_dash f ≡ false
unfolding is_dash
not_dash f z = go (eqb (length f) 1) refl
  where
    go : (t : Bool) → eqb (length f) 1 ≡ t → is_dash f ≡ false
    go true q = rw (is_dash, q, ne_eqb (get_or f 0 0) 45 z)
    go false q = rw (is_dash, q)

no_letters : (f : List ℕ) → is_dash f ≡ false → all_within 97 122 f ≡ false → word_of f ≡ no_word
unfolding word_of
no_letters f d e = go (eqb (length f) 0) refl
  where
    go : (t : Bool) → eqb (length f) 0 ≡ t → word_of f ≡ no_word
    go true q = rw (word_of, q)
    go false q = rw (word_of, q, d, e)

letters : (f : List ℕ) → (length f ≡ 0 → ⊥) → all_within 97 122 f ≡ true → word_of f ≡ word f
letters f h e = rw (write_letters f h) at (read-written-word f e)

-- The letters are the library's lower case letters.
pub lowercase-within : (x : ℕ) → is_ascii_lowercase x ≡ within 97 122 x
lowercase-within x = let h : IsTrue (is_ascii_lowercase x) ↔ ((97 ≤ x) × (x ≤ 122)) = search (rules, tests) in within_iff 97 122 x (is_ascii_lowercase x) h

-- The letters of the piece that starts at the place at, read up to the place i: the bytes from i on say whether all are letters.
module _ (b : ℕ) (low : b < 45) (l : List ℕ) (at i : ℕ) (h : i + stop b (drop i l) ≡ at + stop b (drop at l))
    (q : all_within 97 122 (front b (drop i l)) ≡ all_within 97 122 (front b (drop at l))) (z : get_or l at 0 ≡ 45 → ⊥) where
  -- The end of the line.
  pub letters-last : length l ≤ i → none_word ≡ word_then (pieces b (drop at l))
  letters-last k = word_end b l at i (sym (stop-end b l i k) ∙ h) k

  -- The byte at the place i.
  module _ (k : i < length l) where
    -- The byte b ends the letters.
    pub letters-ended : get_or l i 0 ≡ b → at < i → some_word (part l at (i - at)) (pieces b (drop (i + 1) l)) ≡ word_then (pieces b (drop at l))
    unfolding all_within
    letters-ended y a =
        let p : i ≡ at + stop b (drop at l) = sym (stop_here b l i k y) ∙ h in
        let m : i - at ≡ stop b (drop at l) = omega arith in
        let v : all_within 97 122 (front b (drop at l)) ≡ true = sym q ∙ ap (all_within 97 122) (front_here b l i k y) in
        word_some b l at i p (part l at (i - at)) k (rw m (letters (front b (drop at l)) (rw length_front (λ x. omega arith)) v))

    -- There are none before it.
    pub letters-none : get_or l i 0 ≡ b → i ≡ at → none_word ≡ word_then (pieces b (drop at l))
    unfolding word_of
    letters-none w a = word_none b (drop at l) (rw (← a, front_here b l i k w))

    -- A byte that is no letter and does not end them.
    pub letters_broken : (get_or l i 0 ≡ b → ⊥) → is_ascii_lowercase (get_or l i 0) ≡ false → none_word ≡ word_then (pieces b (drop at l))
    unfolding all_within
    letters_broken s w =
        let x : within 97 122 (get_or l i 0) ≡ false = sym (lowercase-within (get_or l i 0)) ∙ w in
        let v : all_within 97 122 (front b (drop at l)) ≡ false = sym q ∙ rw (front-later b l i k s, all_within, x) in
        word_none b (drop at l) (no_letters (front b (drop at l)) (not_dash (front b (drop at l)) (front_not_first b l at 45 (λ y. omega arith) z)) v)

    -- One letter more.
    pub letters-more : is_ascii_lowercase (get_or l i 0) ≡ true
        → (i + 1 + stop b (drop (i + 1) l) ≡ at + stop b (drop at l)) × (all_within 97 122 (front b (drop (i + 1) l)) ≡ all_within 97 122 (front b (drop at l)))
    unfolding all_within
    letters-more w =
        let x : within 97 122 (get_or l i 0) ≡ true = sym (lowercase-within (get_or l i 0)) ∙ w in
        let lo = (within-bounds 97 122 (get_or l i 0) x).0 in
        let s : get_or l i 0 ≡ b → ⊥ = λ y. omega arith in
        (stop-later b l i k s ∙ h, rw (front-later b l i k s, all_within, x) at q)

-- A field that starts with `-`: it is the empty word if it has no other byte.
word_dash : (x : ℕ) → x ≡ 45 → word_of (x ∷ []) ≡ word []
unfolding word_of is_dash
word_dash x e = rw e

leading_dash : (f : List ℕ) → 2 ≤ length f → get_or f 0 0 ≡ 45 → word_of f ≡ no_word
unfolding all_within is_dash
leading_dash [] h e = absurd (omega arith)
leading_dash (x ∷ f) h e =
    let d : is_dash (x ∷ f) ≡ false = rw (is_dash, ne_eqb (suc (length f)) 1 (λ y. omega arith)) in
    no_letters (x ∷ f) d (rw (all_within, within_low 97 122 x (omega arith)))

module _ (b : ℕ) (pos : 0 < b) (low : b < 45) (l : List ℕ) (at : ℕ) (k : at < length l) (z : get_or l at 0 ≡ 45) where
  pub dash_alone : get_or l (at + 1) 0 ≡ b → some_word (part l at 0) (pieces b (drop (at + 2) l)) ≡ word_then (pieces b (drop at l))
  dash_alone e =
      let n : get_or l at 0 ≡ b → ⊥ = λ y. omega arith in
      let p = stop_one b pos l at k n e in
      let m : at + 1 - at ≡ stop b (drop at l) = omega arith in
      let d : at + 1 + 1 ≡ at + 2 = omega arith in
      rw d at (word_some b l at (at + 1) p [] (byte_inside b l (at + 1) pos e) (rw (m, front_one b pos l at k n e) (word_dash (get_or l at 0) z)))

  pub dash_more : (get_or l (at + 1) 0 ≡ b → ⊥) → none_word ≡ word_then (pieces b (drop at l))
  dash_more e =
      ⊎_elim (λ a. word_end b l at (at + 1) a.1 a.0) (λ a. word_none b (drop at l) (leading_dash (front b (drop at l)) a.0 (a.1 ∙ z)))
      (front-more b pos l at k (λ y. omega arith) e)
