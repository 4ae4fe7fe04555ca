-- Fields as texts: each reader of a field gives back what was written, and what it reads is the writing of it.
use mathlib.Core.Path.{◌≡◌, refl, sym, ap, ap₂, ◌∙◌}
use mathlib.Core.Bool.{Bool, true, false}
use mathlib.Core.List.{List, [], ◌∷◌}
use Prim.Native.Nat.{ℕ, zero, suc, ◌+◌, ◌-◌, ◌/◌, ◌%◌, ◌≤◌, ◌<◌}
use native.Mathlib.Omega.{arith}
use native.Mathlib.Decide.{dec_lt}
use lib.Dec.{eqb}
use lib.ListN.{length, get_or}
use borrow.Author.Tests.{eqb-true}
use Rattle.text.proofs.Bytewise.{within_in, within-bounds, all_cons, rank-many}
use Rattle.text.proofs.Decimal.{write_digit, write_more}
use Rattle.text.proofs.NumberTexts.{read-written-number, number_is_written}
use Rattle.text.proofs.PieceTexts.{without-append}
use Rattle.text.proofs.WordTexts.{read-written-word, word_is_written}
use Rattle.text.specs.Bytes.{within, all_within}
use Rattle.text.specs.Field.{none, some, got_of, num_then, num_last, some_word, got_word_of, word_then, word_last, rank_from, rank, write_kind}
use Rattle.text.specs.Number.{number, write_number}
use Rattle.text.specs.Pieces.{Pieces, final, piece, Without, empty, apart}
use Rattle.text.specs.Word.{WordField, no_word, word, word_of, write_word}
use Rattle.std.specs.Prelude.{Option, Some, None}

-- A number with another field behind it, and as the last field.
pub starts-number : (v : ℕ) (qs : Pieces) → v < 100000 → num_then number (piece (write_number v) qs) ≡ some v qs
unfolding num_then got_of
starts-number v qs h = rw (read-written-number v h)

pub number-starts : (ps : Pieces) (v : ℕ) (qs : Pieces) → num_then number ps ≡ some v qs → (ps ≡ piece (write_number v) qs) × (v < 100000)
unfolding num_then got_of
number-starts (final f) v qs e = absurd (let y : ◌≡◌ {A = ℕ} 0 1 = cc in omega arith)
number-starts (piece f ps) v qs e = go (number f) refl e
  where
    go : (n : Option ℕ) → number f ≡ n → got_of n ps ≡ some v qs → (piece f ps ≡ piece (write_number v) qs) × (v < 100000)
    go None q h = absurd (let y : ◌≡◌ {A = ℕ} 0 1 = cc in omega arith)
    go (Some u) q h =
        let a : u ≡ v = cc in
        let b : ps ≡ qs = cc in
        let w = number_is_written f v (q ∙ ap Some a) in
        (ap₂ piece w.0 b, w.1)

pub ends_number : (v : ℕ) → v < 100000 → num_last (final (write_number v)) ≡ Some v
unfolding num_last
ends_number v h = read-written-number v h

pub number_ends : (ps : Pieces) (v : ℕ) → num_last ps ≡ Some v → (ps ≡ final (write_number v)) × (v < 100000)
unfolding num_last
number_ends (final f) v e = let w = number_is_written f v e in (ap final w.0, w.1)
number_ends (piece f ps) v e = absurd (let y : ◌≡◌ {A = ℕ} 0 1 = cc in omega arith)

-- A word with another field behind it, and as the last field.
pub starts-word : (w : List ℕ) (qs : Pieces) → all_within 97 122 w ≡ true → word_then (piece (write_word w) qs) ≡ some_word w qs
unfolding word_then got_word_of
starts-word w qs h = rw (read-written-word w h)

pub word-starts : (ps : Pieces) (w : List ℕ) (qs : Pieces) → word_then ps ≡ some_word w qs → (ps ≡ piece (write_word w) qs) × (all_within 97 122 w ≡ true)
unfolding word_then got_word_of
word-starts (final f) w qs e = absurd (let y : ◌≡◌ {A = ℕ} 0 1 = cc in omega arith)
word-starts (piece f ps) w qs e = go (word_of f) refl e
  where
    go : (n : WordField) → word_of f ≡ n → got_word_of n ps ≡ some_word w qs → (piece f ps ≡ piece (write_word w) qs) × (all_within 97 122 w ≡ true)
    go no_word q h = absurd (let y : ◌≡◌ {A = ℕ} 0 1 = cc in omega arith)
    go (word u) q h =
        let a : u ≡ w = cc in
        let b : ps ≡ qs = cc in
        let x = word_is_written f w (q ∙ ap word a) in
        (ap₂ piece x.0 b, x.1)

pub ends_word : (w : List ℕ) → all_within 97 122 w ≡ true → word_last (final (write_word w)) ≡ word w
unfolding word_last
ends_word w h = read-written-word w h

pub word_ends : (ps : Pieces) (w : List ℕ) → word_last ps ≡ word w → (ps ≡ final (write_word w)) × (all_within 97 122 w ≡ true)
unfolding word_last
word_ends (final f) w e = let x = word_is_written f w e in (ap final x.0, x.1)
word_ends (piece f ps) w e = absurd (let y : ◌≡◌ {A = ℕ} 0 1 = cc in omega arith)

-- A kind with another field behind it.
rank-place : (n : ℕ) (ks : List ℕ) (b k : ℕ) → rank_from n ks b ≡ Some k → (n ≤ k) × (k < n + length ks) × (b ≡ get_or ks (k - n) 0)
unfolding rank_from
rank-place n [] b k e = absurd (let y : ◌≡◌ {A = ℕ} 0 1 = cc in omega arith)
rank-place n (x ∷ ks) b k e = go (eqb x b) refl e (rank-place (suc n) ks b k)
  where
    go : (t : Bool) → eqb x b ≡ t → ◌≡◌ {A = Option ℕ} (elim t [ true ↦ Some n | false ↦ rank_from (suc n) ks b ]) (Some k)
        → (rank_from (suc n) ks b ≡ Some k → (suc n ≤ k) × (k < suc n + length ks) × (b ≡ get_or ks (k - suc n) 0))
        → (n ≤ k) × (k < n + suc (length ks)) × (b ≡ get_or (x ∷ ks) (k - n) 0)
    go true q h ih =
        let a : n ≡ k = cc in
        let z : k - n ≡ 0 = omega arith in
        (omega arith, omega arith, sym (eqb-true x b q) ∙ rw z)
    go false q h ih =
        let r = ih h in
        let z : k - n ≡ suc (k - suc n) = omega arith in
        (omega arith, omega arith, r.2 ∙ rw z)

pub kind-starts : (ks : List ℕ) (ps : Pieces) (k : ℕ) (qs : Pieces) → num_then (rank ks) ps ≡ some k qs → (ps ≡ piece (write_kind ks k) qs) ×
    (within 1 (length ks) k ≡ true)
unfolding num_then got_of rank write_kind
kind-starts ks (final f) k qs e = absurd (let y : ◌≡◌ {A = ℕ} 0 1 = cc in omega arith)
kind-starts ks (piece [] ps) k qs e = absurd (let y : ◌≡◌ {A = ℕ} 0 1 = cc in omega arith)
kind-starts ks (piece (b ∷ []) ps) k qs e = go (rank_from 1 ks b) refl e
  where
    go : (n : Option ℕ) → rank_from 1 ks b ≡ n → got_of n ps ≡ some k qs → (piece (b ∷ []) ps ≡ piece (write_kind ks k) qs) × (within 1 (length ks) k ≡ true)
    go None q h = absurd (let y : ◌≡◌ {A = ℕ} 0 1 = cc in omega arith)
    go (Some u) q h =
        let a : u ≡ k = cc in
        let c : ps ≡ qs = cc in
        let r = rank-place 1 ks b k (q ∙ ap Some a) in
        (ap₂ piece (ap (λ (x : ℕ). x ∷ []) r.2) c, within_in 1 (length ks) k r.0 (omega arith))
kind-starts ks (piece (a ∷ b ∷ f) ps) k qs e =
    let z : got_of (rank ks (a ∷ b ∷ f)) ps ≡ none = ap (λ (n : Option ℕ). got_of n ps) (rank-many ks (a ∷ b ∷ f) (λ q. omega arith)) in
    absurd (let y : ◌≡◌ {A = ℕ} 0 1 = cc in omega arith)

pub starts-kind : (ks : List ℕ) (k : ℕ) (qs : Pieces) → rank ks (write_kind ks k) ≡ Some k → num_then (rank ks) (piece (write_kind ks k) qs) ≡ some k qs
unfolding num_then got_of
starts-kind ks k qs e = rw e

-- No space and no byte 10 is in a written field: its bytes are 45 and above.
unlike : {x b : ℕ} → b < x → x ≡ b → ⊥
unlike h e = omega arith

number-apart : (b k n : ℕ) → b < 48 → n ≤ k → Without b (write_number n)
number-apart b zero n h l = rw (write_digit n (omega arith)) (apart {x = 48 + n} (unlike (omega arith)) empty)
number-apart b (suc k) n h l = go (dec_lt n 10) (λ (g : 10 ≤ n). number-apart b k (n / 10) h (omega arith))
  where
    go : Dec (n < 10) → (10 ≤ n → Without b (write_number (n / 10))) → Without b (write_number n)
    go (yes g) ih = rw (write_digit n g) (apart {x = 48 + n} (unlike (omega arith)) empty)
    go (no g) ih = let m : 10 ≤ n = omega arith in rw (write_more n m) (without-append (ih m) (apart {x = 48 + n % 10} (unlike (omega arith)) empty))

pub number-clear : (b n : ℕ) → b < 48 → Without b (write_number n)
number-clear b n h = number-apart b n n h (omega arith)

letters-apart : (b : ℕ) (w : List ℕ) → b < 45 → all_within 97 122 w ≡ true → Without b w
letters-apart b [] h e = empty
letters-apart b (x ∷ w) h e =
    let a = all_cons 97 122 x w e in
    let l = within-bounds 97 122 x a.0 in
    apart {x = x} (unlike (omega (arith, l.0))) (letters-apart b w h a.1)

pub word-clear : (b : ℕ) (w : List ℕ) → b < 45 → all_within 97 122 w ≡ true → Without b (write_word w)
unfolding write_word
word-clear b [] h e = apart (unlike h) empty
word-clear b (x ∷ w) h e = letters-apart b (x ∷ w) h e
