-- Words as texts: a written word is read back, and what reads as a word is the writing of it.
use mathlib.Core.Path.{◌≡◌, refl, sym}
use mathlib.Core.Bool.{Bool, true, false, false≢true}
use mathlib.Core.List.{List, [], ◌∷◌}
use Prim.Native.Nat.{ℕ, suc, ◌≤◌}
use native.Mathlib.Omega.{arith}
use lib.Dec.{eqb}
use lib.ListN.{length}
use borrow.Author.Tests.{ne_eqb, eqb-true, eqb-false}
use Rattle.text.proofs.Bytewise.{within-bounds, all_cons}
use Rattle.text.specs.Bytes.{all_within}
use Rattle.text.specs.Word.{WordField, no_word, word, is_dash, word_of, write_word}

pub write_empty : (w : List ℕ) → length w ≡ 0 → write_word w ≡ 45 ∷ []
unfolding write_word
write_empty [] h = refl
write_empty (a ∷ w) h = absurd (omega arith)

pub write_letters : (w : List ℕ) → (length w ≡ 0 → ⊥) → write_word w ≡ w
unfolding write_word
write_letters [] h = absurd (h refl)
write_letters (a ∷ w) h = refl

-- Reading a written word gives it back.
pub read-written-word : (w : List ℕ) → all_within 97 122 w ≡ true → word_of (write_word w) ≡ word w
unfolding word_of write_word is_dash
read-written-word [] h = refl
read-written-word (a ∷ w) h = rw (word_of, ne_eqb (suc (length w)) 0 (λ q. omega arith), not_dash (eqb (suc (length w)) 1) refl, h)
  where
    lo : 97 ≤ a
    lo = (within-bounds 97 122 a (all_cons 97 122 a w h).0).0

    not_dash : (t : Bool) → eqb (suc (length w)) 1 ≡ t → is_dash (a ∷ w) ≡ false
    not_dash true e = let l : 97 ≤ a = lo in rw (is_dash, e, ne_eqb a 45 (λ q. omega arith))
    not_dash false e = rw (is_dash, e)

-- The only field that is `-`.
dash_only : (f : List ℕ) → is_dash f ≡ true → f ≡ 45 ∷ []
unfolding is_dash
dash_only [] h = absurd (false≢true h)
dash_only (a ∷ []) h = rw (eqb-true a 45 h)
dash_only (a ∷ b ∷ f) h = absurd (false≢true (rw (is_dash, ne_eqb (suc (suc (length f))) 1 (λ q. omega arith)) at h))

-- What reads as a word is the writing of it, and its letters are `a` to `z`.
pub word_is_written : (f w : List ℕ) → word_of f ≡ word w → (f ≡ write_word w) × (all_within 97 122 w ≡ true)
unfolding word_of write_word all_within
word_is_written f w h = go (eqb (length f) 0) (is_dash f) (all_within 97 122 f) refl refl refl h
  where
    some-letter : (eqb (length f) 0 ≡ false) → f ≡ write_word f
    some-letter e = sym (write_letters f (eqb-false (length f) 0 e))

    go : (t u v : Bool) → eqb (length f) 0 ≡ t → is_dash f ≡ u → all_within 97 122 f ≡ v
        → ◌≡◌ {A = WordField} (elim t [ true ↦ no_word | false ↦ elim u [ true ↦ word [] | false ↦ elim v [ true ↦ word f | false ↦ no_word ] ] ]) (word w)
        → (f ≡ write_word w) × (all_within 97 122 w ≡ true)
    go true u v a b c e = absurd (let y : ◌≡◌ {A = ℕ} 0 1 = cc in omega arith)
    go false true v a b c e = let q : [] ≡ w = cc in rw (← q) (dash_only f b, refl)
    go false false true a b c e = let q : f ≡ w = cc in rw (← q) (some-letter a, c)
    go false false false a b c e = absurd (let y : ◌≡◌ {A = ℕ} 0 1 = cc in omega arith)
