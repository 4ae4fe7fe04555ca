-- The words that lie in bytes, as a list: its length, and its entries.
use mathlib.Core.Path.{◌≡◌, refl, sym, ◌∙◌, ap}
use mathlib.Core.List.{List, []}
use Prim.Native.Nat.{ℕ, zero, suc, ◌+◌, ◌<◌}
use native.Mathlib.Nat.{add-zero}
use native.Mathlib.Omega.{arith}
use lib.ListN.{length, get_or, length-take, length-drop}
use Rattle.words.specs.Laid.{laid_word, laid_from, laid_words, WordInside, Laid}

module _ (starts lens bytes : List ℕ) where
  from_length : (g n : ℕ) → length (laid_from starts lens bytes g n) ≡ n
  unfolding laid_from
  from_length g zero = refl
  from_length g (suc n) = ap suc (from_length (suc g) n)

  from_at : (g n k : ℕ) → k < n → get_or (laid_from starts lens bytes g n) k [] ≡ laid_word starts lens bytes (g + k)
  unfolding laid_from
  from_at g zero k h = absurd (omega arith)
  from_at g (suc n) zero h = ap (laid_word starts lens bytes) (sym (add-zero g))
  from_at g (suc n) (suc k) h =
      let e : suc g + k ≡ g + suc k = omega arith in
      from_at (suc g) n k (omega arith) ∙ ap (laid_word starts lens bytes) e

  pub laid-length : (n : ℕ) → length (laid_words starts lens bytes n) ≡ n
  unfolding laid_words
  laid-length n = from_length 0 n

  pub laid_at : (n k : ℕ) → k < n → get_or (laid_words starts lens bytes n) k [] ≡ laid_word starts lens bytes k
  unfolding laid_words
  laid_at n k h = let e : 0 + k ≡ k = omega arith in from_at 0 n k h ∙ ap (laid_word starts lens bytes) e

  pub word-inside : (n : ℕ) → Laid starts lens bytes n → (k : ℕ) → k < n → WordInside starts lens bytes k
  word-inside n h k l =
      let s = h.starting in
      let e = h.ending in
      record { starting = omega arith; ending = omega arith; inside = h.inside k l }

  pub inside-length : (k : ℕ) → WordInside starts lens bytes k → length (laid_word starts lens bytes k) ≡ get_or lens k 0
  inside-length k h = simp (length-take, length-drop) (omega (arith, h.inside))

  pub laid-word-length : (n : ℕ) → Laid starts lens bytes n → (k : ℕ) → k < n → length (laid_word starts lens bytes k) ≡ get_or lens k 0
  laid-word-length n h k l = inside-length k (word-inside n h k l)
