-- The bytes of a pair's line: its parts, and how many bytes it has.
use mathlib.Core.Path.{◌≡◌, refl, sym, ◌∙◌, ap}
use mathlib.Core.List.{List, [], ◌∷◌, ◌++◌, append_assoc}
use Prim.Native.Nat.{ℕ, ◌+◌, ◌-◌, ◌<◌, max}
use native.Mathlib.Omega.{arith}
use lib.ListN.{length, get_or, drop, length-append, length-drop}
use Rattle.words.specs.Word.{Word}
use Rattle.words.specs.Laid.{laid_word, laid_words, Laid}
use Rattle.words.proofs.LaidWords.{laid_at, laid-word-length}
use Rattle.text.specs.Number.{write_number}
use Rattle.text.specs.Word.{write_word}
use Rattle.overlaps.specs.Pairs.{Pair}
use Rattle.overlaps.specs.Overlaps.{overlap_joined}
use Rattle.overlaps.specs.Listing.{spaced, list_word, list_line, line_length}
use Rattle.overlapsearch.specs.declared.PairAt.{PairAt}
use Rattle.overlapsearch.specs.Position.{pair_of}

-- a number, a space, and what follows
pub spaced-length : (n : ℕ) (xs : List ℕ) → length (spaced n xs) ≡ length (write_number n) + 1 + length xs
spaced-length n xs = omega (arith, length-append (write_number n) (32 ∷ xs))

-- an empty word is written with one byte, another with as many as it has letters
pub written-length : (w : Word) → length (write_word w) ≡ max 1 (length w)
unfolding write_word
written-length [] = refl
written-length (a ∷ w) = omega arith

module _ (k : ℕ) (o : Pair) where
  abbrev numbers : List ℕ → List ℕ
  numbers text = spaced k (spaced o.first (spaced o.second (spaced o.shared (spaced o.at text))))

  numbers_append : (xs : List ℕ) → numbers [] ++ xs ≡ numbers xs
  numbers_append xs = simp append_assoc

  numbers_length : (xs : List ℕ) → length (numbers xs)
      ≡ length (write_number k) + length (write_number o.first) + length (write_number o.second) + length (write_number o.shared) + length (write_number o.at) + 5
      + length xs
  numbers_length xs =
      omega (
        arith,
        spaced-length k (spaced o.first (spaced o.second (spaced o.shared (spaced o.at xs)))),
        spaced-length o.first (spaced o.second (spaced o.shared (spaced o.at xs))),
        spaced-length o.second (spaced o.shared (spaced o.at xs)),
        spaced-length o.shared (spaced o.at xs),
        spaced-length o.at xs,
      )

  module _ (w : Word) where
    -- the parts of a line, as they are stored
    pub line_parts : list_line k o w ≡ numbers [] ++ (write_word w ++ (10 ∷ []))
    unfolding list_line
    line_parts = sym (numbers_append (write_word w ++ (10 ∷ [])))

    pub line-length : length (list_line k o w) ≡ line_length k o (length (write_word w))
    unfolding list_line
    line-length = omega (arith, numbers_length (write_word w ++ (10 ∷ [])), length-append (write_word w) (10 ∷ []))

-- the overlap word of two of the words that lie in bytes, and its line
module _ (starts lens bytes : List ℕ) (n : ℕ) (f : PairAt) (a : f.first < n) (b : f.second < n) where
  pub found_word : list_word (laid_words starts lens bytes n) (pair_of f) ≡ overlap_joined (laid_word starts lens bytes f.first) (laid_word starts lens bytes f.second) f.shared
  found_word = rw (laid_at starts lens bytes n f.first a, laid_at starts lens bytes n f.second b)

  pub found-length : Laid starts lens bytes n → (k : ℕ)
      → length (list_line k (pair_of f) (list_word (laid_words starts lens bytes n) (pair_of f)))
      ≡ line_length k (pair_of f) (max 1 (get_or lens f.first 0 + (get_or lens f.second 0 - f.shared)))
  found-length h k =
      line-length k (pair_of f) (list_word (laid_words starts lens bytes n) (pair_of f))
      ∙ ap (line_length k (pair_of f)) (
      written-length (list_word (laid_words starts lens bytes n) (pair_of f))
      ∙ ap (λ (w : Word). max 1 (length w)) found_word
      ∙ ap (max 1) (letters (laid_word starts lens bytes f.first) (laid_word starts lens bytes f.second) (laid-word-length starts lens bytes n h f.first a) (laid-word-length starts lens bytes n h f.second b))
      )
    where
      letters : (u v : Word) {x y : ℕ} → length u ≡ x → length v ≡ y → length (overlap_joined u v f.shared) ≡ x + (y - f.shared)
      letters u v p q = omega (arith, length-append u (drop f.shared v), length-drop f.shared v)
