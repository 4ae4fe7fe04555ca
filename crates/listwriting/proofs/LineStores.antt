-- A pair's line, stored part by part.
use mathlib.Core.Path.{◌≡◌, refl, sym, ◌∙◌, ap, ap₂}
use mathlib.Core.List.{List, [], ◌∷◌, ◌++◌, append_assoc}
use Prim.Native.Nat.{ℕ, ◌+◌, ◌-◌}
use native.Mathlib.Numerals.{add-one}
use native.Mathlib.Omega.{arith}
use lib.ListN.{length, take, drop, set, length-append}
use lib.Seq.{sets}
use Rattle.lists.proofs.Parts.{tail_part}
use Rattle.lists.proofs.Stores.{stored-then}
use Rattle.words.specs.Word.{Word}
use Rattle.text.specs.Number.{write_number}
use Rattle.text.specs.Word.{write_word}
use Rattle.overlaps.specs.Overlaps.{overlap_joined}
use Rattle.overlaps.specs.Listing.{spaced, list_line}
use Rattle.overlapsearch.specs.declared.PairAt.{PairAt}
use Rattle.overlapsearch.specs.Position.{pair_of}
use Rattle.listmeasuring.proofs.Lines.{spaced-length, line_parts}

-- the place behind two texts that stand one behind the other
place-then : (at a b : ℕ) (xs ys : List ℕ) → a ≡ at + length xs → b ≡ a + length ys → b ≡ at + length (xs ++ ys)
place-then at a b xs ys p q = omega (arith, length-append xs ys)

-- a number and a space, stored
pub spaced-stored : (l l₁ : List ℕ) (at a n : ℕ) → a ≡ at + length (write_number n) → l₁ ≡ sets l at (write_number n)
    → (a + 1 ≡ at + length (spaced n [])) × (set l₁ a 32 ≡ sets l at (spaced n []))
spaced-stored l l₁ at a n p e =
    (omega (arith, spaced-length n []), stored-then l l₁ (set l₁ a 32) at a (write_number n) (32 ∷ []) e p refl)

-- five numbers, each with a space behind it
module _ (a b c d e : ℕ) where
  abbrev five : List ℕ
  five = spaced a (spaced b (spaced c (spaced d (spaced e []))))

  pub five_length : length five ≡ length (spaced a []) + length (spaced b []) + length (spaced c []) + length (spaced d []) + length (spaced e [])
  five_length =
      omega (
        arith,
        spaced-length a (spaced b (spaced c (spaced d (spaced e [])))),
        spaced-length b (spaced c (spaced d (spaced e []))),
        spaced-length c (spaced d (spaced e [])),
        spaced-length d (spaced e []),
        spaced-length a [],
        spaced-length b [],
        spaced-length c [],
        spaced-length d [],
      )

  five_append : (spaced a [] ++ spaced b []) ++ ((spaced c [] ++ spaced d []) ++ spaced e []) ≡ five
  five_append = simp append_assoc

  pub five_stored : (l l₁ l₂ l₃ l₄ l₅ : List ℕ) (at p q r s t : ℕ)
      → (p ≡ at + length (spaced a [])) × (l₁ ≡ sets l at (spaced a []))
      → (q ≡ p + length (spaced b [])) × (l₂ ≡ sets l₁ p (spaced b []))
      → (r ≡ q + length (spaced c [])) × (l₃ ≡ sets l₂ q (spaced c []))
      → (s ≡ r + length (spaced d [])) × (l₄ ≡ sets l₃ r (spaced d []))
      → (t ≡ s + length (spaced e [])) × (l₅ ≡ sets l₄ s (spaced e []))
      → (t ≡ at + length five) × (l₅ ≡ sets l at five)
  five_stored l l₁ l₂ l₃ l₄ l₅ at p q r s t (x₁, y₁) (x₂, y₂) (x₃, y₃) (x₄, y₄) (x₅, y₅) =
      let n = place-then at p q (spaced a []) (spaced b []) x₁ x₂ in
      let m = place-then q r s (spaced c []) (spaced d []) x₃ x₄ in
      let f = stored-then l l₁ l₂ at p (spaced a []) (spaced b []) y₁ x₁ y₂ in
      let g = stored-then l₂ l₃ l₄ q r (spaced c []) (spaced d []) y₃ x₃ y₄ in
      let h = stored-then l₂ l₄ l₅ q s (spaced c [] ++ spaced d []) (spaced e []) g m y₅ in (
        omega (arith, five_length),
        rw five_append at (stored-then l l₂ l₅ at q (spaced a [] ++ spaced b []) ((spaced c [] ++ spaced d []) ++ spaced e []) f n h),
      )

-- a word of two parts, as it is written
pub written-empty : (u r : Word) → length u ≡ 0 → write_word r ≡ write_word (u ++ r)
written-empty [] r e = refl
written-empty (a ∷ u) r e = absurd (omega arith)

pub written-some : (u r : Word) → (length u ≡ 0 → ⊥) → u ++ r ≡ write_word (u ++ r)
unfolding write_word
written-some [] r n = absurd (n refl)
written-some (a ∷ u) r n = refl

pub joined_length : (u r : Word) → (length u ≡ 0 → ⊥) → length (write_word (u ++ r)) ≡ length u + length r
joined_length u r n = ap (λ (l : List ℕ). length l) (sym (written-some u r n)) ∙ length-append u r

-- both parts, one behind the other
pub joined-stored : (l l₁ l₂ : List ℕ) (at p q : ℕ) (u r : Word) → (length u ≡ 0 → ⊥) → (p ≡ at + length u) × (l₁ ≡ sets l at u) → (q ≡ p + length r) × (l₂ ≡ sets l₁ p r)
    → (q ≡ at + length (write_word (u ++ r))) × (l₂ ≡ sets l at (write_word (u ++ r)))
joined-stored l l₁ l₂ at p q u r n (x, y) (z, w) =
    (omega (arith, joined_length u r n), stored-then l l₁ l₂ at p u r y x w ∙ ap (sets l at) (written-some u r n))

-- a pair's line, its words u and v, as the code puts it
module _ (k : ℕ) (f : PairAt) (u v : Word) where
  abbrev front : List ℕ
  front = five k (f.first + 1) (f.second + 1) f.shared f.at

  abbrev joined : Word
  joined = overlap_joined u v f.shared

  pair_parts : list_line k (pair_of f) joined ≡ front ++ (write_word joined ++ (10 ∷ []))
  pair_parts =
      line_parts k (pair_of f) joined
      ∙ ap₂ (λ (x y : ℕ). five k x y f.shared f.at ++ (write_word joined ++ (10 ∷ []))) (sym (add-one f.first)) (sym (add-one f.second))

  pub pair-length : length (list_line k (pair_of f) joined) ≡ length front + length (write_word joined) + 1
  pair-length =
      ap (λ (l : List ℕ). length l) pair_parts
      ∙ omega (arith, length-append front (write_word joined ++ (10 ∷ [])), length-append (write_word joined) (10 ∷ []))

  -- the word, its second part as the code lends it
  pub lent_word : write_word (u ++ take (length v - f.shared) (drop f.shared v)) ≡ write_word joined
  lent_word = ap (λ (r : Word). write_word (u ++ r)) (tail_part v f.shared)

  pub pair-stored : (l l₁ l₂ : List ℕ) (at p q : ℕ)
      → (p ≡ at + length front) × (l₁ ≡ sets l at front)
      → (q ≡ p + length (write_word (u ++ take (length v - f.shared) (drop f.shared v)))) × (l₂ ≡ sets l₁ p (write_word (u ++ take (length v - f.shared) (drop f.shared v))))
      → (q + 1 ≡ at + length (list_line k (pair_of f) joined)) × (set l₂ q 10 ≡ sets l at (list_line k (pair_of f) joined))
  pair-stored l l₁ l₂ at p q (x, y) (z, w) =
      let m : q ≡ p + length (write_word joined) = rw lent_word at z in
      let n : l₂ ≡ sets l₁ p (write_word joined) = rw lent_word at w in
      let e = stored-then l₁ l₂ (set l₂ q 10) p q (write_word joined) (10 ∷ []) n m refl in (
        omega (arith, pair-length),
        rw (← pair_parts) at (stored-then l l₁ (set l₂ q 10) at p front (write_word joined ++ (10 ∷ [])) y x e),
      )
