-- Where a word stands in another, and how many letters are compared to say so.
use Rattle.std.specs.Prelude.{Option, None, Some, ◌≡◌, Bool, true, false, [], ◌∷◌, ◌++◌, ℕ, zero, suc, ◌+◌, ◌<◌, eqb, leb, length, get_or}
use Rattle.words.specs.Word.{Word, around}

-- b stands in w at place i: w is left × b × right, either side possibly empty, and left has i letters.
pub record Stands (b w : Word) (i : ℕ) : Type 0 where
  pub left : Word
  pub right : Word
  pub place : length left ≡ i
  pub fits : around left right b ≡ w

-- w begins with b.
unfoldable pub begins : Word → Word → Bool
begins [] w = true
begins (b ∷ bs) [] = false
begins (b ∷ bs) (a ∷ w) = elim (eqb b a) [ true ↦ begins bs w | false ↦ false ]

-- b stands in w at place i, as a computation: what is left of w behind i letters begins with b.
unfoldable pub stands_at : Word → Word → ℕ → Bool
unfolding begins
stands_at b w zero = begins b w
stands_at b [] (suc i) = false
stands_at b (a ∷ w) (suc i) = stands_at b w i

-- How many letters are compared when b, at place i of w, is compared from the end and n letters of b are left: the last of them, and those
-- before it if it is the same in both words.
unfoldable pub compared_back : Word → Word → ℕ → ℕ → ℕ
compared_back b w i zero = 0
compared_back b w i (suc n) = elim (eqb (get_or b n 0) (get_or w (i + n) 0)) [ true ↦ suc (compared_back b w i n) | false ↦ 1 ]

-- How many letters are compared to say whether b stands in w at place i: 0 where b would run past the end of w.
unfoldable pub compared_at : Word → Word → ℕ → ℕ
unfolding compared_back
compared_at b w i = elim (leb (i + length b) (length w)) [ true ↦ compared_back b w i (length b) | false ↦ 0 ]

-- Document 02's sentence on the count (P3): back from the end to the first letter that differs, that one counted, all when none does, 0
-- where the word would run past the end.
pub data Compared (b w : Word) (i count : ℕ) : Type 0 where
  past : length w < i + length b → count ≡ 0 → Compared b w i count
  all : Stands b w i → count ≡ length b → Compared b w i count
  -- b is front × x × back; w has `back` at its place, and before it y in place of x
  differing : (front back : Word) (x y : ℕ) → b ≡ front ++ x ∷ back → Stands (y ∷ back) w (i + length front) → (x ≡ y → ⊥)
      → count ≡ suc (length back) → Compared b w i count

-- Only b's first letter differs: w has y × back at place i, where b is x × back.
pub record OnlyFirstDiffers (b w : Word) (i : ℕ) : Type 0 where
  pub back : Word
  pub x : ℕ
  pub y : ℕ
  pub word : b ≡ x ∷ back
  pub stands : Stands (y ∷ back) w i
  pub differs : x ≡ y → ⊥

-- The leftmost place of b in w, where w's first letter has place i.
unfoldable pub leftmost_from : Word → Word → ℕ → Option ℕ
unfolding begins
leftmost_from b [] i = elim (begins b []) [ true ↦ Some i | false ↦ None ]
leftmost_from b (a ∷ w) i = elim (begins b (a ∷ w)) [ true ↦ Some i | false ↦ leftmost_from b w (suc i) ]

-- The leftmost place of b in w.
unfoldable pub leftmost : Word → Word → Option ℕ
unfolding leftmost_from
leftmost b w = leftmost_from b w 0
