-- Entry n moved to k: where each entry comes from, and what a turn of the loop does.
use mathlib.Core.Path.{◌≡◌, ◌∙◌}
use mathlib.Core.List.{List}
use Prim.Native.Nat.{ℕ, ◌-◌, ◌≤◌, ◌<◌}
use native.Mathlib.Decide.{dec_le, ℕ_discrete}
use native.Mathlib.Omega.{arith}
use lib.ListN.{length, get_or, set, length-set}
use lib.Seq.{get_or-set_same, get_or-set_other}
use borrow.Author.Tests.{le-leb, lt-leb, eq-eqb, ne_eqb}
use Rattle.working.specs.Rotation.{Moved, shifted_right, rotated_right}

pub shift-right-low : (i n j : ℕ) → j ≤ i → shifted_right i n j ≡ j
unfolding shifted_right
shift-right-low i n j h = rw (shifted_right, le-leb j i h)

pub shift-right_mid : (i n j : ℕ) → i < j → j ≤ n → shifted_right i n j ≡ j - 1
unfolding shifted_right
shift-right_mid i n j h k = rw (shifted_right, lt-leb j i h, le-leb j n k)

pub shift-right-high : (i n j : ℕ) → i < j → n < j → shifted_right i n j ≡ j
unfolding shifted_right
shift-right-high i n j h k = rw (shifted_right, lt-leb j i h, lt-leb j n k)

pub right_at : (k n j : ℕ) → j ≡ k → rotated_right k n j ≡ n
unfolding rotated_right
right_at k n j e = rw (rotated_right, eq-eqb j k e)

pub right_other : (k n j : ℕ) → (j ≡ k → ⊥) → rotated_right k n j ≡ shifted_right k n j
unfolding rotated_right
right_other k n j e = rw (rotated_right, ne_eqb j k e)

pub right-low : (k n j : ℕ) → j < k → rotated_right k n j ≡ j
right-low k n j h = right_other k n j (λ e. omega arith) ∙ shift-right-low k n j (omega arith)

pub right_mid : (k n j : ℕ) → k < j → j ≤ n → rotated_right k n j ≡ j - 1
right_mid k n j h q = right_other k n j (λ e. omega arith) ∙ shift-right_mid k n j h q

pub right-high : (k n j : ℕ) → k ≤ n → n < j → rotated_right k n j ≡ j
right-high k n j h q = right_other k n j (λ e. omega arith) ∙ shift-right-high k n j (omega arith) q

-- a turn: entry i comes from one before
module _ (a b : List ℕ) (i n : ℕ) (h : 0 < i) (q : i ≤ n) (r : n < length b) (at : (j : ℕ) → get_or b j 0 ≡ get_or a (shifted_right i n j) 0) where
  abbrev x : ℕ
  x = get_or b (i - 1) 0

  pub shift-right-turn : (j : ℕ) → get_or (set b i x) j 0 ≡ get_or a (shifted_right (i - 1) n j) 0
  shift-right-turn j = go (ℕ_discrete j i) (dec_le j (i - 1)) (dec_le j n)
    where
      go : Dec (j ≡ i) → Dec (j ≤ i - 1) → Dec (j ≤ n) → get_or (set b i x) j 0 ≡ get_or a (shifted_right (i - 1) n j) 0
      go (yes e) d f = rw (
        e,
        get_or-set_same b i x 0 (omega arith),
        at (i - 1),
        shift-right-low i n (i - 1) (omega arith),
        shift-right_mid (i - 1) n i (omega arith) q,
      )
      go (no e) (yes d) f = rw (get_or-set_other b i j x 0 e, at j, shift-right-low i n j (omega arith), shift-right-low (i - 1) n j d)
      go (no e) (no d) (yes f) = rw (get_or-set_other b i j x 0 e, at j, shift-right_mid i n j (omega arith) f, shift-right_mid (i - 1) n j (omega arith) f)
      go (no e) (no d) (no f) = rw (
        get_or-set_other b i j x 0 e,
        at j,
        shift-right-high i n j (omega arith) (omega arith),
        shift-right-high (i - 1) n j (omega arith) (omega arith),
      )

-- no entry has moved yet
pub shift-right-start : (a : List ℕ) (n j : ℕ) → get_or a j 0 ≡ get_or a (shifted_right n n j) 0
shift-right-start a n j = go (dec_le j n)
  where
    go : Dec (j ≤ n) → get_or a j 0 ≡ get_or a (shifted_right n n j) 0
    go (yes h) = rw (shift-right-low n n j h)
    go (no h) = rw (shift-right-high n n j (omega arith) (omega arith))

-- all have moved that make room, and the last is stored at k
pub moved_right : (a b : List ℕ) (k n i x : ℕ) → length b ≡ length a → k < length b → i ≡ k → x ≡ get_or a n 0
    → ((j : ℕ) → get_or b j 0 ≡ get_or a (shifted_right i n j) 0) → Moved (rotated_right k n) a (set b k x)
moved_right a b k n i x e h d f at = record { size = length-set b k x ∙ e; at = λ j. go j (ℕ_discrete j k) }
  where
    go : (j : ℕ) → Dec (j ≡ k) → get_or (set b k x) j 0 ≡ get_or a (rotated_right k n j) 0
    go j (yes q) = rw (right_at k n j q, q) (get_or-set_same b k x 0 h ∙ f)
    go j (no q) = rw (right_other k n j q, get_or-set_other b k j x 0 q, ← d) (at j)
