-- Entry k moved to m: where each entry comes from, and what a turn of the loop does.
use mathlib.Core.Path.{◌≡◌, ◌∙◌}
use mathlib.Core.List.{List}
use Prim.Native.Nat.{ℕ, ◌+◌, ◌≤◌, ◌<◌}
use native.Mathlib.Decide.{dec_lt, ℕ_discrete}
use native.Mathlib.Omega.{arith}
use lib.ListN.{length, get_or, set, length-set}
use lib.Seq.{get_or-set_same, get_or-set_other}
use borrow.Author.Tests.{lt-ltb, le-ltb, eq-eqb, ne_eqb}
use Rattle.working.specs.Rotation.{Moved, shifted_left, rotated_left}

pub shift-left-low : (k i j : ℕ) → j < k → shifted_left k i j ≡ j
unfolding shifted_left
shift-left-low k i j h = rw (shifted_left, lt-ltb j k h)

pub shift-left_mid : (k i j : ℕ) → k ≤ j → j < i → shifted_left k i j ≡ j + 1
unfolding shifted_left
shift-left_mid k i j h q = rw (shifted_left, le-ltb j k h, lt-ltb j i q)

pub shift-left-high : (k i j : ℕ) → k ≤ j → i ≤ j → shifted_left k i j ≡ j
unfolding shifted_left
shift-left-high k i j h q = rw (shifted_left, le-ltb j k h, le-ltb j i q)

pub left_at : (k m j : ℕ) → j ≡ m → rotated_left k m j ≡ k
unfolding rotated_left
left_at k m j e = rw (rotated_left, eq-eqb j m e)

pub left_other : (k m j : ℕ) → (j ≡ m → ⊥) → rotated_left k m j ≡ shifted_left k m j
unfolding rotated_left
left_other k m j e = rw (rotated_left, ne_eqb j m e)

pub left-low : (k m j : ℕ) → k ≤ m → j < k → rotated_left k m j ≡ j
left-low k m j q h = left_other k m j (λ e. omega arith) ∙ shift-left-low k m j h

pub left_mid : (k m j : ℕ) → k ≤ j → j < m → rotated_left k m j ≡ j + 1
left_mid k m j h q = left_other k m j (λ e. omega arith) ∙ shift-left_mid k m j h q

pub left-high : (k m j : ℕ) → k ≤ m → m < j → rotated_left k m j ≡ j
left-high k m j h q = left_other k m j (λ e. omega arith) ∙ shift-left-high k m j (omega arith) (omega arith)

-- a turn: entry i comes from one behind
module _ (a b : List ℕ) (k i : ℕ) (h : k ≤ i) (r : i + 1 < length b) (at : (j : ℕ) → get_or b j 0 ≡ get_or a (shifted_left k i j) 0) where
  abbrev x : ℕ
  x = get_or b (i + 1) 0

  pub shift-left-turn : (j : ℕ) → get_or (set b i x) j 0 ≡ get_or a (shifted_left k (i + 1) j) 0
  shift-left-turn j = go (ℕ_discrete j i) (dec_lt j k) (dec_lt j i)
    where
      go : Dec (j ≡ i) → Dec (j < k) → Dec (j < i) → get_or (set b i x) j 0 ≡ get_or a (shifted_left k (i + 1) j) 0
      go (yes e) d f = rw (
        e,
        get_or-set_same b i x 0 (omega arith),
        at (i + 1),
        shift-left-high k i (i + 1) (omega arith) (omega arith),
        shift-left_mid k (i + 1) i h (omega arith),
      )
      go (no e) (yes d) f = rw (get_or-set_other b i j x 0 e, at j, shift-left-low k i j d, shift-left-low k (i + 1) j d)
      go (no e) (no d) (yes f) = rw (get_or-set_other b i j x 0 e, at j, shift-left_mid k i j (omega arith) f, shift-left_mid k (i + 1) j (omega arith) (omega arith))
      go (no e) (no d) (no f) = rw (
        get_or-set_other b i j x 0 e,
        at j,
        shift-left-high k i j (omega arith) (omega arith),
        shift-left-high k (i + 1) j (omega arith) (omega arith),
      )

-- no entry has moved yet
pub shift-left-start : (a : List ℕ) (k j : ℕ) → get_or a j 0 ≡ get_or a (shifted_left k k j) 0
shift-left-start a k j = go (dec_lt j k)
  where
    go : Dec (j < k) → get_or a j 0 ≡ get_or a (shifted_left k k j) 0
    go (yes h) = rw (shift-left-low k k j h)
    go (no h) = rw (shift-left-high k k j (omega arith) (omega arith))

-- all have moved that close up, and the first is stored at m
pub moved_left : (a b : List ℕ) (k m i x : ℕ) → length b ≡ length a → m < length b → i ≡ m → x ≡ get_or a k 0
    → ((j : ℕ) → get_or b j 0 ≡ get_or a (shifted_left k i j) 0) → Moved (rotated_left k m) a (set b m x)
moved_left a b k m i x e h d f at = record { size = length-set b m x ∙ e; at = λ j. go j (ℕ_discrete j m) }
  where
    go : (j : ℕ) → Dec (j ≡ m) → get_or (set b m x) j 0 ≡ get_or a (rotated_left k m j) 0
    go j (yes q) = rw (left_at k m j q, q) (get_or-set_same b m x 0 h ∙ f)
    go j (no q) = rw (left_other k m j q, get_or-set_other b m j x 0 q, ← d) (at j)
