-- Entries of a slice moved: one goes to another index, and those between make room.
use Rattle.std.specs.Prelude.{◌≡◌, true, false, List, ℕ, ◌+◌, ◌-◌, eqb, leb, ltb, length, get_or}

-- Entry j of b is entry σ j of a.
pub record Moved (σ : ℕ → ℕ) (a b : List ℕ) : Type 0 where
  pub size : length b ≡ length a
  pub at : (j : ℕ) → get_or b j 0 ≡ get_or a (σ j) 0

-- The entries behind i, up to n, come from one before.
unfoldable pub shifted_right : ℕ → ℕ → ℕ → ℕ
shifted_right i n j = elim (leb j i) [ true ↦ j | false ↦ elim (leb j n) [ true ↦ j - 1 | false ↦ j ] ]

-- Of the entries k to n the last goes to k, and the others one to the right.
unfoldable pub rotated_right : ℕ → ℕ → ℕ → ℕ
unfolding shifted_right
rotated_right k n j = elim (eqb j k) [ true ↦ n | false ↦ shifted_right k n j ]

-- The entries from k on, before i, come from one behind.
unfoldable pub shifted_left : ℕ → ℕ → ℕ → ℕ
shifted_left k i j = elim (ltb j k) [ true ↦ j | false ↦ elim (ltb j i) [ true ↦ j + 1 | false ↦ j ] ]

-- Of the entries k to m the first goes to m, and the others one to the left.
unfoldable pub rotated_left : ℕ → ℕ → ℕ → ℕ
unfolding shifted_left
rotated_left k m j = elim (eqb j m) [ true ↦ k | false ↦ shifted_left k m j ]
