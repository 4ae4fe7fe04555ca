-- Tests of bytes.
use Rattle.std.specs.Prelude.{Bool, true, false, List, [], ◌∷◌, ℕ, ltb}

-- x is one of lo, .., hi.
unfoldable pub within : ℕ → ℕ → ℕ → Bool
within lo hi x = elim (ltb x lo) [ true ↦ false | false ↦ elim (ltb hi x) [ true ↦ false | false ↦ true ] ]

-- Every byte is one of lo, .., hi.
unfoldable pub all_within : ℕ → ℕ → List ℕ → Bool
unfolding within
all_within lo hi [] = true
all_within lo hi (x ∷ xs) = elim (within lo hi x) [ true ↦ all_within lo hi xs | false ↦ false ]
