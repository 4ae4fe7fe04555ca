-- Entries of a list: of a part of it, of zeros, and what holds of one more entry.
use mathlib.Core.Path.{◌≡◌, refl, ◌∙◌, subst}
use mathlib.Core.List.{List}
use Prim.Native.Nat.{ℕ, zero, suc, ◌+◌, ◌<◌}
use native.Mathlib.Decide.{dec_lt}
use native.Mathlib.Omega.{arith}
use lib.ListN.{get_or, take, drop, replicate}
use lib.Seq.{get_or-take, get_or-drop}

pub part_at : (l : List ℕ) (a n j : ℕ) → j < n → get_or (take n (drop a l)) j 0 ≡ get_or l (a + j) 0
part_at l a n j h = get_or-take n (drop a l) j 0 h ∙ get_or-drop a l j 0

-- Every entry of zeros is 0, also behind the last.
pub zeros_at : (m j : ℕ) → ◌≡◌ {A = ℕ} (get_or (replicate {A = ℕ} m 0) j 0) 0
zeros_at zero j = refl
zeros_at (suc m) zero = refl
zeros_at (suc m) (suc j) = zeros_at m j

-- What holds below j and at j holds below j + 1.
pub below_next : (P : ℕ → Type 0) (j : ℕ) → ((t : ℕ) → t < j → P t) → P j → (t : ℕ) → t < j + 1 → P t
below_next P j h p t l = go (dec_lt t j)
  where
    go : Dec (t < j) → P t
    go (yes q) = h t q
    go (no q) = let e : j ≡ t = omega arith in subst P e p
