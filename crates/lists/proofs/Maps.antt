-- A list of numbers with a function at each element: its elements, its first and its last.
use mathlib.Core.Path.{◌≡◌, refl, ap}
use mathlib.Core.List.{List, [], ◌∷◌, map}
use Prim.Native.Nat.{ℕ, zero, suc, ◌<◌}
use native.Mathlib.Omega.{arith}
use lib.ListN.{length, get_or, take, drop}

module _ (f : ℕ → ℕ) where
  pub map_at : (l : List ℕ) (k : ℕ) → k < length l → get_or (map f l) k 0 ≡ f (get_or l k 0)
  map_at [] k h = absurd (omega arith)
  map_at (x ∷ l) zero h = refl
  map_at (x ∷ l) (suc k) h = map_at l k (omega arith)

  pub map-take : (n : ℕ) (l : List ℕ) → map f (take n l) ≡ take n (map f l)
  map-take zero l = refl
  map-take (suc n) [] = refl
  map-take (suc n) (x ∷ l) = ap (λ (r : List ℕ). f x ∷ r) (map-take n l)

  pub map-drop : (n : ℕ) (l : List ℕ) → map f (drop n l) ≡ drop n (map f l)
  map-drop zero l = refl
  map-drop (suc n) [] = refl
  map-drop (suc n) (x ∷ l) = map-drop n l
