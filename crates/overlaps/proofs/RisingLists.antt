-- Lists in which each element is before all that follow.
use mathlib.Core.List.{List, ◌++◌}
use Prim.Native.Nat.{ℕ, zero, suc, ◌<◌}
use native.Mathlib.Omega.{arith}
use lib.ListN.{length, get_or}
use Rattle.lists.specs.All.{All, done, ◌also◌}
use Rattle.lists.proofs.Every.{all_map, all_append}
use Rattle.overlaps.specs.Pairs.{Rising, none, next}

module _ {A : Type 0} {R : A → A → Type 0} where
  pub rising-append : {xs ys : List A} → Rising R xs → Rising R ys → All (λ x. All (R x) ys) xs → Rising R (xs ++ ys)
  rising-append none r done = r
  rising-append (next a b) r (h also hs) = next (all_append a h) (rising-append b r hs)

  -- every element of one list is before every element of the other, by a property of each
  pub all-before : {P Q : A → Type 0} → ((a b : A) → P a → Q b → R a b) → {xs ys : List A} → All P xs → All Q ys → All (λ x. All (R x) ys) xs
  all-before h p q = all_map (λ x px. all_map (λ y qy. h x y px qy) q) p

  -- an earlier element is before a later one
  pub rising_at : {xs : List A} → Rising R xs → (d : A) (i j : ℕ) → i < j → j < length xs → R (get_or xs i d) (get_or xs j d)
  rising_at none d i j h l = absurd (omega arith)
  rising_at (next a r) d zero zero h l = absurd (omega arith)
  rising_at (next a r) d zero (suc j) h l = go a j (omega arith)
    where
      go : {x : A} {ys : List A} → All (R x) ys → (k : ℕ) → k < length ys → R x (get_or ys k d)
      go done k m = absurd (omega arith)
      go (p also ps) zero m = p
      go (p also ps) (suc k) m = go ps k (omega arith)
  rising_at (next a r) d (suc i) zero h l = absurd (omega arith)
  rising_at (next a r) d (suc i) (suc j) h l = rising_at r d i j (omega arith) (omega arith)

-- a list rises in whatever follows from its order and what holds of its elements
pub rising-map : {A : Type 0} {P : A → Type 0} {R S : A → A → Type 0} → ((a b : A) → P a → P b → R a b → S a b) → {xs : List A} → All P xs → Rising R xs → Rising S xs
rising-map h done none = none
rising-map {A} {P} {R} {S} h (◌also◌ {x = x} p ps) (next a r) = next (go ps a) (rising-map h ps r)
  where
    go : {ys : List A} → All P ys → All (R x) ys → All (S x) ys
    go done done = done
    go (◌also◌ {x = y} q qs) (b also bs) = h x y p q b also go qs bs
