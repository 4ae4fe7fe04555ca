-- The test `same` says yes exactly of equal lists.
use mathlib.Core.Path.{◌≡◌, refl, ap₂}
use mathlib.Core.Bool.{Bool, true, false, false≢true}
use mathlib.Core.List.{List, [], ◌∷◌}
use Prim.Native.Nat.{ℕ}
use lib.Dec.{eqb}
use borrow.Author.Tests.{eq-eqb, eqb-true}
use Rattle.lists.specs.Same.{same}

pub same-eq : (a b : List ℕ) → same a b ≡ true → a ≡ b
unfolding same
same-eq [] [] h = refl
same-eq [] (y ∷ b) h = absurd (false≢true h)
same-eq (x ∷ a) [] h = absurd (false≢true h)
same-eq (x ∷ a) (y ∷ b) h = go (eqb x y) refl h (same-eq a b)
  where
    go : (t : Bool) → eqb x y ≡ t → ◌≡◌ {A = Bool} (elim t [ true ↦ same a b | false ↦ false ]) true → (same a b ≡ true → a ≡ b) → x ∷ a ≡ y ∷ b
    go true e q ih = ap₂ ◌∷◌ (eqb-true x y e) (ih q)
    go false e q ih = absurd (false≢true q)

pub same_refl : (a : List ℕ) → same a a ≡ true
unfolding same
same_refl [] = refl
same_refl (x ∷ a) = rw (same, eq-eqb x x refl) (same_refl a)
