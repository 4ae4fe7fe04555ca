-- What follows of any admissible order.
use mathlib.Core.Path.{◌≡◌, refl, ◌∙◌}
use mathlib.Core.Logic.{◌≢◌, ◌⊎◌, inl, inr}
use mathlib.Core.List.{◌++◌}
use Prim.Native.Nat.{ℕ}
use native.Mathlib.Omega.{arith}
use Rattle.std.specs.declared.cmp.Ordering.{Ordering}
use Rattle.std.specs.declared.cmp.Ordering.TheVariants.{Less, Equal, Greater}
use Rattle.words.specs.Word.{Word, around}
use Rattle.words.specs.Order.{Order, Lt, opposite, Admissible}

-- u is below v or equal to it
abbrev pub Le : Order → Word → Word → Type 0
Le O u v = Lt O u v ⊎ (u ≡ v)

module _ {O : Order} (A : Admissible O) where
  pub order_refl : (u : Word) → O u u ≡ Equal
  unfolding opposite
  order_refl u = go (O u u) (A.flip u u)
    where
      go : (c : Ordering) → c ≡ opposite c → c ≡ Equal
      go Less e = cc
      go Equal e = refl
      go Greater e = cc

  pub lt_irrefl : (u : Word) → Lt O u u → ⊥
  lt_irrefl u p = let z : ◌≡◌ {A = ℕ} 0 1 = cc (order_refl u) in omega arith

  pub lt-ne : (u v : Word) → Lt O u v → u ≢ v
  lt-ne u v p e = lt_irrefl v (rw e at p)

  pub lt_of_above : (u v : Word) → O u v ≡ Greater → Lt O v u
  unfolding opposite
  lt_of_above u v e = A.flip u v ∙ rw e

  -- below, equal or above, with what each means
  pub trichotomy : (u v : Word) → Lt O u v ⊎ ((u ≡ v) ⊎ Lt O v u)
  trichotomy u v = go (O u v) refl
    where
      go : (c : Ordering) → O u v ≡ c → Lt O u v ⊎ ((u ≡ v) ⊎ Lt O v u)
      go Less e = inl e
      go Equal e = inr (inl (A.equal u v e))
      go Greater e = inr (inr (lt_of_above u v e))

  pub lt-around : (l r u v : Word) → Lt O u v → Lt O (around l r u) (around l r v)
  lt-around l r u v p = A.left l (u ++ r) (v ++ r) (A.right r u v p)

  pub le_lt_trans : (u v w : Word) → Le O u v → Lt O v w → Lt O u w
  le_lt_trans u v w (inl p) q = A.trans u v w p q
  le_lt_trans u v w (inr p) q = rw p q
