-- Laws of `All`: every element of a list has a property.
use mathlib.Core.Path.{sym, subst}
use mathlib.Core.List.{List, [], ◌∷◌, ◌++◌, Memᴰ}
use Prim.Native.Nat.{ℕ, zero, suc, ◌<◌}
use native.Mathlib.Omega.{arith}
use lib.ListN.{length, get_or}
use Rattle.lists.specs.All.{All, done, ◌also◌}

module _ {A : Type 0} {P : A → Type 0} where
  pub all_map : {Q : A → Type 0} → ((x : A) → P x → Q x) → {xs : List A} → All P xs → All Q xs
  all_map h done = done
  all_map h (◌also◌ {x = x} p ps) = h x p also all_map h ps

  pub all_append : {xs ys : List A} → All P xs → All P ys → All P (xs ++ ys)
  all_append done t = t
  all_append (p also ps) t = p also all_append ps t

  pub all_split : (xs ys : List A) → All P (xs ++ ys) → All P xs × All P ys
  all_split [] ys h = (done, h)
  all_split (x ∷ xs) ys (p also ps) = let (a, b) = all_split xs ys ps in (p also a, b)

  pub all_both : {Q : A → Type 0} {xs : List A} → All P xs → All Q xs → All (λ x. P x × Q x) xs
  all_both done done = done
  all_both (p also ps) (q also qs) = (p, q) also all_both ps qs

  -- by index, as code on slices has it
  pub all_at : {xs : List A} → All P xs → (d : A) (i : ℕ) → i < length xs → P (get_or xs i d)
  all_at done d i h = absurd (omega arith)
  all_at (p also ps) d zero h = p
  all_at (p also ps) d (suc i) h = all_at ps d i (omega arith)

  pub all_by_index : (xs : List A) (d : A) → ((i : ℕ) → i < length xs → P (get_or xs i d)) → All P xs
  all_by_index [] d h = done
  all_by_index (x ∷ xs) d h = h 0 (omega arith) also all_by_index xs d (λ i p. h (suc i) (omega arith))

  -- what holds of everything
  pub all_of : ((x : A) → P x) → (xs : List A) → All P xs
  all_of h [] = done
  all_of h (x ∷ xs) = h x also all_of h xs

  -- what holds of every element holds of a member
  pub all-member : {xs : List A} {x : A} → All P xs → Memᴰ x xs → P x
  all-member done x6 = elim x6 [ ]
  all-member (p also ps) (Memᴰ.head e) = subst P (sym e) p
  all-member (p also ps) (Memᴰ.tail m) = all-member ps m
