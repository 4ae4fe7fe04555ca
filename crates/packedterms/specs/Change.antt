-- What a term does to the numbers in the arrays. What that is of the polynomial they hold is said in crate working: `onto`, `before`.
use Rattle.std.specs.Prelude.{◌≡◌, ◌≢◌, List, ℕ, ◌-◌, ◌*◌, get_or, set, take}
use Rattle.std.proofs.lemmas.List.Edits.{sets}
use Rattle.working.specs.Rotation.{Moved, rotated_right, rotated_left}

-- At place s there are now the coefficient x, the size e and the blocks bs.
pub record Stored (c l w : List ℕ) (s x e : ℕ) (bs c' l' w' : List ℕ) : Type 0 where
  pub coefs : c' ≡ set c s x
  pub sizes : l' ≡ set l s e
  pub blocks : w' ≡ sets w (s * 6) bs

-- At the place that entry n of o names there are now the coefficient x, the size e and the first six blocks of v; the entry went to k, and those
-- from k on one to the right.
pub record PutBefore (c l w o : List ℕ) (n k x : ℕ) (v : List ℕ) (e : ℕ) (c' l' w' o' : List ℕ) : Type 0 where
  pub stored : Stored c l w (get_or o n 0) x e (take 6 v) c' l' w'
  pub entries : Moved (rotated_right k n) o o'

-- The coefficient of term k of n became y, and r terms are left: where y is 0 the term's entry went behind the others, else y was stored.
pub record AddedOnto (y : ℕ) (c o : List ℕ) (n k : ℕ) (c' o' : List ℕ) (r : ℕ) : Type 0 where
  pub dropped : y ≡ 0 → (r ≡ n - 1) × (c' ≡ c) × Moved (rotated_left k (n - 1)) o o'
  pub summed : y ≢ 0 → (r ≡ n) × (c' ≡ set c (get_or o k 0) y) × (o' ≡ o)
