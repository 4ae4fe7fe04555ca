-- Parts of a list: `take n (drop a l)` is the part of n entries from the place a on. Code lends it as the part from a to a + n.
use mathlib.Core.Path.{◌≡◌, refl, ap}
use mathlib.Core.List.{List, [], ◌∷◌}
use Prim.Native.Nat.{ℕ, zero, suc, ◌+◌, ◌-◌, ◌≤◌}
use native.Mathlib.Nat.{add-sub_cancel_left}
use native.Mathlib.Omega.{arith}
use lib.ListN.{length, take, drop, length-drop}
use lib.Seq.{take-take, take_all, length-take-le}

-- The part from a to a + n has n entries where it lies in the list.
pub part_length : (a n : ℕ) (l : List ℕ) → a + n ≤ length l → length (take n (drop a l)) ≡ n
part_length a n l h = length-take-le n (drop a l) (rw length-drop (omega arith))

-- The part from a to a + n, as code lends it.
pub part_end : (l : List ℕ) (a n : ℕ) → take (a + n - a) (drop a l) ≡ take n (drop a l)
part_end l a n = ap (λ m. take m (drop a l)) (add-sub_cancel_left a n)

-- The first n entries, as code lends them.
pub part-front : (l : List ℕ) (n : ℕ) → take (n - 0) (drop 0 l) ≡ take n l
part-front l n = let e : n - 0 ≡ n = omega arith in rw e

-- All that is left from a on.
pub tail_part : (l : List ℕ) (a : ℕ) → take (length l - a) (drop a l) ≡ drop a l
tail_part l a = take_all (length l - a) (drop a l) (rw (length-drop a l) (omega arith))

-- A part of the first m entries is that part of the list.
pub part-part : (l : List ℕ) (a n m : ℕ) → a + n ≤ m → take n (drop a (take m l)) ≡ take n (drop a l)
part-part l zero n m h = take-take n m l (omega arith)
part-part [] (suc a) n zero h = refl
part-part [] (suc a) n (suc m) h = refl
part-part (x ∷ l) (suc a) n zero h = absurd (omega arith)
part-part (x ∷ l) (suc a) n (suc m) h = part-part l a n m (omega arith)
