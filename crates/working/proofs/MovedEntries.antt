-- Entries moved twice: there is a list of the entries moved once, and entry k moved to m and from there to j is entry k moved to j.
use mathlib.Core.Path.{◌≡◌, refl, sym, ap, ◌∙◌}
use mathlib.Core.List.{List, [], ◌∷◌}
use Prim.Native.Nat.{ℕ, zero, suc, ◌+◌, ◌-◌, ◌≤◌, ◌<◌}
use native.Mathlib.Decide.{dec_le, dec_lt, ℕ_discrete}
use native.Mathlib.Omega.{arith}
use lib.ListN.{length, get_or, get_or-eq_default}
use Rattle.working.specs.Rotation.{Moved, rotated_right, rotated_left}
use Rattle.working.proofs.RotationRight.{right_at, right-low, right_mid, right-high}
use Rattle.working.proofs.RotationLeft.{left_at, left-low, left_mid, left-high}

-- n entries, from number i on
entries : (ℕ → ℕ) → ℕ → ℕ → List ℕ
entries f i zero = []
entries f i (suc n) = f i ∷ entries f (suc i) n

entries-length : (f : ℕ → ℕ) (i n : ℕ) → length (entries f i n) ≡ n
unfolding entries
entries-length f i zero = refl
entries-length f i (suc n) = ap suc (entries-length f (suc i) n)

entries_at : (f : ℕ → ℕ) (i n j : ℕ) → j < n → get_or (entries f i n) j 0 ≡ f (i + j)
unfolding entries
entries_at f i zero j h = absurd (omega arith)
entries_at f i (suc n) zero h = ap f (omega arith)
entries_at f i (suc n) (suc j) h = entries_at f (suc i) n j (omega arith) ∙ ap f (omega arith)

pub record MovedList (σ : ℕ → ℕ) (a : List ℕ) : Type 0 where
  pub list : List ℕ
  pub moved : Moved σ a list

module _ (a : List ℕ) (k m : ℕ) (h : k ≤ m) (q : m < length a) where
  abbrev from : ℕ → ℕ
  from j = get_or a (rotated_left k m j) 0

  pub moved_list : MovedList (rotated_left k m) a
  moved_list = record { list = entries from 0 (length a); moved = record { size = size; at = λ j. go j (dec_lt j (length a)) } }
    where
      size : length (entries from 0 (length a)) ≡ length a
      size = entries-length from 0 (length a)

      go : (j : ℕ) → Dec (j < length a) → get_or (entries from 0 (length a)) j 0 ≡ from j
      go j (yes r) = entries_at from 0 (length a) j r ∙ ap from (omega arith)
      go j (no r) =
          let x : length (entries from 0 (length a)) ≤ j = omega (arith, size) in
          let y : length a ≤ j = omega arith in
          get_or-eq_default (entries from 0 (length a)) 0 x
          ∙ sym (rw (left-high k m j h (omega arith)) (get_or-eq_default a 0 y))

-- where an entry comes from
left-then-right : (k i m : ℕ) → k ≤ i → i ≤ m → (j : ℕ) → rotated_left k m (rotated_right i m j) ≡ rotated_left k i j
left-then-right k i m h q j = go (ℕ_discrete j i) (dec_lt j k) (dec_lt j i) (dec_le j m)
  where
    go : Dec (j ≡ i) → Dec (j < k) → Dec (j < i) → Dec (j ≤ m) → rotated_left k m (rotated_right i m j) ≡ rotated_left k i j
    go (yes e) x y z = rw (right_at i m j e, left_at k m m refl, left_at k i j e)
    go (no e) (yes x) y z = rw (right-low i m j (omega arith), left-low k m j (omega arith) x, left-low k i j h x)
    go (no e) (no x) (yes y) z = rw (right-low i m j y, left_mid k m j (omega arith) (omega arith), left_mid k i j (omega arith) y)
    go (no e) (no x) (no y) (yes z) =
        rw (right_mid i m j (omega arith) z, left_mid k m (j - 1) (omega arith) (omega arith), left-high k i j h (omega arith)) (omega arith)
    go (no e) (no x) (no y) (no z) = rw (right-high i m j q (omega arith), left-high k m j (omega arith) (omega arith), left-high k i j h (omega arith))

-- b has entry k moved to m, and b' has it moved to i: then b' is b with entry m moved to i
pub moved_twice : (a b b' : List ℕ) (k i m : ℕ) → k ≤ i → i ≤ m → Moved (rotated_left k m) a b → Moved (rotated_left k i) a b' → Moved (rotated_right i m) b b'
moved_twice a b b' k i m h q x y = record {
  size = y.size ∙ sym x.size;
  at = λ j. y.at j ∙ ap (λ (s : ℕ). get_or a s 0) (sym (left-then-right k i m h q j)) ∙ sym (x.at (rotated_right i m j));
}
