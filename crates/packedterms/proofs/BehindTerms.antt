-- Words behind the first terms of a polynomial: a lower word is, the polynomial may have the word inserted, and its terms may be given by number.
use mathlib.Core.Path.{◌≡◌}
use mathlib.Core.List.{[], ◌∷◌}
use Prim.Native.Nat.{ℕ, zero, suc, ◌+◌, ◌≤◌, ◌<◌}
use native.Mathlib.Decide.{ℕ_discrete}
use native.Mathlib.Omega.{arith}
use Rattle.field.specs.Field.{Operations}
use Rattle.lists.specs.All.{done, ◌also◌}
use Rattle.words.specs.Word.{Word}
use Rattle.words.specs.Order.{Order, Lt, Admissible}
use Rattle.algebra.specs.Poly.{Term, Poly}
use Rattle.algebra.specs.Written.{insert}
use Rattle.algebra.proofs.Insertion.{insert-behind}
use Rattle.working.specs.Working.{terms}
use Rattle.working.specs.Change.{single}
use Rattle.packedterms.specs.Behind.{Behind, none, past}

pub behind_lower : {O : Order} → Admissible O → {u v : Word} → Lt O v u → {k : ℕ} {f : Poly} → Behind O u k f → Behind O v k f
behind_lower A h none = none
behind_lower A {u} {v} h (past {s = s} p b) = past (A.trans v u s.word h p) (behind_lower A h b)

pub behind_inserted : (K : Operations) (O : Order) (x : ℕ) (u : Word) (k : ℕ) (f : Poly) → Behind O u k f → Behind O u k (insert K O (single x u) f)
behind_inserted K O x u zero f none = none
behind_inserted K O x u (suc k) [] b = elim b [ ]
behind_inserted K O x u (suc k) (s ∷ f) (past p b) =
    rw (insert-behind K O (single x u) (s ∷ []) f (p also done)) (past p (behind_inserted K O x u k f b))

module _ (O : Order) (u : Word) (F : ℕ → Term) where
  behind_by_number : (k i n : ℕ) → k ≤ n → ((j : ℕ) → i ≤ j → j < i + k → Lt O u (F j).word) → Behind O u k (terms F i n)
  unfolding terms
  behind_by_number zero i n h a = none
  behind_by_number (suc k) i zero h a = absurd (omega arith)
  behind_by_number (suc k) i (suc n) h a =
      past (a i (omega arith) (omega arith)) (behind_by_number k (suc i) n (omega arith) (λ j x y. a j (omega arith) (omega arith)))

  by_number-behind : (k i n : ℕ) → Behind O u k (terms F i n) → (k ≤ n) × ((j : ℕ) → i ≤ j → j < i + k → Lt O u (F j).word)
  unfolding terms
  by_number-behind zero i n none = (omega arith, λ j x y. absurd (omega arith))
  by_number-behind (suc k) i zero b = elim b [ ]
  by_number-behind (suc k) i (suc n) (past p b) =
      let (h, a) = by_number-behind k (suc i) n b in
      (omega arith, λ j x y. go j x y (ℕ_discrete j i) (a j))
    where
      go : (j : ℕ) → i ≤ j → j < i + suc k → Dec (j ≡ i) → (suc i ≤ j → j < suc i + k → Lt O u (F j).word) → Lt O u (F j).word
      go j x y (yes e) rest = rw e p
      go j x y (no e) rest = rest (omega arith) (omega arith)

  -- the first k of n terms by their numbers
  pub behind-first : (k n : ℕ) → k ≤ n → ((j : ℕ) → j < k → Lt O u (F j).word) → Behind O u k (terms F 0 n)
  behind-first k n h a = behind_by_number k 0 n h (λ j x y. a j (omega arith))

  pub first-behind : (k n : ℕ) → Behind O u k (terms F 0 n) → (k ≤ n) × ((j : ℕ) → j < k → Lt O u (F j).word)
  first-behind k n b = let (h, a) = by_number-behind k 0 n b in (h, λ j x. a j (omega arith) (omega arith))
