-- A number added to the coefficient of term k: the term has the sum, or it is dropped where that is 0.
use mathlib.Core.Path.{◌≡◌, sym, ◌∙◌}
use mathlib.Core.List.{List, ◌∷◌}
use mathlib.Core.Logic.{◌≢◌}
use Prim.Native.Nat.{ℕ, ◌+◌, ◌-◌, ◌≤◌, ◌<◌}
use native.Mathlib.Decide.{ℕ_discrete}
use native.Mathlib.Omega.{arith}
use lib.ListN.{length, get_or, set, length-set}
use lib.Seq.{get_or-set_same, get_or-set_other}
use Rattle.field.specs.Field.{Field}
use Rattle.algebra.specs.Poly.{Term, Poly}
use Rattle.algebra.specs.Written.{put}
use Rattle.algebra.proofs.Insertion.{put-zero, put_some}
use Rattle.working.specs.Working.{terms}
use Rattle.working.specs.Rotation.{Moved, rotated_left}
use Rattle.working.specs.Change.{single, onto}
use Rattle.working.proofs.Terms.{terms-next, terms-cut, terms-same}
use Rattle.table.specs.Table.{field_in}
use Rattle.packedterms.specs.Change.{AddedOnto}
use Rattle.packedterms.specs.Formula.{term_at, formula, Holds}
use Rattle.packedterms.proofs.LeftOut.{left-out-holds, left-out-formula}
use Rattle.packedterms.proofs.Places.{term-place}

module _ (t : List ℕ) (laws : Field (field_in t)) (c l w o : List ℕ) (n k x : ℕ) (f : Holds t c l w o n) (h : k < n) where
  abbrev s : ℕ
  s = get_or o k 0

  abbrev y : ℕ
  y = (field_in t).add x (get_or c s 0)

  abbrev F : ℕ → Term
  F = term_at t c l w o

  -- the terms behind k
  abbrev behind : Poly
  behind = terms F (k + 1) (n - (k + 1))

  element : (field_in t).red y ≡ y
  element = laws.red-add x (get_or c s 0)

  other : (i : ℕ) → i < n → (i ≡ k → ⊥) → get_or o i 0 ≡ s → ⊥
  other i q d z = let g = f.count in let p = f.room.places in d (f.arranged.apart i k (omega arith) (omega arith) z)

  -- the sum is stored
  summed-holds : Holds t (set c s y) l w o n
  summed-holds =
      let r = f.room in
      record {
        count = f.count;
        room = record { coefs = rw length-set r.coefs; sizes = r.sizes; blocks = r.blocks; places = r.places };
        arranged = f.arranged;
        held = f.held;
      }

  summed-formula : y ≢ 0 → formula t (set c s y) l w o n ≡ onto (field_in t) F n k x
  summed-formula d =
      let G : ℕ → Term = term_at t (set c s y) l w o in
      let same : (i : ℕ) → i < n → (i ≡ k → ⊥) → G i ≡ F i = λ i q z. rw (get_or-set_other c s (get_or o i 0) y 0 (other i q z)) in
      let inside : s < length c = omega (arith, f.room.coefs, term-place t c l w o n f k h) in
      let here : G k ≡ single y (F k).word = rw (get_or-set_same c s y 0 inside) in
      let front : terms G 0 k ≡ terms F 0 k = terms-same G F 0 k (λ j _ q. same j (omega arith) (λ z. omega arith)) in
      let back : terms G (k + 1) (n - (k + 1)) ≡ behind = terms-same G F (k + 1) (n - (k + 1)) (λ j q v. same j (omega arith) (λ z. omega arith)) in
      let some : put (field_in t) y (F k).word behind ≡ single y (F k).word ∷ behind =
      put_some (field_in t) y (F k).word behind (λ z. d (sym element ∙ z)) ∙ rw element in
      terms-cut G k n (omega arith) ∙ rw (terms-next G k n h, front, back, here, some)

  -- the entry goes behind the others
  dropped-formula : (o' : List ℕ) → Moved (rotated_left k (n - 1)) o o' → y ≡ 0 → formula t c l w o' (n - 1) ≡ onto (field_in t) F n k x
  dropped-formula o' mv z = left-out-formula t c l w o n k h o' mv ∙ rw (put-zero (field_in t) y (F k).word behind (element ∙ z))

  module _ (c' o' : List ℕ) (r : ℕ) (a : AddedOnto y c o n k c' o' r) where
    pub onto-holds : (r ≤ n) × Holds t c' l w o' r
    onto-holds = go (ℕ_discrete y 0)
      where
        go : Dec (y ≡ 0) → (r ≤ n) × Holds t c' l w o' r
        go (yes z) = let (q, u, mv) = a.dropped z in (omega arith, rw (q, u) (left-out-holds t c l w o n k h o' mv f))
        go (no z) = let (q, u, v) = a.summed z in (omega arith, rw (q, u, v) summed-holds)

    pub onto-formula : formula t c' l w o' r ≡ onto (field_in t) F n k x
    onto-formula = go (ℕ_discrete y 0)
      where
        go : Dec (y ≡ 0) → formula t c' l w o' r ≡ onto (field_in t) F n k x
        go (yes z) = let (q, u, mv) = a.dropped z in rw (q, u) (dropped-formula o' mv z)
        go (no z) = let (q, u, v) = a.summed z in rw (q, u, v) (summed-formula z)
