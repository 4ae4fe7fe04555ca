-- Term k left out, and a term added whose word is below that of term k: onto the term that has its word, not at all if it is zero, or at the place
-- of term k, whose entry goes to where the word belongs.
use mathlib.Core.Path.{◌≡◌, refl, sym, ap, ◌∙◌}
use mathlib.Core.Bool.{Bool, true, false}
use mathlib.Core.Logic.{◌≢◌}
use mathlib.Core.List.{List}
use Prim.Native.Nat.{ℕ, ◌+◌, ◌-◌, ◌≤◌, ◌<◌}
use native.Mathlib.Omega.{arith}
use lib.ListN.{get_or, take}
use Rattle.algebra.specs.Written.{insert}
use Rattle.working.specs.Rotation.{Moved, rotated_left}
use Rattle.working.specs.Change.{single, without}
use Rattle.working.proofs.RotationLeft.{left_at}
use Rattle.working.proofs.MovedEntries.{moved_list, moved_twice}
use Rattle.table.specs.Table.{prime_in, field_in, order_in}
use Rattle.table.specs.Tabled.{Tabled}
use Rattle.table.specs.Words.{word_of, Built}
use Rattle.packedterms.specs.Behind.{Behind}
use Rattle.packedterms.specs.Change.{Stored, PutBefore, AddedOnto}
use Rattle.packedterms.specs.Finding.{standing, BelowFirst, Belonging}
use Rattle.packedterms.specs.Formula.{term_at, formula, Holds, Working}
use Rattle.packedterms.proofs.Halving.{index_from}
use Rattle.packedterms.proofs.Inserting.{onto_inserted, before_inserted, zero_inserted, added_behind}
use Rattle.packedterms.proofs.LeftOut.{left-out-formula, left-out-working, left-out_belonging}
use Rattle.packedterms.proofs.NewTerm.{before-holds, before-formula}
use Rattle.packedterms.proofs.Sinks.{below-first}
use Rattle.packedterms.proofs.SameWord.{onto-holds, onto-formula}

module _ (t : List ℕ) (tabled : Tabled t) (x e : ℕ) (small : x < prime_in t) (v : List ℕ) (b : Built t e v) (c l w o : List ℕ) (n k : ℕ)
    (f : Working t c l w o n) (h : k < n) (behind : Behind (order_in t) (word_of t e v) (k + 1) (formula t c l w o n))
    (j : ℕ) {present : Bool} (found : Belonging (standing v e l w o) n j present) where
  -- what the arrays then hold, in r terms
  abbrev pub Replaced : List ℕ → List ℕ → List ℕ → List ℕ → ℕ → Type 0
  Replaced c' l' w' o' r =
      ((r ≤ n) × Holds t c' l' w' o' r)
      × ((formula t c' l' w' o' r ≡ insert (field_in t) (order_in t) (single x (word_of t e v)) (without (term_at t c l w o) n k))
      × Behind (order_in t) (word_of t e v) (j - 1) (formula t c' l' w' o' r))

  first : BelowFirst (standing v e l w o) (k + 1) n
  first = below-first t tabled.suits e v b c l w o n f (k + 1) behind

  pub from : k + 1 ≤ j
  from = index_from (standing v e l w o) n first found

  -- the entry of term k is behind the others
  module _ (o₁ : List ℕ) (mv : Moved (rotated_left k (n - 1)) o o₁) where
    pub others : Working t c l w o₁ (n - 1)
    others = left-out-working t c l w o n k h o₁ mv f

    belongs : Belonging (standing v e l w o₁) (n - 1) (j - 1) present
    belongs = left-out_belonging t c l w o n k h o₁ mv v e first j found

    replaced : (c' l' w' o' : List ℕ) (r : ℕ) → (r ≤ n) × Holds t c' l' w' o' r
        → formula t c' l' w' o' r ≡ insert (field_in t) (order_in t) (single x (word_of t e v)) (formula t c l w o₁ (n - 1)) → Replaced c' l' w' o' r
    replaced c' l' w' o' r g d = (
      g,
      (
        d ∙ ap (insert (field_in t) (order_in t) (single x (word_of t e v))) (left-out-formula t c l w o n k h o₁ mv),
        added_behind t tabled x e small v b c l w o₁ (n - 1) others (j - 1) belongs d,
      ),
    )

    pub replaced_onto : present ≡ true → (c' o' : List ℕ) (r : ℕ)
        → AddedOnto ((field_in t).add x (get_or c (get_or o₁ (j - 1) 0) 0)) c o₁ (n - 1) (j - 1) c' o' r → Replaced c' l w o' r
    replaced_onto p c' o' r a =
        let low = (belongs.equal p).0 in
        let g = onto-holds t tabled.field c l w o₁ (n - 1) (j - 1) x others.holds low c' o' r a in
        let less = g.0 in
        let sum = onto-formula t tabled.field c l w o₁ (n - 1) (j - 1) x others.holds low c' o' r a in
        replaced c' l w o' r (omega arith, g.1) (onto_inserted t tabled x e small v b c l w o₁ (n - 1) others (j - 1) belongs p sum)

    pub replaced_none : present ≡ false → x ≡ 0 → Replaced c l w o₁ (n - 1)
    replaced_none p z =
        replaced c l w o₁ (n - 1) (omega arith, others.holds) (zero_inserted t tabled x e small v b c l w o₁ (n - 1) others (j - 1) belongs p z refl)

  -- the new term has the place of term k
  pub replaced_here : present ≡ false → x ≢ 0 → (c' l' w' o' : List ℕ) → Stored c l w (get_or o k 0) x e (take 6 v) c' l' w'
      → Moved (rotated_left k (j - 1)) o o' → Replaced c' l' w' o' n
  replaced_here p z c' l' w' o' put mv =
      let few = f.holds.count in
      let room = f.holds.room.places in
      let lo = from in
      let hi = found.low in
      let m = moved_list o k (n - 1) (omega arith) (omega arith) in
      let same : get_or o k 0 ≡ get_or m.list (n - 1) 0 = sym (m.moved.at (n - 1) ∙ ap (λ (i : ℕ). get_or o i 0) (left_at k (n - 1) (n - 1) refl)) in
      let a : PutBefore c l w m.list (n - 1) (j - 1) x v e c' l' w' o' = record {
        stored = rw same at put;
        entries = moved_twice o m.list o' k (j - 1) (n - 1) (omega arith) (omega arith) m.moved mv;
      } in
      let rest = others m.list m.moved in
      let g = before-holds t c l w m.list (n - 1) (j - 1) x v e c' l' w' o' rest.holds (omega arith) (omega arith) b a in
      let sum = before-formula t c l w m.list (n - 1) (j - 1) x v e c' l' w' o' rest.holds (omega arith) (omega arith) b a in
      let d = before_inserted t tabled x e small v b c l w m.list (n - 1) rest (j - 1) (belongs m.list m.moved) p z sum in
      let all : n - 1 + 1 ≡ n = omega arith in
      rw all at (replaced m.list m.moved c' l' w' o' (n - 1 + 1) (omega arith, g) d)
