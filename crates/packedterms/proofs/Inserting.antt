-- A term added where the search says that its word belongs is inserted.
use mathlib.Core.Path.{◌≡◌, sym, ◌∙◌}
use mathlib.Core.Bool.{Bool, true, false}
use mathlib.Core.Logic.{◌≢◌}
use mathlib.Core.List.{List}
use Prim.Native.Nat.{ℕ, ◌<◌}
use native.Mathlib.Omega.{arith}
use Rattle.field.proofs.Fields.{element_of}
use Rattle.std.specs.declared.cmp.Ordering.TheVariants.{Greater}
use Rattle.words.specs.Order.{Lt}
use Rattle.algebra.specs.Poly.{Term, Poly}
use Rattle.algebra.specs.Written.{insert}
use Rattle.working.specs.Change.{single, onto, before}
use Rattle.working.proofs.Inserted.{insert-equal, insert-new, insert-zero}
use Rattle.table.specs.Table.{prime_in, field_in, order_in}
use Rattle.table.specs.Tabled.{Tabled}
use Rattle.table.specs.Words.{word_of, Built}
use Rattle.packedterms.specs.Behind.{Behind}
use Rattle.packedterms.specs.Finding.{standing, Belonging}
use Rattle.packedterms.specs.Formula.{term_at, formula, Working}
use Rattle.packedterms.proofs.BehindTerms.{behind-first, behind_inserted}
use Rattle.packedterms.proofs.Sinks.{standing_is}

module _ (t : List ℕ) (tabled : Tabled t) (x e : ℕ) (small : x < prime_in t) (v : List ℕ) (b : Built t e v) (c l w o : List ℕ) (n : ℕ)
    (f : Working t c l w o n) (k : ℕ) {present : Bool} (found : Belonging (standing v e l w o) n k present) where
  abbrev F : ℕ → Term
  F = term_at t c l w o

  abbrev term : Term
  term = single x (word_of t e v)

  abbrev inserted : Poly
  inserted = insert (field_in t) (order_in t) term (formula t c l w o n)

  is : (i : ℕ) → i < n → standing v e l w o i ≡ order_in t (word_of t e v) (F i).word
  is = standing_is t tabled.suits e v b c l w o n f

  above : (i : ℕ) → i < k → Lt (order_in t) (word_of t e v) (F i).word
  above i h = let q = found.low in sym (is i (omega arith)) ∙ found.below i h

  -- the term's word is still behind the terms before k
  pub added_behind : {g : Poly} → g ≡ inserted → Behind (order_in t) (word_of t e v) k g
  added_behind d =
      let first = behind-first (order_in t) (word_of t e v) F k n found.low above in
      rw d (behind_inserted (field_in t) (order_in t) x (word_of t e v) k (formula t c l w o n) first)

  element : (field_in t).red x ≡ x
  element = tabled.field.red_elem x (element_of (prime_in t) small)

  pub onto_inserted : {g : Poly} → present ≡ true → g ≡ onto (field_in t) F n k x → g ≡ inserted
  onto_inserted p d =
      let (h, q) = found.equal p in
      d ∙ sym (insert-equal (field_in t) (order_in t) term F n k above h (sym (is k h) ∙ q))

  module _ (p : present ≡ false) where
    next : k < n → order_in t (word_of t e v) (F k).word ≡ Greater
    next h = sym (is k h) ∙ found.new p h

    pub before_inserted : {g : Poly} → x ≢ 0 → g ≡ before F n k x (word_of t e v) → g ≡ inserted
    before_inserted z d = d ∙ sym (insert-new (field_in t) (order_in t) term F n k above found.low next element z)

    pub zero_inserted : {g : Poly} → x ≡ 0 → g ≡ formula t c l w o n → g ≡ inserted
    zero_inserted z d = d ∙ sym (insert-zero (field_in t) (order_in t) term F n k above found.low next (element ∙ z))
