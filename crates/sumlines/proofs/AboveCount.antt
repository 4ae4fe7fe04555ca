-- Refusal 15, line by line.
use mathlib.Core.Path.{◌≡◌, refl, sym, ap, ◌∙◌}
use mathlib.Core.Bool.{Bool, true, false}
use mathlib.Core.List.{List, [], ◌∷◌}
use Prim.Native.Nat.{ℕ, suc, ◌+◌, ◌≤◌}
use native.Mathlib.Numerals.{add-one}
use native.Mathlib.Omega.{arith}
use lib.Dec.{eqb, ltb}
use lib.ListN.{length}
use borrow.Author.Tests.{le-ltb}
use Rattle.package.specs.Names.{sum_o}
use Rattle.package.specs.Sums.{SumLine}
use Rattle.acceptance.specs.Check.{Verdict, refusal, fine, items_judged}
use Rattle.std.specs.Prelude.{Option, None, Some, IfSome}
use Rattle.package.specs.declared.SumAt.{SumAt}
use Rattle.sumlines.specs.Lines.{sums_at, held_line, held_from, NumberedFrom, above_count, Counted, uncounted, counted, Inside}

pub above_low : (count k i : ℕ) → i ≤ count → above_count count k i ≡ false
unfolding above_count
above_low count k i h = go (eqb k sum_o)
  where
    go : (t : Bool) → ◌≡◌ {A = Bool} (elim t [ false ↦ false | true ↦ ltb count i ]) false
    go false = refl
    go true = le-ltb count i h

pub counted-first : (n : ℕ) (ss : List SumLine) → Counted n ss → NumberedFrom n ss
unfolding NumberedFrom
counted-first n [] uncounted = tt
counted-first n (s ∷ ss) (counted e es) = e

counted-rest : (n : ℕ) (s : SumLine) (ss : List SumLine) → Counted n (s ∷ ss) → Counted (suc n) ss
counted-rest n s ss (counted e es) = es

module _ (count : ℕ) (s : SumLine) (ss : List SumLine) where
  items_here : above_count count s.kind s.item ≡ true → items_judged count (s ∷ ss) ≡ refusal 15 s.line
  unfolding items_judged above_count
  items_here = go (eqb s.kind sum_o) refl (ltb count s.item) refl
    where
      go : (t : Bool) → eqb s.kind sum_o ≡ t → (u : Bool) → ltb count s.item ≡ u → ◌≡◌ {A = Bool} (elim t [ false ↦ false | true ↦ u ]) true
          → items_judged count (s ∷ ss) ≡ refusal 15 s.line
      go true x true y e = rw (items_judged, x, y)
      go true x false y e = let z : false ≡ true = e in cc
      go false x u y e = let z : false ≡ true = e in cc

  pub items-later : above_count count s.kind s.item ≡ false → items_judged count (s ∷ ss) ≡ items_judged count ss
  unfolding items_judged above_count
  items-later = go (eqb s.kind sum_o) refl (ltb count s.item) refl
    where
      go : (t : Bool) → eqb s.kind sum_o ≡ t → (u : Bool) → ltb count s.item ≡ u → ◌≡◌ {A = Bool} (elim t [ false ↦ false | true ↦ u ]) false
          → items_judged count (s ∷ ss) ≡ items_judged count ss
      go false x u y e = rw (items_judged, x)
      go true x false y e = rw (items_judged, x, y)
      go true x true y e = let z : true ≡ false = e in cc

-- The lines from `at` on are left to judge; `next` is the first of them, and `whole` the verdict.
pub record ItemsLeft (bytes : List ℕ) (count : ℕ) (whole : Verdict) (at line : ℕ) (next : Option SumAt) : Type 0 where
  pub some : 1 ≤ line
  pub low : at ≤ length bytes
  pub small : line ≤ at + 4
  pub inside : IfSome next (λ s. Inside bytes at s)
  pub held : held_from bytes line next ≡ sums_at bytes at line
  pub numbers : Counted line (sums_at bytes at line)
  pub same : items_judged count (sums_at bytes at line) ≡ whole

module _ (bytes : List ℕ) (count : ℕ) (whole : Verdict) (at line : ℕ) where
  module _ (s : SumAt) (h : ItemsLeft bytes count whole at line (Some s)) where
    first-line : sums_at bytes at line ≡ held_line bytes line s ∷ sums_at bytes s.next (suc line)
    unfolding held_from
    first-line = sym h.held

    pub left-above : above_count count s.kind s.item ≡ true → refusal 15 line ≡ whole
    left-above e =
        sym (items_here count (held_line bytes line s) (sums_at bytes s.next (suc line)) e)
        ∙ ap (items_judged count) (sym first-line) ∙ h.same

    rest-counted : Counted (suc line) (sums_at bytes s.next (suc line))
    rest-counted = counted-rest line (held_line bytes line s) (sums_at bytes s.next (suc line)) (rw first-line at h.numbers)

    pub left-next : above_count count s.kind s.item ≡ false → (next : Option SumAt) → IfSome next (λ s'. Inside bytes s.next s')
        → ((n : ℕ) → NumberedFrom n (sums_at bytes s.next n) → held_from bytes n next ≡ sums_at bytes s.next n)
        → ItemsLeft bytes count whole s.next (line + 1) next
    left-next e next i k =
        let a = h.inside.further in
        let b = h.small in
        rw (add-one line) (record {
          some = omega arith;
          low = h.inside.next_le;
          small = omega arith;
          inside = i;
          held = k (suc line) (counted-first (suc line) (sums_at bytes s.next (suc line)) rest-counted);
          numbers = rest-counted;
          same = sym (items-later count (held_line bytes line s) (sums_at bytes s.next (suc line)) e) ∙ ap (items_judged count) (sym first-line) ∙ h.same;
        })

  pub left_end : ItemsLeft bytes count whole at line None → fine ≡ whole
  unfolding items_judged held_from
  left_end h = ap (items_judged count) h.held ∙ h.same
