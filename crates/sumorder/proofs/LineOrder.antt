-- Sum lines in order: an item's lines are the next ones, and lines that were passed belong to no later item.
use mathlib.Core.Path.{◌≡◌, refl, sym, ◌∙◌}
use mathlib.Core.Bool.{Bool, true, false, true≢false, false≢true}
use mathlib.Core.Logic.{◌≢◌, ◌⊎◌, inl, inr}
use mathlib.Core.List.{List, [], ◌∷◌}
use Prim.Native.Nat.{ℕ, suc, ◌+◌, ◌≤◌, ◌<◌}
use native.Mathlib.Decide.{ℕ_discrete}
use native.Mathlib.Omega.{arith}
use lib.Dec.{eqb, ltb, leb}
use lib.ListN.{length, take, drop}
use borrow.Author.Tests.{eq-eqb, ne_eqb, eqb-true, lt-ltb, ltb-true, le-leb, leb-true}
use Rattle.lists.proofs.Parts.{part_length}
use Rattle.field.specs.Field.{Operations}
use Rattle.words.specs.Order.{Order}
use Rattle.algebra.specs.Poly.{Poly}
use Rattle.algebra.specs.Ideal.{Family}
use Rattle.overlaps.specs.Pairs.{Pair}
use Rattle.text.specs.Bytes.{within}
use Rattle.text.proofs.Bytewise.{within-bounds}
use Rattle.package.specs.declared.Head.{Head}
use Rattle.package.specs.Names.{sum_o}
use Rattle.package.specs.declared.Limits.{Limits}
use Rattle.package.proofs.LineBounds.{coef-below, word-short}
use Rattle.package.specs.Bounds.{coef_fits, word_fits_of}
use Rattle.package.specs.Package.{package_limits}
use Rattle.package.specs.Sums.{SumLine, sum_item_fits, ofs, sum_fits, sum_follows}
use Rattle.package.specs.Readable.{SumInOrder, SumsInOrder, no_sums, sum_then}
use Rattle.acceptance.specs.Content.{sum_of}
use Rattle.acceptance.specs.Check.{sums_judged, overlaps_judged}
use Rattle.package.specs.declared.SumAt.{SumAt}
use Rattle.sumlines.specs.Lines.{held_line, NumberedFrom, first_is, Inside, LineFits}
use Rattle.sumorder.specs.Reached.{Past, all_left, one_past}

-- What follows a line has no lower kind, and in one kind no lower item.
pub follows-order : (k' i' k i : ℕ) → sum_follows k' i' k i ≡ true → (k' < k) ⊎ ((k' ≡ k) × (i' ≤ i))
unfolding sum_follows
follows-order k' i' k i = go (eqb k k') refl
  where
    go : (t : Bool) → eqb k k' ≡ t → ◌≡◌ {A = Bool} (elim t [ false ↦ ltb k' k | true ↦ leb i' i ]) true → (k' < k) ⊎ ((k' ≡ k) × (i' ≤ i))
    go false e h = inl (ltb-true k' k h)
    go true e h = inr (sym (eqb-true k k' e), leb-true i' i h)

order-follows : (k' i' k i : ℕ) → (k' < k) ⊎ ((k' ≡ k) × (i' ≤ i)) → sum_follows k' i' k i ≡ true
unfolding sum_follows
order-follows k' i' k i (inl h) = let n : k ≢ k' = λ e. omega arith in rw (sum_follows, ne_eqb k k' n, lt-ltb k' k h)
order-follows k' i' k i (inr (e, h)) = rw (sum_follows, eq-eqb k k' (sym e), le-leb i' i h)

-- The first line is not one of item i of kind k.
not_first : (k i : ℕ) (s : SumLine) (ss : List SumLine) → first_is k i (s ∷ ss) ≡ false → s.kind ≡ k → s.item ≢ i
unfolding first_is
not_first k i s ss h e f = let x : first_is k i (s ∷ ss) ≡ true = rw (first_is, eq-eqb s.kind k e, eq-eqb s.item i f) in true≢false (sym x ∙ h)

-- The first line is one.
pub is_first-kind : (k i : ℕ) (s : SumLine) (ss : List SumLine) → first_is k i (s ∷ ss) ≡ true → (s.kind ≡ k) × (s.item ≡ i)
unfolding first_is
is_first-kind k i s ss = go (eqb s.kind k) refl
  where
    go : (t : Bool) → eqb s.kind k ≡ t → ◌≡◌ {A = Bool} (elim t [ false ↦ false | true ↦ eqb s.item i ]) true → (s.kind ≡ k) × (s.item ≡ i)
    go false e h = absurd (false≢true h)
    go true e h = (eqb-true s.kind k e, eqb-true s.item i h)

-- Lines of an item: the first one, or no line of the item first.
pub sum_this : (k i : ℕ) (s : SumLine) (ss : List SumLine) → s.kind ≡ k → s.item ≡ i → sum_of k i (s ∷ ss) ≡ s ∷ sum_of k i ss
unfolding sum_of
sum_this k i s ss e f = rw (sum_of, eq-eqb s.kind k e, eq-eqb s.item i f)

pub sum_skip : (k i : ℕ) (s : SumLine) (ss : List SumLine) → (s.kind ≡ k → s.item ≢ i) → sum_of k i (s ∷ ss) ≡ sum_of k i ss
unfolding sum_of
sum_skip k i s ss n = go (ℕ_discrete s.kind k)
  where
    go : Dec (s.kind ≡ k) → sum_of k i (s ∷ ss) ≡ sum_of k i ss
    go (yes e) = rw (sum_of, eq-eqb s.kind k e, ne_eqb s.item i (n e))
    go (no e) = rw (sum_of, ne_eqb s.kind k e)

module _ {h : Head} {m : Limits} where
  pub order-numbered : {k i n : ℕ} {ss : List SumLine} → SumsInOrder h m k i n ss → NumberedFrom n ss
  unfolding NumberedFrom
  order-numbered no_sums = tt
  order-numbered (sum_then o os) = o.numbered

  pub order-rest : {k i n : ℕ} {s : SumLine} {ss : List SumLine} → SumsInOrder h m k i n (s ∷ ss) → SumsInOrder h m s.kind s.item (suc n) ss
  order-rest (sum_then o os) = os

  pub order-first : {k i n : ℕ} {s : SumLine} {ss : List SumLine} → SumsInOrder h m k i n (s ∷ ss) → SumInOrder h m k i n s
  order-first (sum_then o os) = o

  -- in order from a lower item on
  pub relabelled : {k i k' i' n : ℕ} {s : SumLine} → SumInOrder h m k i n s → (k' < s.kind) ⊎ ((k' ≡ s.kind) × (i' ≤ s.item)) → SumInOrder h m k' i' n s
  relabelled {k} {i} {k'} {i'} {n} {s} o q = record {
    numbered = o.numbered;
    ranked = o.ranked;
    digits = o.digits;
    fits = o.fits;
    order = order-follows k' i' s.kind s.item q;
  }

  -- where the first line is not one of the item, the lines are those of later items
  pub order-next : {k i n : ℕ} (ss : List SumLine) → SumsInOrder h m k i n ss → first_is k i ss ≡ false → SumsInOrder h m k (i + 1) n ss
  order-next [] no_sums f = no_sums
  order-next {k} {i} {n} (s ∷ ss) (sum_then o os) f = sum_then (relabelled o (go (follows-order k i s.kind s.item o.order))) os
    where
      go : (k < s.kind) ⊎ ((k ≡ s.kind) × (i ≤ s.item)) → (k < s.kind) ⊎ ((k ≡ s.kind) × (i + 1 ≤ s.item))
      go (inl l) = inl l
      go (inr (e, l)) = let d : s.item ≢ i = not_first k i s ss f (sym e) in inr (e, omega arith)

  -- no line of an item stands among lines of later items
  none_earlier : (k i : ℕ) {k' i' n : ℕ} (ss : List SumLine) → SumsInOrder h m k' i' n ss → (k < k') ⊎ ((k ≡ k') × (i < i')) → sum_of k i ss ≡ []
  unfolding sum_of
  none_earlier k i [] no_sums q = refl
  none_earlier k i {k'} {i'} {n} (s ∷ ss) (sum_then o os) q =
      let z = go (follows-order k' i' s.kind s.item o.order) q in
      sum_skip k i s ss (apart z) ∙ none_earlier k i ss os z
    where
      go : (k' < s.kind) ⊎ ((k' ≡ s.kind) × (i' ≤ s.item)) → (k < k') ⊎ ((k ≡ k') × (i < i')) → (k < s.kind) ⊎ ((k ≡ s.kind) × (i < s.item))
      go (inl l) (inl r) = inl (omega arith)
      go (inl l) (inr (e, r)) = inl (omega arith)
      go (inr (d, l)) (inl r) = inl (omega arith)
      go (inr (d, l)) (inr (e, r)) = inr (e ∙ d, omega arith)

      apart : (k < s.kind) ⊎ ((k ≡ s.kind) × (i < s.item)) → s.kind ≡ k → s.item ≢ i
      apart (inl l) e f = omega arith
      apart (inr (d, l)) e f = omega arith

  pub sum-none : {k i n : ℕ} (ss : List SumLine) → SumsInOrder h m k i n ss → first_is k i ss ≡ false → sum_of k i ss ≡ []
  sum-none {k} {i} ss o f = none_earlier k i ss (order-next ss o f) (inr (refl, omega arith))

-- A line of an earlier item, or of another kind, is none of the sums judged.
pub sums_skip : (n k : ℕ) (K : Operations) (O : Order) (G : Family) (s : SumLine) (ss : List SumLine) (fs : List Poly) (i : ℕ) → (s.kind ≡ k → s.item < i)
    → sums_judged n k K O G (s ∷ ss) fs i ≡ sums_judged n k K O G ss fs i
unfolding sums_judged
sums_skip n k K O G s ss [] i h = refl
sums_skip n k K O G s ss (f ∷ fs) i h =
    let d : s.kind ≡ k → s.item ≢ i = λ e q. let z = h e in omega arith in
    rw (sum_skip k i s ss d, sums_skip n k K O G s ss fs (suc i) (λ e. let z = h e in omega arith))

-- A line of an earlier pair, or of another kind, is none of the pairs' that are left.
pub overlaps_skip : (K : Operations) (O : Order) (G : Family) (s : SumLine) (ss : List SumLine) (os : List Pair) (i : ℕ) → (s.kind ≡ sum_o → s.item < i)
    → overlaps_judged K O G (s ∷ ss) os i ≡ overlaps_judged K O G ss os i
unfolding overlaps_judged
overlaps_skip K O G s ss [] i h = refl
overlaps_skip K O G s ss (o ∷ os) i h =
    let d : s.kind ≡ sum_o → s.item ≢ i = λ e q. let z = h e in omega arith in
    rw (sum_skip sum_o i s ss d, overlaps_skip K O G s ss os (suc i) (λ e. let z = h e in omega arith))

-- One more line passed.
pub past_one : (k : ℕ) {s : SumLine} {ss₀ ss : List SumLine} → Past k ss₀ (s ∷ ss) → s.kind ≡ k → Past k ss₀ ss
past_one k all_left e = one_past e all_left
past_one k (one_past d p) e = one_past d (past_one k p e)

-- A line in bounds can be taken away.
record Fits (p count coef : ℕ) (left : List ℕ) (of : ℕ) (right : List ℕ) : Type 0 where
  below : coef < p
  some : 1 ≤ of
  most : of ≤ count
  lefts : length left ≤ 24
  rights : length right ≤ 24

fits_of : (h : Head) (k i c : ℕ) (l : List ℕ) (o : ℕ) (r : List ℕ) → sum_fits h package_limits k i c l o r ≡ true → Fits h.p (ofs h k) c l o r
unfolding sum_fits
fits_of h k i c l o r = go (sum_item_fits h k i) (coef_fits h.p c) (within 1 (ofs h k) o) (word_fits_of 24 h.letters l) refl refl refl
  where
    go : (s t u v : Bool) → coef_fits h.p c ≡ t → within 1 (ofs h k) o ≡ u → word_fits_of 24 h.letters l ≡ v
        → ◌≡◌ {A = Bool} (elim s [ false ↦ false | true ↦ elim t [ false ↦ false | true ↦ elim u [ false ↦ false | true ↦ elim v [ false ↦ false | true ↦ word_fits_of 24 h.letters r ] ] ] ]) true
        → Fits h.p (ofs h k) c l o r
    go false t u v x y z e = absurd (false≢true e)
    go true false u v x y z e = absurd (false≢true e)
    go true true false v x y z e = absurd (false≢true e)
    go true true true false x y z e = absurd (false≢true e)
    go true true true true x y z e =
        let n = within-bounds 1 (ofs h k) o y in
        record { below = coef-below h.p c x; some = n.0; most = n.1; lefts = word-short 24 h.letters l z; rights = word-short 24 h.letters r e }

pub line-fits : (h : Head) (k i n : ℕ) (bytes : List ℕ) (at : ℕ) (s : SumAt) → SumInOrder h package_limits k i n (held_line bytes n s) → Inside bytes at s
    → LineFits h.p bytes (ofs h s.kind) s
line-fits h k i n bytes at s o q =
    let l = take s.left_len (drop s.left bytes) in
    let r = take s.right_len (drop s.right bytes) in
    let f = fits_of h s.kind s.item s.coef l s.of r o.fits in
    let a = part_length s.left s.left_len bytes q.left_in in
    let b = part_length s.right s.right_len bytes q.right_in in
    let u = f.lefts in
    let v = f.rights in
    record {
      coef = f.below;
      some = f.some;
      most = f.most;
      left-short = omega arith;
      right-short = omega arith;
      left_in = q.left_in;
      right_in = q.right_in;
    }
