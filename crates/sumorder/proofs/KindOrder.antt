-- One kind of sum lines after the other: behind the last item of a kind the next kind begins.
use mathlib.Core.Path.{◌≡◌, refl, sym}
use mathlib.Core.Bool.{Bool, true, false, false≢true}
use mathlib.Core.Logic.{◌≢◌, ◌⊎◌, inl, inr}
use mathlib.Core.List.{List, [], ◌∷◌}
use Prim.Native.Nat.{ℕ, suc, ◌+◌, ◌≤◌, ◌<◌}
use native.Mathlib.Decide.{ℕ_discrete}
use native.Mathlib.Omega.{arith}
use lib.Dec.{eqb, leb}
use borrow.Author.Tests.{leb-true}
use Rattle.text.specs.Bytes.{within}
use Rattle.text.proofs.Bytewise.{within-bounds}
use Rattle.package.specs.declared.Head.{Head}
use Rattle.package.specs.Names.{sum_b, sum_g}
use Rattle.package.specs.Bounds.{coef_fits, word_fits_of}
use Rattle.package.specs.Package.{package_limits}
use Rattle.package.specs.Sums.{SumLine, sum_item_fits, ofs, sum_fits}
use Rattle.package.specs.Readable.{SumInOrder, SumsInOrder, no_sums, sum_then}
use Rattle.sumlines.specs.Lines.{sums_at, Counted, uncounted, counted}
use Rattle.sumorder.specs.Reached.{Reached}
use Rattle.sumorder.proofs.LineOrder.{follows-order, relabelled}

-- Items of a line that fits.
item-some : (h : Head) (k i : ℕ) → sum_item_fits h k i ≡ true → 1 ≤ i
unfolding sum_item_fits
item-some h k i = go (eqb k sum_b) (eqb k sum_g)
  where
    go : (t u : Bool) → ◌≡◌ {A = Bool} (elim t [ true ↦ within 1 h.basis i | false ↦ elim u [ true ↦ within 1 h.gens i | false ↦ leb 1 i ] ]) true → 1 ≤ i
    go true u e = (within-bounds 1 h.basis i e).0
    go false true e = (within-bounds 1 h.gens i e).0
    go false false e = leb-true 1 i e

item-basis : (h : Head) (i : ℕ) → sum_item_fits h sum_b i ≡ true → i ≤ h.basis
unfolding sum_item_fits
item-basis h i e = (within-bounds 1 h.basis i e).1

item_relation : (h : Head) (i : ℕ) → sum_item_fits h sum_g i ≡ true → i ≤ h.gens
unfolding sum_item_fits
item_relation h i e = (within-bounds 1 h.gens i e).1

item-fits : (h : Head) (k i c : ℕ) (l : List ℕ) (o : ℕ) (r : List ℕ) → sum_fits h package_limits k i c l o r ≡ true → sum_item_fits h k i ≡ true
unfolding sum_fits
item-fits h k i c l o r = go (sum_item_fits h k i) refl
  where
    go : (t : Bool) → sum_item_fits h k i ≡ t
        → ◌≡◌ {A = Bool} (elim t [ false ↦ false | true ↦ elim (coef_fits h.p c) [ false ↦ false | true ↦ elim (within 1 (ofs h k) o) [ false ↦ false | true ↦ elim (word_fits_of 24 h.letters l) [ false ↦ false | true ↦ word_fits_of 24 h.letters r ] ] ] ]) true
        → sum_item_fits h k i ≡ true
    go true e q = e
    go false e q = absurd (false≢true q)

module _ (h : Head) where
  -- From item i of kind k on no line is of kind k.
  abbrev pub KindOver : ℕ → ℕ → Type 0
  KindOver k i = (n : ℕ) (s : SumLine) → SumInOrder h package_limits k i n s → k ≢ s.kind

  fits-item : {k i n : ℕ} {s : SumLine} → SumInOrder h package_limits k i n s → sum_item_fits h s.kind s.item ≡ true
  fits-item {k} {i} {n} {s} o = item-fits h s.kind s.item s.coef s.left s.of s.right o.fits

  -- there is no kind 0, and no item behind the last
  pub none_first : KindOver 0 0
  none_first n s o e = let y = (within-bounds 1 3 s.kind o.ranked).0 in omega arith

  behind-last : (k most : ℕ) → ((i : ℕ) → sum_item_fits h k i ≡ true → i ≤ most) → KindOver k (most + 1)
  behind-last k most b n s o e = go (follows-order k (most + 1) s.kind s.item o.order)
    where
      go : (k < s.kind) ⊎ ((k ≡ s.kind) × (most + 1 ≤ s.item)) → ⊥
      go (inl l) = omega arith
      go (inr (d, l)) = let z = b s.item (rw (sym e) at (fits-item o)) in omega arith

  pub basis-over : KindOver sum_b (h.basis + 1)
  basis-over = behind-last sum_b h.basis (item-basis h)

  pub relations-over : KindOver sum_g (h.gens + 1)
  relations-over = behind-last sum_g h.gens (item_relation h)

  order-over : (k i : ℕ) → KindOver k i → {n : ℕ} (ss : List SumLine) → SumsInOrder h package_limits k i n ss → SumsInOrder h package_limits (suc k) 1 n ss
  order-over k i over [] no_sums = no_sums
  order-over k i over (s ∷ ss) (sum_then {n = n} o os) = sum_then (relabelled o (go (follows-order k i s.kind s.item o.order) (ℕ_discrete (suc k) s.kind))) os
    where
      go : (k < s.kind) ⊎ ((k ≡ s.kind) × (i ≤ s.item)) → Dec (suc k ≡ s.kind) → (suc k < s.kind) ⊎ ((suc k ≡ s.kind) × (1 ≤ s.item))
      go (inr (e, l)) d = absurd (over n s o e)
      go (inl l) (yes e) = inr (e, item-some h s.kind s.item (fits-item o))
      go (inl l) (no e) = inl (omega arith)

  -- The next kind is reached where the kind is over.
  pub reached_next : (k i : ℕ) → KindOver k i → (bytes : List ℕ) (at line : ℕ) → Reached h k i bytes at line → Reached h (suc k) 1 bytes at line
  reached_next k i over bytes at line r = record { size = r.size; low = r.low; small = r.small; some = r.some; order = order-over k i over (sums_at bytes at line) r.order }

  pub order-counted : {k i n : ℕ} (ss : List SumLine) → SumsInOrder h package_limits k i n ss → Counted n ss
  order-counted [] no_sums = uncounted
  order-counted (s ∷ ss) (sum_then o os) = counted o.numbered (order-counted ss os)
