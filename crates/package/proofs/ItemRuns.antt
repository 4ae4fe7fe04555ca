-- The terms of an item stand together: they are those from where the item starts up to where the next one starts.
use mathlib.Core.Path.{◌≡◌, refl, sym, ap, ◌∙◌}
use mathlib.Core.Bool.{Bool, true, false, false≢true}
use mathlib.Core.Logic.{◌⊎◌, inl, inr}
use mathlib.Core.List.{List, [], ◌∷◌}
use Prim.Native.Nat.{ℕ, zero, suc, ◌+◌, ◌-◌, ◌≤◌, ◌<◌}
use native.Mathlib.Omega.{arith}
use native.Mathlib.Decide.{ℕ_discrete, dec_lt}
use lib.Dec.{ltb, eqb}
use lib.ListN.{take}
use borrow.Author.Tests.{lt-ltb, le-ltb, eq-eqb, ne_eqb, ltb-true, eqb-true}
use Rattle.package.specs.Bounds.{coef_fits, word_fits_of}
use Rattle.words.specs.Below.{is_below}
use Rattle.package.specs.Items.{slot, slots_of, first_of, item_run, item_terms}
use Rattle.package.specs.Names.{term_g, term_b}
use Rattle.package.specs.Package.{Package, package_limits}
use Rattle.package.specs.Readable.{under, TermsInOrder, no_terms, term_then, Readable}
use Rattle.package.specs.Terms.{TermLine, items_of, term_fits, LineAbove, start, follows}
use Rattle.package.specs.declared.Head.{Head}
use Rattle.package.specs.declared.Limits.{Limits}
use Rattle.text.proofs.Bytewise.{within-bounds}
use Rattle.text.specs.Bytes.{within}

-- Numbers that do not fall, from b on.
data Rising : ℕ → List ℕ → Type 0 where
  ends : {b : ℕ} → Rising b []
  rises : {b x : ℕ} {xs : List ℕ} → b ≤ x → Rising x xs → Rising b (x ∷ xs)

-- The terms of item number j.
numbered : Head → ℕ → List TermLine → List TermLine
numbered h j [] = []
numbered h j (t ∷ ts) = elim (eqb (slot h t.kind t.item) j) [ true ↦ t ∷ numbered h j ts | false ↦ numbered h j ts ]

-- In rising numbers, item j's are those behind the lower ones and before the higher ones.
first-none : (j b : ℕ) (xs : List ℕ) → j ≤ b → Rising b xs → first_of j xs ≡ 0
unfolding first_of
first-none j b [] l ends = refl
first-none j b (x ∷ xs) l (rises m r) = rw (first_of, le-ltb x j (omega arith))

numbered-none : (h : Head) (j b : ℕ) (ts : List TermLine) → j < b → Rising b (slots_of h ts) → numbered h j ts ≡ []
unfolding numbered slots_of
numbered-none h j b [] l ends = refl
numbered-none h j b (t ∷ ts) l (rises m r) =
    rw (numbered, ne_eqb (slot h t.kind t.item) j (λ (e : slot h t.kind t.item ≡ j). omega arith))
    (numbered-none h j (slot h t.kind t.item) ts (omega arith) r)

run-numbered : (h : Head) (j b : ℕ) (ts : List TermLine) → Rising b (slots_of h ts) → item_run h j ts ≡ numbered h j ts
unfolding slots_of numbered first_of
run-numbered h j b [] r = refl
run-numbered h j b (t ∷ ts) (rises m r) = go (dec_lt (slot h t.kind t.item) j) (ℕ_discrete (slot h t.kind t.item) j)
    (run-numbered h j (slot h t.kind t.item) ts r)
  where
    go : Dec ((slot h t.kind t.item) < j) → Dec ((slot h t.kind t.item) ≡ j) → item_run h j ts ≡ numbered h j ts → item_run h j (t ∷ ts) ≡ numbered h j (t ∷ ts)
    go (yes l) d ih =
        let a : first_of j ((slot h t.kind t.item) ∷ (slots_of h ts)) ≡ suc (first_of j (slots_of h ts)) = rw (first_of, lt-ltb (slot h t.kind t.item) j l) in
        let c : first_of (suc j) ((slot h t.kind t.item) ∷ (slots_of h ts)) ≡ suc (first_of (suc j) (slots_of h ts)) = rw
        (first_of, lt-ltb (slot h t.kind t.item) (suc j) (omega arith)) in
        let z : suc (first_of (suc j) (slots_of h ts)) - suc (first_of j (slots_of h ts)) ≡ first_of (suc j) (slots_of h ts) - first_of j (slots_of h ts) = omega arith in
        rw (a, c, z, numbered, ne_eqb (slot h t.kind t.item) j (λ (e : (slot h t.kind t.item) ≡ j). omega arith)) ih
    go (no l) (yes e) ih =
        let a : first_of j ((slot h t.kind t.item) ∷ (slots_of h ts)) ≡ 0 = rw (first_of, le-ltb (slot h t.kind t.item) j (omega arith)) in
        let c : first_of (suc j) ((slot h t.kind t.item) ∷ (slots_of h ts)) ≡ suc (first_of (suc j) (slots_of h ts)) = rw
        (first_of, lt-ltb (slot h t.kind t.item) (suc j) (omega arith)) in
        let n : first_of j (slots_of h ts) ≡ 0 = first-none j (slot h t.kind t.item) (slots_of h ts) (omega arith) r in
        let z : first_of (suc j) (slots_of h ts) - 0 ≡ first_of (suc j) (slots_of h ts) = omega arith in
        let y : suc (first_of (suc j) (slots_of h ts)) - 0 ≡ suc (first_of (suc j) (slots_of h ts)) = omega arith in
        let ih' : take (first_of (suc j) (slots_of h ts)) ts ≡ numbered h j ts = rw (n, z) at ih in
        rw (a, c, y, numbered, eq-eqb (slot h t.kind t.item) j e) (ap (λ (q : List TermLine). t ∷ q) ih')
    go (no l) (no e) ih =
        let a : first_of j ((slot h t.kind t.item) ∷ (slots_of h ts)) ≡ 0 = rw (first_of, le-ltb (slot h t.kind t.item) j (omega arith)) in
        let c : first_of (suc j) ((slot h t.kind t.item) ∷ (slots_of h ts)) ≡ 0 = rw (first_of, le-ltb (slot h t.kind t.item) (suc j) (omega arith)) in
        let z : 0 - 0 ≡ 0 = omega arith in
        rw (a, c, numbered, ne_eqb (slot h t.kind t.item) j e) (sym (numbered-none h j (slot h t.kind t.item) ts (omega arith) r))

-- Kinds and items in range: the kind is G or B, and the item one of its kind.
record InRange (h : Head) (k i : ℕ) : Type 0 where
  low : term_g ≤ k
  high : k ≤ term_b
  first : 1 ≤ i
  last : i ≤ items_of h k

in_range : (h : Head) (lim : Limits) (k i c : ℕ) (w : List ℕ) → within term_g term_b k ≡ true → term_fits h lim k i c w ≡ true → InRange h k i
unfolding term_fits
in_range h lim k i c w r = go (within 1 (items_of h k) i) refl
  where
    go : (t : Bool) → within 1 (items_of h k) i ≡ t → ◌≡◌ {A = Bool}
        (elim t [ false ↦ false | true ↦ elim (coef_fits h.p c) [ false ↦ false | true ↦ word_fits_of lim.len h.letters w ] ]) true → InRange h k i
    go false e q = absurd (false≢true q)
    go true e q =
        let a = within-bounds term_g term_b k r in
        let b = within-bounds 1 (items_of h k) i e in
        record { low = a.0; high = a.1; first = b.0; last = b.1 }

slot_relation : (h : Head) (i : ℕ) → slot h term_g i ≡ i
unfolding slot
slot_relation h i = refl

slot-basis : (h : Head) (i : ℕ) → slot h term_b i ≡ h.gens + i
unfolding slot
slot-basis h i = refl

relation_items : (h : Head) → items_of h term_g ≡ h.gens
unfolding items_of
relation_items h = refl

relation_or_basis : (k : ℕ) → term_g ≤ k → k ≤ term_b → (k ≡ term_g) ⊎ (k ≡ term_b)
relation_or_basis zero l u = absurd (omega arith)
relation_or_basis (suc zero) l u = inl refl
relation_or_basis (suc (suc zero)) l u = inr refl
relation_or_basis (suc (suc (suc k))) l u = absurd (omega arith)

basis-items : (h : Head) → items_of h term_b ≡ h.basis
unfolding items_of
basis-items h = refl

-- No item has a number above that of the last one.
pub slot-most : (h : Head) (k i : ℕ) → within term_g term_b k ≡ true → within 1 (items_of h k) i ≡ true → slot h k i ≤ h.gens + h.basis
slot-most h k i a b = go (relation_or_basis k (within-bounds term_g term_b k a).0 (within-bounds term_g term_b k a).1) (within-bounds 1 (items_of h k) i b).1
  where
    go : (k ≡ term_g) ⊎ (k ≡ term_b) → i ≤ items_of h k → slot h k i ≤ h.gens + h.basis
    go (inl p) l = let z : i ≤ h.gens = rw (p, relation_items) at l in rw (p, slot_relation) (omega arith)
    go (inr p) l = let z : i ≤ h.basis = rw (p, basis-items) at l in rw (p, slot-basis) (omega arith)

-- Items are numbered in the order of kinds and items.
slot-order : (h : Head) (k i k' i' : ℕ) → InRange h k i → InRange h k' i' → ((k < k') ⊎ ((k ≡ k') × (i ≤ i'))) → slot h k i ≤ slot h k' i'
slot-order h k i k' i' a b o = go (relation_or_basis k a.low a.high) (relation_or_basis k' b.low b.high) o
  where
    go : (k ≡ term_g) ⊎ (k ≡ term_b) → (k' ≡ term_g) ⊎ (k' ≡ term_b) → ((k < k') ⊎ ((k ≡ k') × (i ≤ i'))) → slot h k i ≤ slot h k' i'
    go (inl p) (inl q) (inl l) = absurd (omega arith)
    go (inl p) (inl q) (inr l) = rw (p, q, slot_relation, slot_relation) l.1
    go (inl p) (inr q) o =
        let z : i ≤ h.gens = rw (p, relation_items) at a.last in
        rw (p, q, slot_relation, slot-basis) (omega arith)
    go (inr p) (inl q) (inl l) = absurd (omega arith)
    go (inr p) (inl q) (inr l) = absurd (omega (arith, l.0))
    go (inr p) (inr q) (inl l) = absurd (omega arith)
    go (inr p) (inr q) (inr l) = let z = l.1 in rw (p, q, slot-basis, slot-basis) (omega arith)

-- No two items have one number.
slot-own : (h : Head) (k i k' i' : ℕ) → InRange h k i → InRange h k' i' → slot h k i ≡ slot h k' i' → (k ≡ k') × (i ≡ i')
slot-own h k i k' i' a b e = go (relation_or_basis k a.low a.high) (relation_or_basis k' b.low b.high)
  where
    go : (k ≡ term_g) ⊎ (k ≡ term_b) → (k' ≡ term_g) ⊎ (k' ≡ term_b) → (k ≡ k') × (i ≡ i')
    go (inl p) (inl q) = (p ∙ sym q, rw (p, q, slot_relation, slot_relation) at e)
    go (inl p) (inr q) =
        let z : i ≤ h.gens = rw (p, relation_items) at a.last in
        let y : i ≡ h.gens + i' = rw (p, q, slot_relation, slot-basis) at e in
        let f = b.first in
        absurd (omega arith)
    go (inr p) (inl q) =
        let z : i' ≤ h.gens = rw (q, relation_items) at b.last in
        let y : h.gens + i ≡ i' = rw (p, q, slot-basis, slot_relation) at e in
        let f = a.first in
        absurd (omega arith)
    go (inr p) (inr q) =
        let y : h.gens + i ≡ h.gens + i' = rw (p, q, slot-basis, slot-basis) at e in
        (p ∙ sym q, omega arith)

-- A line that follows has no lower kind, and in one kind no lower item.
follows-order : (a : LineAbove) (k i : ℕ) (w : List ℕ) → follows a k i w ≡ true → (a.kind < k) ⊎ ((a.kind ≡ k) × (a.item ≤ i))
unfolding follows
follows-order a k i w = go (eqb k a.kind) (eqb i a.item) refl refl
  where
    go : (t u : Bool) → eqb k a.kind ≡ t → eqb i a.item ≡ u
        → ◌≡◌ {A = Bool} (elim t [ false ↦ ltb a.kind k | true ↦ elim u [ false ↦ ltb a.item i | true ↦ is_below w a.word ] ]) true →
        (a.kind < k) ⊎ ((a.kind ≡ k) × (a.item ≤ i))
    go false u p q e = inl (ltb-true a.kind k e)
    go true false p q e = inr (sym (eqb-true k a.kind p), omega (arith, ltb-true a.item i e))
    go true true p q e = inr (sym (eqb-true k a.kind p), omega (arith, eqb-true i a.item q))

-- The numbers of terms in order do not fall.
module _ (h : Head) (lim : Limits) where
  rising : (a : LineAbove) (n : ℕ) (ts : List TermLine) → InRange h a.kind a.item → TermsInOrder h lim a n ts → Rising (slot h a.kind a.item) (slots_of h ts)
  unfolding slots_of
  rising a n [] r no_terms = ends
  rising a n (t ∷ ts) r (term_then o os) =
      let q = in_range h lim t.kind t.item t.coef t.word o.ranked o.fits in
      rises (slot-order h a.kind a.item t.kind t.item r q (follows-order a t.kind t.item t.word o.order)) (rising (under a t) (suc n) ts q os)

  rising-start : (ts : List TermLine) → TermsInOrder h lim start 0 ts → Rising 0 (slots_of h ts)
  unfolding slots_of
  rising-start [] no_terms = ends
  rising-start (t ∷ ts) (term_then o os) =
      rises {b = 0} {x = slot h t.kind t.item} (omega arith)
      (rising (under start t) 1 ts (in_range h lim t.kind t.item t.coef t.word o.ranked o.fits) os)

  -- In range, the terms of an item are those of its number.
  module _ (k i : ℕ) (r : InRange h k i) where
    numbered-item : (a : LineAbove) (n : ℕ) (ts : List TermLine) → TermsInOrder h lim a n ts → numbered h (slot h k i) ts ≡ item_terms k i ts
    unfolding numbered item_terms
    numbered-item a n [] no_terms = refl
    numbered-item a n (t ∷ ts) (term_then o os) =
        go (ℕ_discrete t.kind k) (ℕ_discrete t.item i) (in_range h lim t.kind t.item t.coef t.word o.ranked o.fits)
        (numbered-item (under a t) (suc n) ts os)
      where
        go : Dec (t.kind ≡ k) → Dec (t.item ≡ i) → InRange h t.kind t.item → numbered h (slot h k i) ts ≡ item_terms k i ts → numbered h
            (slot h k i) (t ∷ ts) ≡ item_terms k i (t ∷ ts)
        go (yes p) (yes q) s ih =
            let e : slot h t.kind t.item ≡ slot h k i = rw (p, q) in
            rw (numbered, eq-eqb (slot h t.kind t.item) (slot h k i) e, item_terms, eq-eqb t.kind k p, eq-eqb t.item i q, ih)
        go (yes p) (no q) s ih =
            let d : slot h t.kind t.item ≡ slot h k i → ⊥ = λ e. q (slot-own h t.kind t.item k i s r e).1 in
            rw (numbered, ne_eqb (slot h t.kind t.item) (slot h k i) d, item_terms, eq-eqb t.kind k p, ne_eqb t.item i q) ih
        go (no p) d s ih =
            let z : slot h t.kind t.item ≡ slot h k i → ⊥ = λ e. p (slot-own h t.kind t.item k i s r e).0 in
            rw (numbered, ne_eqb (slot h t.kind t.item) (slot h k i) z, item_terms, ne_eqb t.kind k p) ih

-- The theorem: in a readable package the terms of item i of a kind are those from where it starts to where the next item starts.
pub item-run : (P : Package) → Readable P → (k i : ℕ) → within term_g term_b k ≡ true → within 1 (items_of P.head k) i ≡ true
    → item_run P.head (slot P.head k i) P.terms ≡ item_terms k i P.terms
item-run P r k i a b =
    let x = within-bounds term_g term_b k a in
    let y = within-bounds 1 (items_of P.head k) i b in
    let q : InRange P.head k i = record { low = x.0; high = x.1; first = y.0; last = y.1 } in
    run-numbered P.head (slot P.head k i) 0 P.terms (rising-start P.head package_limits P.terms r.terms)
    ∙ numbered-item P.head package_limits k i q start 0 P.terms r.terms
