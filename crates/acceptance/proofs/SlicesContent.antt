-- What the reader's slices hold of a package that was read: its terms are well formed, the items' parts rise, and the polynomials by number are
-- the package's relations and basis.
use mathlib.Core.Path.{◌≡◌, refl, sym, ◌∙◌, ap, ap₂}
use mathlib.Core.Bool.{Bool, true, false, false≢true}
use mathlib.Core.List.{List, [], ◌∷◌}
use Prim.Native.Nat.{ℕ, zero, suc, ◌+◌, ◌-◌, ◌≤◌, ◌<◌}
use native.Mathlib.Decide.{ℕ_discrete, dec_lt}
use native.Mathlib.Numerals.{add-one, one-add}
use native.Mathlib.Omega.{arith}
use lib.Dec.{eqb, ltb}
use lib.ListN.{length, get_or, take, drop, length-take, length-drop}
use lib.Seq.{get_or-take, get_or-drop, ext_get_or}
use borrow.Author.Tests.{eq-eqb, ne_eqb, ltb-false, lt-ltb, le-ltb}
use Rattle.std.specs.Prelude.{Ok}
use Rattle.lists.specs.All.{All, done, ◌also◌}
use Rattle.lists.proofs.Every.{all_at}
use Rattle.lists.proofs.Entries.{part_at}
use Rattle.text.specs.Bytes.{within}
use Rattle.text.specs.Pieces.{part}
use Rattle.text.proofs.Bytewise.{within_in}
use Rattle.package.specs.Names.{term_g, term_b}
use Rattle.package.specs.declared.Head.{Head}
use Rattle.package.specs.declared.Limits.{Limits}
use Rattle.package.specs.Held.{held_term, held_terms, seen_all, WordsInside, StartsMarked}
use Rattle.package.specs.Items.{slot, slots_of, first_of, item_terms}
use Rattle.package.specs.Package.{Package, read_package, package_limits}
use Rattle.package.specs.Readable.{under, TermsInOrder, no_terms, term_then, Readable}
use Rattle.package.specs.Terms.{TermLine, LineAbove, start, items_of, counted, has_room}
use Rattle.package.proofs.ItemStarts.{slots_kept}
use Rattle.package.proofs.TermSlices.{kept-length}
use Rattle.package.proofs.ReadingFacts.{kept_at, whole_package, whole-readable, whole_item}
use Rattle.working.specs.Polynomial.{poly_term}
use Rattle.working.specs.Family.{between, poly_between, family_at, Terms, Runs}
use Rattle.working.proofs.Terms.{terms-length, terms_at}
use Rattle.working.proofs.Between.{between-length}
use Rattle.acceptance.specs.Content.{terms_of, polynomial, polynomials, relations, basis}
use Rattle.acceptance.proofs.LineFacts.{TermBounds, term-bounds}
use Rattle.acceptance.proofs.ReadableContent.{item_here, item_other, is_item, Past, past-none, passed}

-- every term line of a readable package is in bounds
terms_bounded : (h : Head) (m : Limits) {a : LineAbove} {n : ℕ} (ts : List TermLine) → TermsInOrder h m a n ts
    → All (λ t. TermBounds h m t.kind t.item t.coef t.word) ts
terms_bounded h m [] no_terms = done
terms_bounded h m {a = a} (t ∷ ts) (term_then o os) =
    term-bounds h m t.kind t.item t.coef t.word o.fits also terms_bounded h m {a = under a t} ts os

-- an item's start is no later than the next one's, and neither is past the end
first_rises : (j : ℕ) (xs : List ℕ) → first_of j xs ≤ first_of (suc j) xs
unfolding first_of
first_rises j [] = omega arith
first_rises j (x ∷ xs) = go (dec_lt x j) (first_rises j xs)
  where
    go : Dec (x < j) → first_of j xs ≤ first_of (suc j) xs → first_of j (x ∷ xs) ≤ first_of (suc j) (x ∷ xs)
    go (yes l) r = let m : x < suc j = omega arith in rw (first_of, lt-ltb x j l, lt-ltb x (suc j) m) (omega arith)
    go (no l) r = let m : j ≤ x = omega arith in let e : first_of j (x ∷ xs) ≡ 0 = rw (first_of, le-ltb x j m) in omega arith

first-most : (j : ℕ) (xs : List ℕ) → first_of j xs ≤ length xs
unfolding first_of
first-most j [] = omega arith
first-most j (x ∷ xs) = go (dec_lt x j) (first-most j xs)
  where
    go : Dec (x < j) → first_of j xs ≤ length xs → first_of j (x ∷ xs) ≤ suc (length xs)
    go (yes l) r = let e : first_of j (x ∷ xs) ≡ suc (first_of j xs) = rw (first_of, lt-ltb x j l) in omega arith
    go (no l) r = let m : j ≤ x = omega arith in let e : first_of j (x ∷ xs) ≡ 0 = rw (first_of, le-ltb x j m) in omega arith

slots_length : (h : Head) (ts : List TermLine) → length (slots_of h ts) ≡ length ts
unfolding slots_of
slots_length h [] = refl
slots_length h (t ∷ ts) = ap suc (slots_length h ts)

module _ (k i : ℕ) (h : Head) (m : Limits) where
  -- how many terms of the item there are up to the line above
  so_far : LineAbove → ℕ
  so_far a = elim (eqb a.kind k) [ false ↦ 0 | true ↦ elim (eqb a.item i) [ false ↦ 0 | true ↦ a.count ] ]

  so_far_here : (a : LineAbove) → a.kind ≡ k → a.item ≡ i → so_far a ≡ a.count
  unfolding so_far
  so_far_here a x y = rw (so_far, eq-eqb a.kind k x, eq-eqb a.item i y)

  so_far_other : (a : LineAbove) → ((a.kind ≡ k) × (a.item ≡ i) → ⊥) → so_far a ≡ 0
  unfolding so_far
  so_far_other a n = go (ℕ_discrete a.kind k) (ℕ_discrete a.item i)
    where
      go : Dec (a.kind ≡ k) → Dec (a.item ≡ i) → so_far a ≡ 0
      go (yes x) (yes y) = absurd (n (x, y))
      go (yes x) (no y) = rw (so_far, eq-eqb a.kind k x, ne_eqb a.item i y)
      go (no x) d = rw (so_far, ne_eqb a.kind k x)

  above_is : (a : LineAbove) → Dec ((a.kind ≡ k) × (a.item ≡ i))
  above_is a = go (ℕ_discrete a.kind k) (ℕ_discrete a.item i)
    where
      go : Dec (a.kind ≡ k) → Dec (a.item ≡ i) → Dec ((a.kind ≡ k) × (a.item ≡ i))
      go (yes x) (yes y) = yes (x, y)
      go (yes x) (no y) = no (λ e. y e.1)
      go (no x) d = no (λ e. x e.0)

  counted_here : (a : LineAbove) (t : TermLine) → t.kind ≡ k → t.item ≡ i → counted a t.kind t.item ≡ so_far a + 1
  unfolding counted
  counted_here a t x y = go (above_is a)
    where
      go : Dec ((a.kind ≡ k) × (a.item ≡ i)) → counted a t.kind t.item ≡ so_far a + 1
      go (yes e) =
          let u : t.kind ≡ a.kind = x ∙ sym e.0 in
          let v : t.item ≡ a.item = y ∙ sym e.1 in
          let w = so_far_here a e.0 e.1 in
          rw (counted, eq-eqb t.kind a.kind u, eq-eqb t.item a.item v) (omega arith)
      go (no e) = by (ℕ_discrete t.kind a.kind) (ℕ_discrete t.item a.item) (so_far_other a e)
        where
          by : Dec (t.kind ≡ a.kind) → Dec (t.item ≡ a.item) → so_far a ≡ 0 → counted a t.kind t.item ≡ so_far a + 1
          by (yes u) (yes v) z = absurd (e (sym u ∙ x, sym v ∙ y))
          by (yes u) (no v) z = rw (counted, eq-eqb t.kind a.kind u, ne_eqb t.item a.item v) (omega arith)
          by (no u) d z = rw (counted, ne_eqb t.kind a.kind u) (omega arith)

  room-count : (a : LineAbove) (n : ℕ) (t : TermLine) → has_room m a n t.kind t.item ≡ true → counted a t.kind t.item ≤ m.terms
  unfolding has_room
  room-count a n t e = go (ltb m.terms (counted a t.kind t.item)) refl e
    where
      go : (b : Bool) → ltb m.terms (counted a t.kind t.item) ≡ b → ◌≡◌ {A = Bool} (elim b [ true ↦ false | false ↦ ltb n 1024 ]) true
          → counted a t.kind t.item ≤ m.terms
      go true x e = absurd (false≢true e)
      go false x e = ltb-false m.terms (counted a t.kind t.item) x

  so_start : so_far start ≤ m.terms
  unfolding so_far start
  so_start = go (eqb 0 k) (eqb 0 i)
    where
      go : (b c : Bool) → elim b [ false ↦ 0 | true ↦ elim c [ false ↦ 0 | true ↦ 0 ] ] ≤ m.terms
      go false c = omega arith
      go true false = omega arith
      go true true = omega arith

  -- an item has at most as many terms as a polynomial may have
  items-few : {a : LineAbove} {n : ℕ} (ts : List TermLine) → TermsInOrder h m a n ts → so_far a ≤ m.terms → so_far a + length (item_terms k i ts) ≤ m.terms
  unfolding item_terms
  items-few [] no_terms l = omega arith
  items-few {a} {n} (t ∷ ts) (term_then o os) l = go (is_item k i t) (items-few {a = under a t} ts os) (past-none k i h m {a = under a t} ts os)
    where
      go : Dec ((t.kind ≡ k) × (t.item ≡ i)) → (so_far (under a t) ≤ m.terms → so_far (under a t) + length (item_terms k i ts) ≤ m.terms)
          → (Past k i (under a t) → item_terms k i ts ≡ []) → so_far a + length (item_terms k i (t ∷ ts)) ≤ m.terms
      go (yes e) more none =
          let c = counted_here a t e.0 e.1 in
          let d = so_far_here (under a t) e.0 e.1 in
          let f = room-count a n t o.room in
          let g = more (omega arith) in
          rw (item_here k i t ts e.0 e.1) (omega arith)
      go (no e) more none = rw (item_other k i t ts e) (by (above_is a))
        where
          by : Dec ((a.kind ≡ k) × (a.item ≡ i)) → so_far a + length (item_terms k i ts) ≤ m.terms
          by (yes f) = let x = none (passed k i h m a n t o f.0 f.1 e) in let y = ap length x in omega arith
          by (no f) =
              let z = so_far_other a f in
              let w = so_far_other (under a t) e in
              let g = more (omega arith) in
              omega arith

terms_of_length : (ts : List TermLine) → length (terms_of ts) ≡ length ts
unfolding terms_of
terms_of_length [] = refl
terms_of_length (t ∷ ts) = ap suc (terms_of_length ts)

terms_of_at : (ts : List TermLine) (j : ℕ) (d : TermLine) → get_or (terms_of ts) j (record { coef = d.coef; word = d.word }) ≡ record { coef = (get_or ts j d).coef; word = (get_or ts j d).word }
unfolding terms_of
terms_of_at [] j d = refl
terms_of_at (t ∷ ts) zero d = refl
terms_of_at (t ∷ ts) (suc j) d = terms_of_at ts j d

-- What a caller of the reader knows of a package that was read.
module _ (s ks is cs os ls fs : List ℕ) (h : Head) (m at n : ℕ) (e : seen_all s ks is cs os ls (Ok (record { head = h; terms = m; at = at; line = n })) ≡ read_package s)
    (marked : StartsMarked h ks is m fs) (inside : WordsInside s os ls m) (lc : m ≤ length cs) (lo : m ≤ length os) (ll : m ≤ length ls) (lf : h.gens + h.basis + 1 < length fs) where
  abbrev P : Package
  P = whole_package s ks is cs os ls h m at n

  readable : Readable P
  readable = whole-readable s ks is cs os ls h m at n e

  bound_at : (i : ℕ) → i < m → TermBounds h package_limits (get_or ks i 0) (get_or is i 0) (get_or cs i 0) (part s (get_or os i 0) (get_or ls i 0))
  bound_at i l =
      let k = kept-length s ks is cs os ls m in
      let d = held_term s ks is cs os ls 0 in
      let b = all_at (terms_bounded h package_limits (held_terms s ks is cs os ls m) readable.terms) d i (omega arith) in
      rw (kept_at s ks is cs os ls d m i l) at b

  -- the terms are well formed
  pub slices_terms : Terms h.p cs os ls s m
  slices_terms = record {
    coefs_hold = lc;
    starts_hold = lo;
    lens_hold = ll;
    small = λ i l. (bound_at i l).small;
    inside = inside;
    short = λ i l. let b = (bound_at i l).short in let q = inside i l in omega (arith, length-take (get_or ls i 0) (drop (get_or os i 0) s), length-drop (get_or os i 0) s);
  }

  abbrev whole : List TermLine
  whole = held_terms s ks is cs os ls m

  -- where the terms of item number j start
  mark : (j : ℕ) → j < h.gens + h.basis + 2 → get_or fs j 0 ≡ first_of j (slots_of h whole)
  mark j l = marked j l ∙ ap (first_of j) (sym (slots_kept h s ks is cs os ls m))

  mark-most : (j : ℕ) → j < h.gens + h.basis + 2 → get_or fs j 0 ≤ m
  mark-most j l = omega (arith, mark j l, first-most j (slots_of h whole), slots_length h whole, kept-length s ks is cs os ls m)

  mark_rises : (j : ℕ) → suc j < h.gens + h.basis + 2 → get_or fs j 0 ≤ get_or fs (suc j) 0
  mark_rises j l = omega (arith, mark j (omega arith), mark (suc j) l, first_rises j (slots_of h whole))

  -- a part of the slices holds the terms of a part of the term lines
  part-terms : (a b : ℕ) → a ≤ b → b ≤ m → poly_between cs os ls s a b ≡ terms_of (take (b - a) (drop a whole))
  part-terms a b l k =
      let d = held_term s ks is cs os ls 0 in
      let lc' = between-length cs a b l (omega arith) in
      let n₁ = terms-length (poly_term (between cs a b) (between os a b) (between ls a b) s) 0 (length (between cs a b)) in
      let n₂ = terms_of_length (take (b - a) (drop a whole)) in
      let n₃ = length-take (b - a) (drop a whole) in
      let n₄ = length-drop a whole in
      let n₅ = kept-length s ks is cs os ls m in
      ext_get_or (record { coef = d.coef; word = d.word }) (poly_between cs os ls s a b) (terms_of (take (b - a) (drop a whole))) (omega arith)
      (λ j q. same j (omega arith) d)
    where
      same : (j : ℕ) → j < b - a → (d : TermLine)
          → get_or (poly_between cs os ls s a b) j (record { coef = d.coef; word = d.word }) ≡ get_or (terms_of (take (b - a) (drop a whole))) j (record { coef = d.coef; word = d.word })
      same j q d =
          let lc' = between-length cs a b l (omega arith) in
          let x : get_or (take (b - a) (drop a whole)) j d ≡ held_term s ks is cs os ls (a + j) =
          get_or-take (b - a) (drop a whole) j d q ∙ get_or-drop a whole j d ∙ kept_at s ks is cs os ls d m (a + j) (omega arith) in
          terms_at (poly_term (between cs a b) (between os a b) (between ls a b) s) (length (between cs a b)) j (record { coef = d.coef; word = d.word }) (omega arith)
          ∙ rw (part_at cs a (b - a) j q, part_at os a (b - a) j q, part_at ls a (b - a) j q) (sym (terms_of_at (take (b - a) (drop a whole)) j d ∙ rw x))

  module _ (k base count : ℕ) (kind : within 1 2 k ≡ true) (items : items_of h k ≡ count) (slots : (g : ℕ) → g < count → slot h k (suc g) ≡ base + g)
      (all : base + count < h.gens + h.basis + 2) where
    item_in : (g : ℕ) → g < count → within 1 (items_of h k) (suc g) ≡ true
    item_in g l = within_in 1 (items_of h k) (suc g) (omega arith) (omega arith)

    -- the terms of item g + 1 stand from its mark up to the next
    item-part : (g : ℕ) → g < count → take (get_or fs (base + g + 1) 0 - get_or fs (base + g) 0) (drop (get_or fs (base + g) 0) whole) ≡ item_terms k (suc g) whole
    item-part g l = rw (slots g l, ← add-one) at (whole_item s ks is cs os ls h m at n e fs marked k (suc g) kind (item_in g l))

    runs : Runs fs base count m
    runs = record {
      marks = omega arith;
      rising = λ g l. rw (add-one (base + g)) (mark_rises (base + g) (omega arith));
      most = λ g l. mark-most (base + g + 1) (omega arith);
      few = few;
    }
      where
        few : (g : ℕ) → g < count → get_or fs (base + g + 1) 0 ≤ get_or fs (base + g) 0 + 48
        few g l =
            let a = get_or fs (base + g) 0 in
            let b = get_or fs (base + g + 1) 0 in
            let x = items-few k (suc g) h package_limits whole readable.terms (so_start k (suc g) h package_limits) in
            let y = ap length (item-part g l) in
            let n₁ = length-take (b - a) (drop a whole) in
            let n₂ = length-drop a whole in
            let n₃ = kept-length s ks is cs os ls m in
            let z = mark-most (base + g + 1) (omega arith) in
            omega arith

    item-held : (g : ℕ) → g < count → poly_between cs os ls s (get_or fs (base + g) 0) (get_or fs (suc (base + g)) 0) ≡ polynomial k (suc g) whole
    unfolding polynomial
    item-held g l =
        part-terms (get_or fs (base + g) 0) (get_or fs (suc (base + g)) 0) (mark_rises (base + g) (omega arith)) (mark-most (suc (base + g)) (omega arith))
        ∙ ap terms_of (rw add-one at (item-part g l))

    -- the polynomials by number are the package's
    family_is : (g c : ℕ) → g + c ≡ count → family_at cs os ls s fs (base + g) c ≡ polynomials k whole (suc g) c
    unfolding family_at polynomials
    family_is g zero q = refl
    family_is g (suc c) q =
        let z : suc (base + g) ≡ base + suc g = omega arith in
        ap₂ ◌∷◌ (item-held g (omega arith)) (ap (λ (j : ℕ). family_at cs os ls s fs j c) z ∙ family_is (suc g) c (omega arith))

  relation_slots : (g : ℕ) → g < h.gens → slot h term_g (suc g) ≡ 1 + g
  unfolding slot
  relation_slots g l = sym (one-add g)

  basis_slots : (g : ℕ) → g < h.basis → slot h term_b (suc g) ≡ h.gens + 1 + g
  unfolding slot
  basis_slots g l = omega arith

  relation_items : items_of h term_g ≡ h.gens
  unfolding items_of
  relation_items = refl

  basis-items : items_of h term_b ≡ h.basis
  unfolding items_of
  basis-items = refl

  pub relations-run : Runs fs 1 h.gens m
  relations-run = runs term_g 1 h.gens (within_in 1 2 term_g (omega arith) (omega arith)) relation_items relation_slots (omega arith)

  pub basis-run : Runs fs (h.gens + 1) h.basis m
  basis-run = runs term_b (h.gens + 1) h.basis (within_in 1 2 term_b (omega arith) (omega arith)) basis-items basis_slots (omega arith)

  pub relations-held : family_at cs os ls s fs 1 h.gens ≡ relations P
  unfolding relations
  relations-held = family_is term_g 1 h.gens (within_in 1 2 term_g (omega arith) (omega arith)) relation_items relation_slots (omega arith) 0 h.gens (omega arith)

  pub basis-held : family_at cs os ls s fs (h.gens + 1) h.basis ≡ basis P
  unfolding basis
  basis-held =
      let z : h.gens + 1 + 0 ≡ h.gens + 1 = omega arith in
      ap (λ (j : ℕ). family_at cs os ls s fs j h.basis) (sym z)
      ∙ family_is term_b (h.gens + 1) h.basis (within_in 1 2 term_b (omega arith) (omega arith)) basis-items basis_slots (omega arith) 0 h.basis (omega arith)
