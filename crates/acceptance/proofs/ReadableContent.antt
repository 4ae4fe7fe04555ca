-- What a package that reads holds: its polynomials are in written form and in its letters, and so are the words of its sum lines.
use mathlib.Core.Path.{◌≡◌, refl, ◌∙◌}
use mathlib.Core.Logic.{◌⊎◌, inl, inr}
use mathlib.Core.List.{List, [], ◌∷◌}
use Prim.Native.Nat.{ℕ, zero, suc, ◌<◌}
use native.Mathlib.Decide.{ℕ_discrete}
use native.Mathlib.Omega.{arith}
use borrow.Author.Tests.{eq-eqb, ne_eqb}
use Rattle.field.specs.Field.{Field, field_of}
use Rattle.field.proofs.Fields.{field_of-field, element_of}
use Rattle.lists.specs.All.{All, done, ◌also◌}
use Rattle.words.specs.Word.{Letter}
use Rattle.words.specs.Order.{Lt, word_order}
use Rattle.lists.proofs.Every.{all_map}
use Rattle.words.proofs.WordOrder.{word-order-admissible}
use Rattle.algebra.specs.Poly.{Poly, InLetters}
use Rattle.algebra.specs.Written as W
use Rattle.algebra.specs.Written.{Written}
use Rattle.algebra.specs.Ideal.{family, Over}
use Rattle.algebra.specs.Groebner.{Led}
use Rattle.algebra.proofs.WrittenForm.{written-led}
use Rattle.working.proofs.Families.{family-written}
use Rattle.package.specs.Names.{term_g, term_b}
use Rattle.package.specs.declared.Head.{Head}
use Rattle.package.specs.declared.Limits.{Limits}
use Rattle.package.specs.Items.{item_terms}
use Rattle.package.specs.Terms.{TermLine, LineAbove}
use Rattle.package.specs.Sums.{SumLine}
use Rattle.package.specs.Package.{Package, package_limits}
use Rattle.package.specs.Readable.{under, TermInOrder, TermsInOrder, no_terms, term_then, SumsInOrder, no_sums, sum_then, Readable}
use Rattle.package.proofs.FieldNumbers.{fits_iff, means_prime}
use Rattle.acceptance.specs.Content.{terms_of, polynomial, polynomials, relations, basis, line_of}
use Rattle.acceptance.proofs.LineFacts.{TermBounds, term-bounds, Follows, follows_is, sum-bounds}

module _ (k i : ℕ) where
  -- a term of the item goes to the polynomial, any other does not
  pub item_here : (t : TermLine) (ts : List TermLine) → t.kind ≡ k → t.item ≡ i → item_terms k i (t ∷ ts) ≡ t ∷ item_terms k i ts
  unfolding item_terms
  item_here t ts a b = rw (item_terms, eq-eqb t.kind k a, eq-eqb t.item i b)

  pub item_other : (t : TermLine) (ts : List TermLine) → ((t.kind ≡ k) × (t.item ≡ i) → ⊥) → item_terms k i (t ∷ ts) ≡ item_terms k i ts
  unfolding item_terms
  item_other t ts n = go (ℕ_discrete t.kind k) (ℕ_discrete t.item i)
    where
      go : Dec (t.kind ≡ k) → Dec (t.item ≡ i) → item_terms k i (t ∷ ts) ≡ item_terms k i ts
      go (yes a) (yes b) = absurd (n (a, b))
      go (yes a) (no b) = rw (item_terms, eq-eqb t.kind k a, ne_eqb t.item i b)
      go (no a) d = rw (item_terms, ne_eqb t.kind k a)

  pub is_item : (t : TermLine) → Dec ((t.kind ≡ k) × (t.item ≡ i))
  is_item t = go (ℕ_discrete t.kind k) (ℕ_discrete t.item i)
    where
      go : Dec (t.kind ≡ k) → Dec (t.item ≡ i) → Dec ((t.kind ≡ k) × (t.item ≡ i))
      go (yes a) (yes b) = yes (a, b)
      go (yes a) (no b) = no (λ h. b h.1)
      go (no a) d = no (λ h. a h.0)

  -- the line above is past the item
  abbrev pub Past : LineAbove → Type 0
  Past a = (k < a.kind) ⊎ ((k ≡ a.kind) × (i < a.item))

  module _ (h : Head) (m : Limits) where
    past-under : (a : LineAbove) (n : ℕ) (t : TermLine) → TermInOrder h m a n t → Past a → Past (under a t) × ((t.kind ≡ k) × (t.item ≡ i) → ⊥)
    past-under a n t o p = go p (follows_is a t.kind t.item t.word o.order)
      where
        go : (k < a.kind) ⊎ ((k ≡ a.kind) × (i < a.item)) → Follows a t.kind t.item t.word
            → ((k < t.kind) ⊎ ((k ≡ t.kind) × (i < t.item))) × ((t.kind ≡ k) × (t.item ≡ i) → ⊥)
        go (inl x) (inl y) = (inl (omega arith), λ e. let u = e.0 in omega arith)
        go (inl x) (inr (y, z)) = (inl (omega arith), λ e. let u = e.0 in omega arith)
        go (inr (x, u)) (inl y) = (inl (omega arith), λ e. let v = e.0 in omega arith)
        go (inr (x, u)) (inr (y, inl z)) = (inr (omega arith, omega arith), λ e. let v = e.1 in omega arith)
        go (inr (x, u)) (inr (y, inr (z, w))) = (inr (omega arith, omega arith), λ e. let v = e.1 in omega arith)

    -- behind a line past the item it has no term
    pub past-none : {a : LineAbove} {n : ℕ} (ts : List TermLine) → TermsInOrder h m a n ts → Past a → item_terms k i ts ≡ []
    unfolding item_terms
    past-none [] no_terms p = refl
    past-none {a} {n} (t ∷ ts) (term_then o os) p =
        let (q, e) = past-under a n t o p in
        item_other t ts e ∙ past-none {a = under a t} ts os q

    -- a line that is not of the item, behind one that is, is past it
    pub passed : (a : LineAbove) (n : ℕ) (t : TermLine) → TermInOrder h m a n t → a.kind ≡ k → a.item ≡ i → ((t.kind ≡ k) × (t.item ≡ i) → ⊥) → Past (under a t)
    passed a n t o x y e = go (follows_is a t.kind t.item t.word o.order)
      where
        go : Follows a t.kind t.item t.word → Past (under a t)
        go (inl u) = inl (omega arith)
        go (inr (u, inl z)) = inr (omega arith, omega arith)
        go (inr (u, inr (z, w))) = absurd (e (u ∙ x, z ∙ y))

    -- behind a line of the item its words are below that line's
    item-below : {a : LineAbove} {n : ℕ} (ts : List TermLine) → TermsInOrder h m a n ts → a.kind ≡ k → a.item ≡ i
        → All (λ s. Lt word_order s.word a.word) (terms_of (item_terms k i ts))
    unfolding terms_of item_terms
    item-below [] no_terms x y = done
    item-below {a} {n} (t ∷ ts) (term_then o os) x y = go (is_item t) (item-below {a = under a t} ts os) (past-none {a = under a t} ts os)
      where
        f : Follows a t.kind t.item t.word
        f = follows_is a t.kind t.item t.word o.order

        lower : (t.kind ≡ k) × (t.item ≡ i) → Follows a t.kind t.item t.word → Lt word_order t.word a.word
        lower e (inl u) = let v = e.0 in absurd (omega arith)
        lower e (inr (u, inl z)) = let v = e.1 in absurd (omega arith)
        lower e (inr (u, inr (z, w))) = w

        go : Dec ((t.kind ≡ k) × (t.item ≡ i))
            → (t.kind ≡ k → t.item ≡ i → All (λ s. Lt word_order s.word t.word) (terms_of (item_terms k i ts)))
            → (Past (under a t) → item_terms k i ts ≡ [])
            → All (λ s. Lt word_order s.word a.word) (terms_of (item_terms k i (t ∷ ts)))
        go (yes e) below none =
            let q = lower e f in
            rw (item_here t ts e.0 e.1) (q also all_map (λ s r. word-order-admissible.trans s.word t.word a.word r q) (below e.0 e.1))
        go (no e) below none = rw (item_other t ts e, none (passed a n t o x y e)) done

    -- an item's polynomial is in written form, and in the letters
    item-written : {a : LineAbove} {n : ℕ} (ts : List TermLine) → TermsInOrder h m a n ts
        → Written (field_of h.p) word_order (terms_of (item_terms k i ts)) × InLetters (Letter h.letters) (terms_of (item_terms k i ts))
    unfolding terms_of item_terms
    item-written [] no_terms = (W.zero, done)
    item-written {a} {n} (t ∷ ts) (term_then o os) = go (is_item t) (item-below {a = under a t} ts os) (item-written {a = under a t} ts os)
      where
        b : TermBounds h m t.kind t.item t.coef t.word
        b = term-bounds h m t.kind t.item t.coef t.word o.fits

        go : Dec ((t.kind ≡ k) × (t.item ≡ i))
            → (t.kind ≡ k → t.item ≡ i → All (λ s. Lt word_order s.word t.word) (terms_of (item_terms k i ts)))
            → Written (field_of h.p) word_order (terms_of (item_terms k i ts)) × InLetters (Letter h.letters) (terms_of (item_terms k i ts))
            → Written (field_of h.p) word_order (terms_of (item_terms k i (t ∷ ts))) × InLetters (Letter h.letters) (terms_of (item_terms k i (t ∷ ts)))
        go (yes e) below (w, l) =
            rw (item_here t ts e.0 e.1)
            (W.term {t = record { coef = t.coef; word = t.word }} (element_of h.p b.small) (λ z. let q = b.some in omega arith) (below e.0 e.1) w, b.letters also l)
        go (no e) below r = rw (item_other t ts e) r

-- polynomials of one kind have what each of them has
polynomials-all : (P : Poly → Type 0) (k : ℕ) (ts : List TermLine) → ((i : ℕ) → P (polynomial k i ts)) → (i n : ℕ) → All P (polynomials k ts i n)
unfolding polynomials
polynomials-all P k ts h i zero = done
polynomials-all P k ts h i (suc n) = h i also polynomials-all P k ts h (suc i) n

sums-over : (h : Head) (m : Limits) {k i n : ℕ} (ss : List SumLine) → SumsInOrder h m k i n ss → All (λ s. Over (Letter h.letters) (line_of s)) ss
sums-over h m [] no_sums = done
sums-over h m (s ∷ ss) (sum_then o os) =
    let b = sum-bounds h m s.kind s.item s.coef s.left s.of s.right o.fits in
    (b.left-letters, b.right-letters) also sums-over h m ss os

module _ (P : Package) (r : Readable P) where
  -- p means a field
  pub readable-field : Field (field_of P.head.p)
  readable-field = field_of-field P.head.p (means_prime P.head.p ((fits_iff P.head.p).0 r.field))

  item_both : (k i : ℕ) → Written (field_of P.head.p) word_order (polynomial k i P.terms) × InLetters (Letter P.head.letters) (polynomial k i P.terms)
  unfolding polynomial
  item_both k i = item-written k i P.head package_limits P.terms r.terms

  pub relations-written : All (Written (field_of P.head.p) word_order) (relations P)
  unfolding relations
  relations-written = polynomials-all (Written (field_of P.head.p) word_order) term_g P.terms (λ i. (item_both term_g i).0) 1 P.head.gens

  pub basis-written : All (Written (field_of P.head.p) word_order) (basis P)
  unfolding basis
  basis-written = polynomials-all (Written (field_of P.head.p) word_order) term_b P.terms (λ i. (item_both term_b i).0) 1 P.head.basis

  -- each polynomial of the basis leads, or it is zero
  pub basis-leading : (i : ℕ) → (family (basis P) i ≡ []) ⊎ Led (field_of P.head.p) word_order (family (basis P) i)
  basis-leading i =
      written-led readable-field word-order-admissible (family (basis P) i) (family-written (field_of P.head.p) word_order (basis P) basis-written i)

  pub relations-letters : All (InLetters (Letter P.head.letters)) (relations P)
  unfolding relations
  relations-letters = polynomials-all (InLetters (Letter P.head.letters)) term_g P.terms (λ i. (item_both term_g i).1) 1 P.head.gens

  pub basis-letters : All (InLetters (Letter P.head.letters)) (basis P)
  unfolding basis
  basis-letters = polynomials-all (InLetters (Letter P.head.letters)) term_b P.terms (λ i. (item_both term_b i).1) 1 P.head.basis

  pub sums-letters : All (λ s. Over (Letter P.head.letters) (line_of s)) P.sums
  sums-letters = sums-over P.head package_limits P.sums r.sums
