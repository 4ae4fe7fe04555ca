-- A table with the rows of one basis polynomial multiplied by the inverse of its leading coefficient, and 1 for that inverse, is the table with that
-- polynomial divided.
use mathlib.Core.Path.{◌≡◌, refl, sym, ◌∙◌, ap, ap₂, subst}
use mathlib.Core.Logic.{◌≢◌}
use mathlib.Core.List.{List, []}
use Prim.Native.Nat.{ℕ, zero, suc, ◌+◌, ◌-◌, ◌*◌, ◌/◌, ◌%◌, ◌≤◌, ◌<◌}
use native.Mathlib.Numerals.{one-add}
use native.Mathlib.Decide.{dec_lt, ℕ_discrete}
use native.Mathlib.Omega.{arith}
use lib.ListN.{length, get_or, set, length-set}
use lib.Seq.{get_or-set_same, get_or-set_other, ext_get_or}
use Rattle.lists.specs.All.{All}
use Rattle.lists.proofs.Every.{all_at}
use Rattle.lists.proofs.Entries.{part_at}
use Rattle.lists.proofs.Parts.{part_length}
use Rattle.field.proofs.Fields.{below_of}
use Rattle.field.proofs.Inverse.{inv_one}
use Rattle.words.specs.Word.{Word}
use Rattle.algebra.specs.Poly.{Poly, scale}
use Rattle.algebra.specs.Ideal.{family}
use Rattle.algebra.specs.Groebner.{lead_coef, monic}
use Rattle.algebra.specs.Written.{Written}
use Rattle.algebra.proofs.Lines.{shift-nil}
use Rattle.algebra.proofs.WrittenForm.{written_multiple, scale_one}
use Rattle.working.specs.Working.{terms}
use Rattle.working.proofs.Terms.{terms-same}
use Rattle.table.specs.Table.{prime_in, gens_in, basis_count_in, terms_in, items_in, field_in, order_in, inverse_in, first_in, coef_in, size_in, blocks_in}
use Rattle.table.specs.Polynomials.{word_in, term_in, polynomial_in, polynomials_in, relations_in, basis_in}
use Rattle.table.specs.Tabled.{Tabled}
use Rattle.table.proofs.Families.{polynomials-count, family-relations, family-basis}
use Rattle.table.proofs.Inverses.{inverse-some, inverse-lead}
use Rattle.tabulating.specs.Divided.{RowsScaled, ItemDivided}
use Rattle.tabulating.proofs.ItemLists.{polynomials-all, polynomials-same, terms-scaled, scaled-some}
use Rattle.tabulating.proofs.KeptKeys.{keys_kept}
use Rattle.tabulating.proofs.KeptWords.{word_kept, held_kept, suits-kept}

module _ (t u : List ℕ) (T : Tabled t) (g : ℕ) (h : g < basis_count_in t) where
  abbrev item : ℕ
  item = gens_in t + suc g

  module _ (R : RowsScaled t (inverse_in t g) (first_in t item) (first_in t (suc item)) u) where
    abbrev v : List ℕ
    v = set u (80 + g) 1

    few : gens_in t + basis_count_in t ≤ 96
    few = let a = T.gens in let b = T.basis in omega arith

    long : length v ≡ 3424
    long = length-set u (80 + g) 1 ∙ R.size ∙ T.size

    -- The numbers before the rows are those of t, but for one.
    below : (k : ℕ) → k < 352 → k ≢ 80 + g → get_or v k 0 ≡ get_or t k 0
    below k l n = get_or-set_other u (80 + g) k 1 0 n ∙ R.others k (λ i a b e. omega arith)

    own : get_or v (80 + g) 0 ≡ 1
    own = let b = T.basis in let e = T.size in let s = R.size in get_or-set_same u (80 + g) 1 0 (omega arith)

    kept : (k : ℕ) → k < 80 → get_or v k 0 ≡ get_or t k 0
    kept k l = below k (omega arith) (λ e. omega arith)

    first-kept : (j : ℕ) → j ≤ suc (items_in t) → first_in v j ≡ first_in t j
    first-kept j l = let q = few in let b = T.basis in below (208 + j) (omega arith) (λ e. omega arith)

    -- The numbers of the rows.
    row : (k : ℕ) → 352 ≤ k → get_or v k 0 ≡ get_or u k 0
    row k l = let b = T.basis in get_or-set_other u (80 + g) k 1 0 (λ e. omega arith)

    block : (i k : ℕ) → k < 2 → get_or v (353 + 3 * i + k) 0 ≡ get_or t (353 + 3 * i + k) 0
    block i k l = row (353 + 3 * i + k) (omega arith) ∙ R.others (353 + 3 * i + k) (λ j a b e. omega arith)

    blocks-kept : (i : ℕ) → i < terms_in t → blocks_in v i ≡ blocks_in t i
    blocks-kept i l =
        let m = T.terms in
        let a = part_length (353 + 3 * i) 2 v (let e = long in omega arith) in
        let b = part_length (353 + 3 * i) 2 t (let e = T.size in omega arith) in
        ext_get_or 0 (blocks_in v i) (blocks_in t i) (a ∙ sym b)
        (λ k q. let k2 : k < 2 = omega arith in part_at v (353 + 3 * i) 2 k k2 ∙ block i k k2 ∙ sym (part_at t (353 + 3 * i) 2 k k2))

    abbrev In : ℕ → Type 0
    In i = (first_in t item ≤ i) × (i < first_in t (suc item))

    inside-row : (i : ℕ) → In i → get_or v (352 + 3 * i) 0 ≡ (field_in t).mul (inverse_in t g) (coef_in t i) * 4294967296 + size_in t i
    inside-row i q = row (352 + 3 * i) (omega arith) ∙ R.scaled i q.0 q.1

    outside_row : (i : ℕ) → (In i → ⊥) → get_or v (352 + 3 * i) 0 ≡ get_or t (352 + 3 * i) 0
    outside_row i q = row (352 + 3 * i) (omega arith) ∙ R.others (352 + 3 * i) (λ j a b e. q (omega arith, omega arith))

    is_inside : (i : ℕ) → Dec (In i)
    is_inside i = go (dec_lt i (first_in t item)) (dec_lt i (first_in t (suc item)))
      where
        go : Dec (i < first_in t item) → Dec (i < first_in t (suc item)) → Dec (In i)
        go (yes a) d = no (λ q. let z = q.0 in omega arith)
        go (no a) (yes b) = yes (omega arith, b)
        go (no a) (no b) = no (λ q. b q.1)

    inside-coef : (i : ℕ) → In i → coef_in v i ≡ (field_in t).mul (inverse_in t g) (coef_in t i)
    inside-coef i q = let e = inside-row i q in omega arith

    size-kept : (i : ℕ) → size_in v i ≡ size_in t i
    size-kept i = go (is_inside i)
      where
        go : Dec (In i) → size_in v i ≡ size_in t i
        go (yes q) = let e = inside-row i q in omega arith
        go (no q) = ap (λ (x : ℕ). x % 4294967296) (outside_row i q)

    word_same : (i : ℕ) → i < terms_in t → word_in v i ≡ word_in t i
    word_same i l = rw (size-kept i, blocks-kept i l) (word_kept t v kept (size_in t i) (blocks_in t i))

    -- The terms: those of the polynomial have y times their coefficients, the others are as they were.
    inside-term : (i : ℕ) → In i → i < terms_in t → term_in v i ≡ record { coef = (field_in t).mul (inverse_in t g) (coef_in t i); word = word_in t i }
    inside-term i q l = ap₂ (λ (x : ℕ) (w : Word). record { coef = x; word = w }) (inside-coef i q) (word_same i l)

    outside_coef : (i : ℕ) → (In i → ⊥) → coef_in v i ≡ coef_in t i
    outside_coef i q = ap (λ (x : ℕ). x / 4294967296) (outside_row i q)

    outside_term : (i : ℕ) → (In i → ⊥) → i < terms_in t → term_in v i ≡ term_in t i
    outside_term i q l = ap₂ (λ (x : ℕ) (w : Word). record { coef = x; word = w }) (outside_coef i q) (word_same i l)

    product_small : (a b : ℕ) → (field_in t).mul a b < prime_in t
    product_small a b = below_of (prime_in t) (rw (T.field.red-mul a b) at (T.field.red-lt ((field_in t).mul a b)))

    coef-small : (i : ℕ) → i < terms_in t → coef_in v i < prime_in t
    coef-small i l = go (is_inside i)
      where
        go : Dec (In i) → coef_in v i < prime_in t
        go (yes q) = rw (inside-coef i q) (product_small (inverse_in t g) (coef_in t i))
        go (no q) = rw (outside_coef i q) (T.small i l)

    -- Items lie one behind the other.
    rises : (j d : ℕ) → 1 ≤ j → j + d ≤ suc (items_in t) → first_in t j ≤ first_in t (j + d)
    rises j zero a b = let e : j + 0 ≡ j = omega arith in rw e (omega arith)
    rises j (suc d) a b =
        let e : j + suc d ≡ suc (j + d) = omega arith in
        let x = rises j d a (omega arith) in
        let y = T.rising (j + d) (omega arith) (omega arith) in
        rw e (omega arith)

    apart : (j i : ℕ) → 1 ≤ j → j ≤ items_in t → j ≢ item → first_in t j ≤ i → i < first_in t (suc j) → In i → ⊥
    apart j i a b n lo hi q = go (dec_lt j item)
      where
        go : Dec (j < item) → ⊥
        go (yes l) =
            let e : suc j + (item - suc j) ≡ item = omega arith in
            let x = rw e at (rises (suc j) (item - suc j) (omega arith) (omega arith)) in
            let z = q.0 in
            omega arith
        go (no l) =
            let far : item < j = let k : j ≢ item = n in omega arith in
            let e : suc item + (j - suc item) ≡ j = omega arith in
            let x = rw e at (rises (suc item) (j - suc item) (omega arith) (omega arith)) in
            let z = q.1 in
            omega arith

    -- Polynomials.
    polynomial_other : (j : ℕ) → 1 ≤ j → j ≤ items_in t → j ≢ item → polynomial_in v j ≡ polynomial_in t j
    polynomial_other j a b n =
        let up = T.rising j a b in
        let most = T.most j a b in
        ap₂ (λ (x y : ℕ). terms (term_in v) x (y - x)) (first-kept j (omega arith)) (first-kept (suc j) (omega arith))
        ∙ terms-same (term_in v) (term_in t) (first_in t j) (first_in t (suc j) - first_in t j)
        (λ i lo hi. outside_term i (apart j i a b n lo (omega arith)) (omega arith))

    own-item : item ≤ items_in t
    own-item = omega arith

    polynomial-own : polynomial_in v item ≡ scale (field_in t) (inverse_in t g) (polynomial_in t item)
    polynomial-own =
        let up = T.rising item (omega arith) own-item in
        let most = T.most item (omega arith) own-item in
        ap₂ (λ (x y : ℕ). terms (term_in v) x (y - x)) (first-kept item (omega arith)) (first-kept (suc item) (omega arith))
        ∙ terms-scaled (term_in t) (term_in v) (inverse_in t g) (field_in t) (first_in t item) (first_in t (suc item) - first_in t item)
        (λ i lo hi. inside-term i (lo, omega arith) (omega arith))

    inverse_is : inverse_in t g ≡ (field_in t).inv (lead_coef (polynomial_in t item))
    inverse_is = T.inverses g h ∙ ap (λ (f : Poly). (field_in t).inv (lead_coef f)) (family-basis t g h)

    own-divided : polynomial_in v item ≡ monic (field_in t) (polynomial_in t item)
    unfolding monic
    own-divided = polynomial-own ∙ ap (λ (x : ℕ). scale (field_in t) x (polynomial_in t item)) inverse_is

    -- A fact of each basis polynomial of v, from that of the divided one and those of the others.
    each : (P : Poly → Type 0) → ((k : ℕ) → k < basis_count_in t → k ≢ g → P (polynomial_in t (gens_in t + suc k))) → P (polynomial_in v item)
        → (k : ℕ) → k < basis_count_in t → P (polynomial_in v (gens_in t + suc k))
    each P others this k l = go (ℕ_discrete k g)
      where
        go : Dec (k ≡ g) → P (polynomial_in v (gens_in t + suc k))
        go (yes e) = rw e this
        go (no e) = rw (polynomial_other (gens_in t + suc k) (omega arith) (omega arith) (λ q. e (omega arith))) (others k l e)

    -- What holds of the polynomials of t.
    basis_at : (P : Poly → Type 0) → All P (basis_in t) → (k : ℕ) → k < basis_count_in t → P (polynomial_in t (gens_in t + suc k))
    unfolding family
    basis_at P a k l = subst P (family-basis t k l) (all_at a [] k (rw (polynomials-count t (gens_in t + 1) (basis_count_in t)) l))

    relation_at : (P : Poly → Type 0) → All P (relations_in t) → (k : ℕ) → k < gens_in t → P (polynomial_in t (suc k))
    unfolding family
    relation_at P a k l = subst P (family-relations t k l) (all_at a [] k (rw (polynomials-count t 1 (gens_in t)) l))

    -- The divided polynomial: in written form, not zero, and it leads with 1.
    own-written : Written (field_in t) (order_in t) (polynomial_in v item)
    own-written =
        rw (polynomial-own, ← shift-nil (polynomial_in t item))
        (written_multiple T.field T.suits.admissible (inverse_in t g) [] [] (inverse-some t T g h) (basis_at (Written (field_in t) (order_in t)) T.basis-written g h))

    own-some : (polynomial_in v item ≢ []) × (lead_coef (polynomial_in v item) ≡ 1)
    own-some =
        let some = scaled-some (field_in t) (inverse_in t g) (polynomial_in t item) (basis_at (λ f. f ≢ []) T.nonzero g h) in
        let lead = ap (λ (f : Poly). (field_in t).mul (inverse_in t g) (lead_coef f)) (sym (family-basis t g h)) ∙ inverse-lead t T g h in
        rw polynomial-own (some.0, some.1 ∙ lead)

    prime-kept : prime_in v ≡ prime_in t
    prime-kept = kept 0 (omega arith)

    gens-kept : gens_in v ≡ gens_in t
    gens-kept = kept 2 (omega arith)

    count_kept : basis_count_in v ≡ basis_count_in t
    count_kept = kept 4 (omega arith)

    terms-kept : terms_in v ≡ terms_in t
    terms-kept = kept 5 (omega arith)

    items_kept : items_in v ≡ items_in t
    items_kept = ap₂ ◌+◌ gens-kept count_kept

    -- The basis polynomials of v, one by one.
    all-basis : (P : Poly → Type 0) → ((k : ℕ) → k < basis_count_in t → P (polynomial_in v (gens_in t + suc k))) → All P (basis_in v)
    all-basis P f =
        rw (gens-kept, count_kept)
        (polynomials-all P v (gens_in t + 1) (basis_count_in t) (λ k l. let e : gens_in t + suc k ≡ gens_in t + 1 + k = omega arith in subst (λ (i : ℕ). P (polynomial_in v i)) e (f k l)))

    all-relations : (P : Poly → Type 0) → ((k : ℕ) → k < gens_in t → P (polynomial_in v (suc k))) → All P (relations_in v)
    all-relations P f = rw gens-kept (polynomials-all P v 1 (gens_in t) (λ k l. subst (λ (i : ℕ). P (polynomial_in v i)) (sym (one-add k)) (f k l)))

    lead_at_lem : (k : ℕ) → k < basis_count_in t → family (basis_in v) (suc k) ≡ polynomial_in v (gens_in t + suc k)
    lead_at_lem k l = family-basis v k (rw count_kept l) ∙ ap (λ (n : ℕ). polynomial_in v (n + suc k)) gens-kept

    inverses_are : (k : ℕ) → k < basis_count_in t → inverse_in v k ≡ (field_in t).inv (lead_coef (polynomial_in v (gens_in t + suc k)))
    inverses_are k l = go (ℕ_discrete k g)
      where
        go : Dec (k ≡ g) → inverse_in v k ≡ (field_in t).inv (lead_coef (polynomial_in v (gens_in t + suc k)))
        go (yes e) = rw e (own ∙ sym (ap (field_in t).inv own-some.1 ∙ inv_one (prime_in t) (below_of (prime_in t) T.field.one_lt)))
        go (no e) =
            let b = T.basis in
            below (80 + k) (omega arith) (λ q. e (omega arith)) ∙ T.inverses k l
            ∙ ap (λ (f : Poly). (field_in t).inv (lead_coef f)) (family-basis t k l ∙ sym (polynomial_other (gens_in t + suc k) (omega arith) (omega arith) (λ q. e (omega arith))))

    abbrev Wr : Poly → Type 0
    Wr = Written (field_in t) (order_in t)

    tabled_still : Tabled v
    tabled_still = record {
      size = long;
      prime = rw prime-kept T.prime;
      letters = rw (kept 1 (omega arith)) T.letters;
      gens = rw gens-kept T.gens;
      basis = rw count_kept T.basis;
      terms = rw terms-kept T.terms;
      field = rw prime-kept T.field;
      suits = suits-kept t v kept T.suits;
      keys = keys_kept t v kept T.keys;
      small = λ i l. rw prime-kept (coef-small i (rw terms-kept at l));
      short = λ i l. rw (size-kept i) (T.short i (rw terms-kept at l));
      held = λ i l. let q : i < terms_in t = rw terms-kept at l in rw (size-kept i, blocks-kept i q) (held_kept t v kept (T.held i q));
      coded = λ i l. let q : i < terms_in t = rw terms-kept at l in rw (size-kept i, blocks-kept i q) (T.coded i q);
      rising = λ j a b. let q : j ≤ items_in t = rw items_kept at b in rw (first-kept j (omega arith), first-kept (suc j) (omega arith)) (T.rising j a q);
      most = λ j a b. let q : j ≤ items_in t = rw items_kept at b in rw (first-kept (suc j) (omega arith), terms-kept) (T.most j a q);
      few = λ j a b. let q : j ≤ items_in t = rw items_kept at b in rw (first-kept j (omega arith), first-kept (suc j) (omega arith)) (T.few j a q);
      relations-written = rw prime-kept (all-relations Wr (λ k l.
          rw (polynomial_other (suc k) (omega arith) (omega arith) (λ e. omega arith)) (relation_at Wr T.relations-written k l)));
      basis-written = rw prime-kept (all-basis Wr (each Wr (λ k l n. basis_at Wr T.basis-written k l) own-written));
      nonzero = all-basis (λ f. f ≢ []) (each (λ f. f ≢ []) (λ k l n. basis_at (λ f. f ≢ []) T.nonzero k l) own-some.0);
      inverses = λ k l. let q : k < basis_count_in t = rw count_kept at l in inverses_are k q ∙ rw (prime-kept, lead_at_lem k q);
    }

    relations-kept : relations_in v ≡ relations_in t
    relations-kept =
        ap (polynomials_in v 1) gens-kept
        ∙ polynomials-same t v 1 (gens_in t)
        (λ k l. let e : 1 + k ≡ suc k = omega arith in rw e (polynomial_other (suc k) (omega arith) (omega arith) (λ q. omega arith)))

    pub item-divided : ItemDivided t g v
    item-divided = record {
      tabled = tabled_still;
      prime = prime-kept;
      letters = kept 1 (omega arith);
      gens = gens-kept;
      count = count_kept;
      relations = relations-kept;
      divided = own-divided;
      others = λ k l n. polynomial_other (gens_in t + suc k) (omega arith) (omega arith) (λ e. n (omega arith));
    }

-- Where the inverse is 1 the polynomial is divided as it stands.
pub item-kept : (t : List ℕ) (T : Tabled t) (g : ℕ) → g < basis_count_in t → inverse_in t g ≡ 1 → ItemDivided t g t
unfolding monic family
item-kept t T g h e =
    let f = polynomial_in t (gens_in t + suc g) in
    let one = ap (λ (p : Poly). (field_in t).inv (lead_coef p)) (sym (family-basis t g h)) ∙ sym (T.inverses g h) ∙ e in
    let written = subst (Written (field_in t) (order_in t)) (family-basis t g h)
    (all_at T.basis-written [] g (rw (polynomials-count t (gens_in t + 1) (basis_count_in t)) h)) in
    record {
      tabled = T;
      prime = refl;
      letters = refl;
      gens = refl;
      count = refl;
      relations = refl;
      divided = sym (ap (λ (x : ℕ). scale (field_in t) x f) one ∙ scale_one T.field T.suits.admissible written);
      others = λ k l n. refl;
    }
