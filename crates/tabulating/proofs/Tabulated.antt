-- A table whose sections are filled from the slices of a package holds the package: its numbers, its relations and its basis.
use mathlib.Core.Path.{◌≡◌, refl, sym, ◌∙◌, ap, ap₂}
use mathlib.Core.List.{List, ◌∷◌}
use Prim.Native.Nat.{ℕ, zero, suc, ◌+◌, ◌-◌, ◌*◌, ◌≤◌, ◌<◌}
use native.Mathlib.Nat.{zero-add}
use native.Mathlib.Numerals.{add-one}
use native.Mathlib.Decide.{dec_lt}
use native.Mathlib.Omega.{arith}
use lib.ListN.{length, get_or}
use Rattle.lists.proofs.Parts.{part_length}
use Rattle.lists.proofs.Entries.{part_at}
use Rattle.words.specs.Laid.{laid_word}
use Rattle.package.specs.declared.Head.{Head}
use Rattle.working.specs.Working.{terms}
use Rattle.working.specs.Polynomial.{poly_term}
use Rattle.working.specs.Family.{between, poly_between, family_at, Runs}
use Rattle.working.proofs.Terms.{terms-shift}
use Rattle.working.proofs.Between.{between-length}
use Rattle.table.specs.Table.{prime_in, letters_in, gens_in, basis_count_in, terms_in, items_in, key_in, first_in}
use Rattle.table.specs.Polynomials.{term_in, polynomials_in, relations_in, basis_in, NoneZero}
use Rattle.table.specs.Tabled.{Tabled}
use Rattle.tabulating.specs.Filled.{Filled}
use Rattle.tabulating.specs.Plain.{Plain}
use Rattle.tabulating.specs.Rows.{head_entry, row_entry}
use Rattle.tabulating.specs.Leading.{inverse_entry}
use Rattle.tabulating.specs.Lies.{WordsLie, Lies}
use Rattle.tabulating.proofs.KeptKeys.{key_kept}
use Rattle.tabulating.proofs.PlainKeys.{plain_kept, plain_keys, plain_suits}
use Rattle.tabulating.proofs.RowEntries.{row_entry_lem}
use Rattle.tabulating.proofs.LeadingCoefs.{lead_is}
use Rattle.tabulating.proofs.TermRows.{RowIs, coef_is, letters_are, held_is, coded_is, term_is}

-- What the sections before the rows hold; and all sections.
pub record Begun (h : Head) (m : ℕ) (coefs firsts t : List ℕ) : Type 0 where
  pub size : length t ≡ 3424
  pub head : (k : ℕ) → k < 6 → get_or t k 0 ≡ head_entry h m k
  pub plain : Plain t
  pub inverses : (g : ℕ) → g < h.basis → get_or t (80 + g) 0 ≡ inverse_entry h.p coefs firsts (h.gens + 1) g
  pub starting : (j : ℕ) → j < h.gens + h.basis + 2 → get_or t (208 + j) 0 ≡ get_or firsts j 0

pub record Sections (h : Head) (coefs starts lens bytes firsts : List ℕ) (m : ℕ) (t : List ℕ) : Type 0 where
  pub begun : Begun h m coefs firsts t
  pub rows : (k : ℕ) → k < 3 * m → get_or t (352 + k) 0 ≡ row_entry (key_in t) coefs starts lens bytes k

-- The sections before the rows, filled one after the other.
pub begun_of : (h : Head) (m : ℕ) (coefs firsts : List ℕ) {t₀ t₁ t₂ t₃ t : List ℕ} → h.gens ≤ 32 → h.basis ≤ 64 → length t₀ ≡ 3424
    → Filled 0 6 (head_entry h m) t₀ t₁ → Plain t₂ → Filled 16 64 (λ k. get_or t₂ (16 + k) 0) t₁ t₂ → Filled 80 h.basis (inverse_entry h.p coefs firsts (h.gens + 1)) t₂ t₃
    → Filled 208 (h.gens + h.basis + 2) (λ j. get_or firsts j 0) t₃ t → Begun h m coefs firsts t
begun_of h m coefs firsts {t₁ = t₁} {t₂ = t₂} {t = t} few less e f₁ p f₂ f₃ f₄ = record {
  size = f₄.size ∙ f₃.size ∙ f₂.size ∙ f₁.size ∙ e;
  head = λ k l. f₄.below k (omega arith) ∙ f₃.below k (omega arith) ∙ f₂.below k (omega arith)
      ∙ ap (λ (x : ℕ). get_or t₁ x 0) (sym (zero-add k)) ∙ f₁.inside k l;
  plain = plain_kept t₂ t (λ k l. f₄.below k (omega arith) ∙ f₃.below k l) p;
  inverses = λ g l. f₄.below (80 + g) (omega arith) ∙ f₃.inside g l;
  starting = f₄.inside;
}

-- And the rows behind them.
pub sections_of : {h : Head} {m : ℕ} {firsts t u : List ℕ} (coefs starts lens bytes : List ℕ) → h.gens ≤ 32 → h.basis ≤ 64 → Begun h m coefs firsts t
    → Filled 352 (3 * m) (row_entry (key_in t) coefs starts lens bytes) t u → Sections h coefs starts lens bytes firsts m u
sections_of {t = t} {u = u} coefs starts lens bytes few less b f = record {
  begun = record {
    size = f.size ∙ b.size;
    head = λ k l. f.below k (omega arith) ∙ b.head k l;
    plain = plain_kept t u (λ k l. f.below k (omega arith)) b.plain;
    inverses = λ g l. f.below (80 + g) (omega arith) ∙ b.inverses g l;
    starting = λ j l. f.below (208 + j) (omega arith) ∙ b.starting j l;
  };
  rows = λ k l.
      let same = key_kept t u (λ i q. f.below i (omega arith)) in
      f.inside k l ∙ ap (λ (key : ℕ → ℕ). row_entry key coefs starts lens bytes k) (sym same);
}

-- What holds of the item j of a run.
module _ {firsts : List ℕ} {base n m : ℕ} (r : Runs firsts base n m) (j : ℕ) (h : base ≤ j) (l : j < base + n) where
  number : base + (j - base) ≡ j
  number = omega arith

  rising_at : get_or firsts j 0 ≤ get_or firsts (suc j) 0
  rising_at = rw (number, add-one j) at (r.rising (j - base) (omega arith))

  most_at : get_or firsts (suc j) 0 ≤ m
  most_at = rw (number, add-one j) at (r.most (j - base) (omega arith))

  few_at : get_or firsts (suc j) 0 ≤ get_or firsts j 0 + 48
  few_at = rw (number, add-one j) at (r.few (j - base) (omega arith))

module _ {h : Head} {coefs starts lens bytes firsts : List ℕ} {m : ℕ} {t : List ℕ} (l : Lies h coefs starts lens bytes firsts m)
    (nz : NoneZero (family_at coefs starts lens bytes firsts (h.gens + 1) h.basis)) (s : Sections h coefs starts lens bytes firsts m t) where
  -- The head.

  pub prime_is : prime_in t ≡ h.p
  prime_is = s.begun.head 0 (omega arith)

  pub letter-count_is : letters_in t ≡ h.letters
  letter-count_is = s.begun.head 1 (omega arith)

  pub gens_is : gens_in t ≡ h.gens
  gens_is = s.begun.head 2 (omega arith)

  pub basis-count_is : basis_count_in t ≡ h.basis
  basis-count_is = s.begun.head 4 (omega arith)

  terms_are : terms_in t ≡ m
  terms_are = s.begun.head 5 (omega arith)

  -- Terms.

  row_is : (i : ℕ) → i < m → RowIs t i (get_or coefs i 0) (laid_word starts lens bytes i)
  row_is i q =
      let size = s.begun.size in
      let most = l.count in
      let word = part_length (get_or starts i 0) (get_or lens i 0) bytes (l.terms.inside i q) in
      let short = l.terms.short i q in
      record {
        entries = λ k o.
            let place : 352 + 3 * i + k ≡ 352 + (3 * i + k) = omega arith in
            ap (λ (x : ℕ). get_or t x 0) place ∙ s.rows (3 * i + k) (omega arith) ∙ sym (row_entry_lem (key_in t) coefs starts lens bytes i k o);
        inside = omega arith;
        letters = l.letters i q;
        short = omega arith;
      }

  term_of : (i : ℕ) → i < m → term_in t i ≡ poly_term coefs starts lens bytes i
  term_of i q = term_is t (plain_keys t s.begun.plain) i (get_or coefs i 0) (laid_word starts lens bytes i) (row_is i q)

  -- Polynomials, by where their terms start and end, and one after the other.

  polynomial_of : (a b : ℕ) → a ≤ b → b ≤ m → terms (term_in t) a (b - a) ≡ poly_between coefs starts lens bytes a b
  polynomial_of a b o k =
      let held = l.terms.coefs_hold in
      let part = poly_term (between coefs a b) (between starts a b) (between lens a b) bytes in
      let size = between-length coefs a b o (omega arith) in
      terms-shift (term_in t) part a 0 (b - a)
      (λ j q.
      let e : 0 + j ≡ j = omega arith in
      term_of (a + j) (omega arith) ∙ rw (e, part_at coefs a (b - a) j q, part_at starts a (b - a) j q, part_at lens a (b - a) j q))
      ∙ ap (terms part 0) (sym size)

  polynomials_of : (base n j k : ℕ) → Runs firsts base n m → base ≤ j → j + k ≡ base + n → j + k < h.gens + h.basis + 2
      → polynomials_in t j k ≡ family_at coefs starts lens bytes firsts j k
  unfolding polynomials_in family_at
  polynomials_of base n j zero r o e q = refl
  polynomials_of base n j (suc k) r o e q =
      ap₂ ◌∷◌
      (ap₂ (λ (a b : ℕ). terms (term_in t) a (b - a)) (s.begun.starting j (omega arith)) (s.begun.starting (suc j) (omega arith))
      ∙ polynomial_of (get_or firsts j 0) (get_or firsts (suc j) 0) (rising_at r j o (omega arith)) (most_at r j o (omega arith)))
      (polynomials_of base n (suc j) k r (omega arith) (omega arith) (omega arith))

  pub relations_are : relations_in t ≡ family_at coefs starts lens bytes firsts 1 h.gens
  relations_are = ap (polynomials_in t 1) gens_is ∙ polynomials_of 1 h.gens 1 h.gens l.relation_runs (omega arith) refl (omega arith)

  pub basis_is : basis_in t ≡ family_at coefs starts lens bytes firsts (h.gens + 1) h.basis
  basis_is =
      ap₂ (λ (a b : ℕ). polynomials_in t (a + 1) b) gens_is basis-count_is
      ∙ polynomials_of (h.gens + 1) h.basis (h.gens + 1) h.basis l.basis-runs (omega arith) refl (omega arith)

  -- A fact of each item, from those of the relations and of the basis.
  item : (P : ℕ → Type 0) → ((j : ℕ) → 1 ≤ j → j < 1 + h.gens → P j) → ((j : ℕ) → h.gens + 1 ≤ j → j < h.gens + 1 + h.basis → P j)
      → (j : ℕ) → 1 ≤ j → j ≤ items_in t → P j
  item P f g j o k = go (dec_lt h.gens j)
    where
      go : Dec (h.gens < j) → P j
      go (yes d) = g j (omega arith) (omega (arith, gens_is, basis-count_is))
      go (no d) = f j o (omega arith)

  start_is : (j : ℕ) → j ≤ suc (items_in t) → first_in t j ≡ get_or firsts j 0
  start_is j q = s.begun.starting j (omega (arith, gens_is, basis-count_is))

  below : (i : ℕ) → i < terms_in t → i < m
  below i q = omega (arith, terms_are)

  pub tabled : Tabled t
  tabled =
      let keys = plain_keys t s.begun.plain in
      record {
        size = s.begun.size;
        prime = let k = l.prime in omega (arith, prime_is);
        letters = rw letter-count_is l.alphabet;
        gens = rw gens_is l.gens;
        basis = rw basis-count_is l.basis;
        terms = rw terms_are l.count;
        field = rw prime_is l.field;
        suits = plain_suits t s.begun.plain;
        keys = keys;
        small = λ i q. rw (coef_is t keys i _ _ (row_is i (below i q)), prime_is) (l.terms.small i (below i q));
        short = λ i q. rw (letters_are t keys i _ _ (row_is i (below i q))) (row_is i (below i q)).short;
        held = λ i q. held_is t keys i _ _ (row_is i (below i q));
        coded = λ i q. coded_is t keys i _ _ (row_is i (below i q));
        rising = λ j o k. rw (start_is j (omega arith), start_is (suc j) (omega arith))
            (item (λ (j : ℕ). get_or firsts j 0 ≤ get_or firsts (suc j) 0) (rising_at l.relation_runs) (rising_at l.basis-runs) j o k);
        most = λ j o k. rw (start_is (suc j) (omega arith), terms_are)
            (item (λ (j : ℕ). get_or firsts (suc j) 0 ≤ m) (most_at l.relation_runs) (most_at l.basis-runs) j o k);
        few = λ j o k. rw (start_is j (omega arith), start_is (suc j) (omega arith))
            (item (λ (j : ℕ). get_or firsts (suc j) 0 ≤ get_or firsts j 0 + 48) (few_at l.relation_runs) (few_at l.basis-runs) j o k);
        relations-written = rw (prime_is, relations_are) l.relations-written;
        basis-written = rw (prime_is, basis_is) l.basis-written;
        nonzero = rw basis_is nz;
        inverses = λ g q.
            let h' : g < h.basis = omega (arith, basis-count_is) in
            s.begun.inverses g h' ∙ rw (prime_is, basis_is, lead_is coefs starts lens bytes firsts l.terms l.basis-runs nz g h');
      }

-- Words that lie in slices, from the terms that do.
pub words_lie_lem : {h : Head} {coefs starts lens bytes firsts : List ℕ} {m : ℕ} → Lies h coefs starts lens bytes firsts m → WordsLie starts lens bytes m
words_lie_lem l = record {
  starting = l.terms.starts_hold;
  ending = l.terms.lens_hold;
  inside = l.terms.inside;
  short = l.terms.short;
  letters = l.letters;
}
