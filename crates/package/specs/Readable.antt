-- Which packages and formulas read, as statements: counts in bounds, and every term and sum line in bounds and in order.
use Rattle.std.specs.Prelude.{◌≡◌, true, List, [], ◌∷◌, ℕ, suc, ◌<◌, length}
use Rattle.algebra.specs.Poly.{Term}
use Rattle.package.specs.Formula.{row_fits}
use Rattle.package.specs.Head.{field_fits, counts_fit}
use Rattle.package.specs.Names.{term_g, term_b, sum_b, sum_o}
use Rattle.package.specs.Package.{Package, package_limits, first_sum}
use Rattle.package.specs.Sums.{SumLine, sum_fits, sum_follows}
use Rattle.package.specs.Terms.{TermLine, term_fits, LineAbove, start, follows, counted, has_room}
use Rattle.package.specs.declared.Head.{Head}
use Rattle.package.specs.declared.Limits.{Limits}
use Rattle.text.specs.Bytes.{within}

-- What is known of a term line when the next one is judged.
abbrev pub under : LineAbove → TermLine → LineAbove
under a t = record { kind = t.kind; item = t.item; word = t.word; count = counted a t.kind t.item }

-- A term behind n terms, below the line above: its kind is one of block 2, and none of 5, 6, 7 is met.
pub record TermInOrder (h : Head) (m : Limits) (a : LineAbove) (n : ℕ) (t : TermLine) : Type 0 where
  pub ranked : within term_g term_b t.kind ≡ true
  pub fits : term_fits h m t.kind t.item t.coef t.word ≡ true
  pub order : follows a t.kind t.item t.word ≡ true
  pub room : has_room m a n t.kind t.item ≡ true

-- Terms behind n terms, below the line above: each is in order below the one before it.
pub data TermsInOrder (h : Head) (m : Limits) : LineAbove → ℕ → List TermLine → Type 0 where
  no_terms : {a : LineAbove} {n : ℕ} → TermsInOrder h m a n []
  term_then : {a : LineAbove} {n : ℕ} {t : TermLine} {ts : List TermLine} → TermInOrder h m a n t → TermsInOrder h m (under a t) (suc n) ts → TermsInOrder h m a n (t ∷ ts)

-- A sum line with line number n, below a line of kind k' and item i': its kind is one of block 3, its item has at most five digits, and neither 5 nor 6 is met.
pub record SumInOrder (h : Head) (m : Limits) (k' i' n : ℕ) (x : SumLine) : Type 0 where
  pub numbered : x.line ≡ n
  pub ranked : within sum_b sum_o x.kind ≡ true
  pub digits : x.item < 100000
  pub fits : sum_fits h m x.kind x.item x.coef x.left x.of x.right ≡ true
  pub order : sum_follows k' i' x.kind x.item ≡ true

-- Sum lines from line number n on, below a line of kind k' and item i': each is in order below the one before it.
pub data SumsInOrder (h : Head) (m : Limits) : ℕ → ℕ → ℕ → List SumLine → Type 0 where
  no_sums : {k i n : ℕ} → SumsInOrder h m k i n []
  sum_then : {k i n : ℕ} {x : SumLine} {xs : List SumLine} → SumInOrder h m k i n x → SumsInOrder h m x.kind x.item (suc n) xs → SumsInOrder h m k i n (x ∷ xs)

-- A package whose counts, terms and sum lines are in bounds and in order. Its sum lines are numbered from the line of the first on.
pub record Readable (P : Package) : Type 0 where
  pub field : field_fits P.head.p ≡ true
  pub counts : counts_fit P.head ≡ true
  pub terms : TermsInOrder P.head package_limits start 0 P.terms
  pub sums : SumsInOrder P.head package_limits 0 0 (first_sum (length P.terms)) P.sums

-- The terms of a formula behind n terms, the last of which has the word v: each in bounds, below the one above, and not one too many.
pub data RowsInOrder (p letters : ℕ) (m : Limits) : List ℕ → ℕ → List Term → Type 0 where
  no_rows : {v : List ℕ} {n : ℕ} → RowsInOrder p letters m v n []
  row_then : {v : List ℕ} {n : ℕ} {t : Term} {ts : List Term} → row_fits p letters m v n t.coef t.word ≡ true → RowsInOrder p letters m t.word (suc n) ts
      → RowsInOrder p letters m v n (t ∷ ts)
