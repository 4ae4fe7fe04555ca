-- The terms of a formula that reads are a polynomial in written form and in the letters. Such polynomials are equal where their texts are.
use mathlib.Core.Path.{◌≡◌, refl, sym, ◌∙◌, ap}
use mathlib.Core.Bool.{Bool, true, false}
use mathlib.Core.Logic.{◌⊎◌, inl, inr}
use mathlib.Core.List.{List, [], ◌∷◌, ◌++◌}
use Prim.Native.Nat.{ℕ, zero, suc, ◌+◌, ◌≤◌, ◌<◌}
use native.Mathlib.Omega.{arith}
use lib.Dec.{eqb, ltb}
use lib.ListN.{length}
use borrow.Author.Tests.{eqb-true, eq-eqb, lt-ltb, le-ltb}
use Rattle.field.specs.Field.{field_of}
use Rattle.field.proofs.Fields.{element_of, below_of}
use Rattle.lists.specs.All.{All, done, ◌also◌}
use Rattle.words.specs.Word.{Word, Letter}
use Rattle.words.specs.Order.{Lt, word_order}
use Rattle.lists.proofs.Every.{all_map, all_split}
use Rattle.words.proofs.WordOrder.{word-order-admissible}
use Rattle.algebra.specs.Poly.{Poly, InLetters}
use Rattle.algebra.specs.Written as W
use Rattle.algebra.specs.Written.{Written}
use Rattle.text.specs.Bytes.{all_within}
use Rattle.text.proofs.Bytewise.{within_in}
use Rattle.package.specs.declared.Limits.{Limits}
use Rattle.package.specs.Bounds.{coef_fits, word_fits_of}
use Rattle.words.specs.Below.{is_below}
use Rattle.package.specs.Formula.{FormulaOutcome, wrong_at, formula, row_fits, read_formula}
use Rattle.package.specs.Readable.{RowsInOrder, no_rows, row_then}
use Rattle.package.specs.Writing.{write_formula}
use Rattle.package.proofs.FormulaTexts.{formula-reads, formula-written}
use Rattle.acceptance.proofs.LineFacts.{both, coef-fits, word_fits, below_is}

-- What the test of a formula's line says.
record RowBounds (p letters : ℕ) (m : Limits) (v : Word) (n c : ℕ) (w : Word) : Type 0 where
  some : 0 < c
  small : c < p
  short : length w ≤ m.len
  over : All (Letter letters) w
  falls : (n ≡ 0) ⊎ Lt word_order w v

row-bounds : (p letters : ℕ) (m : Limits) (v : Word) (n c : ℕ) (w : Word) → row_fits p letters m v n c w ≡ true → RowBounds p letters m v n c w
unfolding row_fits
row-bounds p letters m v n c w e =
    let fall : Bool = elim (eqb n 0) [ true ↦ true | false ↦ is_below w v ] in
    let room : Bool = elim (ltb n m.terms) [ false ↦ false | true ↦ fall ] in
    let (a, e₁) = both (coef_fits p c) (elim (word_fits_of m.len letters w) [ false ↦ false | true ↦ room ]) e in
    let (b, e₂) = both (word_fits_of m.len letters w) room e₁ in
    let (d, e₃) = both (ltb n m.terms) fall e₂ in
    let (x, y) = coef-fits p c a in
    let (f, g) = word_fits m.len letters w b in
    record { some = x; small = y; short = f; over = g; falls = go (eqb n 0) refl e₃ }
  where
    go : (t : Bool) → eqb n 0 ≡ t → ◌≡◌ {A = Bool} (elim t [ true ↦ true | false ↦ is_below w v ]) true → (n ≡ 0) ⊎ Lt word_order w v
    go true q z = inl (eqb-true n 0 q)
    go false q z = inr (below_is w v z)

module _ (p letters : ℕ) (m : Limits) where
  -- behind a term, words are below its word
  rows-below : {v : Word} {n : ℕ} (ts : Poly) → RowsInOrder p letters m v (suc n) ts → All (λ s. Lt word_order s.word v) ts
  rows-below [] no_rows = done
  rows-below {v} {n} (t ∷ ts) (row_then e os) = go (row-bounds p letters m v (suc n) t.coef t.word e).falls (rows-below ts os)
    where
      go : (suc n ≡ 0) ⊎ Lt word_order t.word v → All (λ s. Lt word_order s.word t.word) ts → All (λ s. Lt word_order s.word v) (t ∷ ts)
      go (inl z) b = absurd (omega arith)
      go (inr q) b = q also all_map (λ s r. word-order-admissible.trans s.word t.word v r q) b

  -- terms in order are in written form and in the letters
  pub rows-content : {v : Word} {n : ℕ} (ts : Poly) → RowsInOrder p letters m v n ts → Written (field_of p) word_order ts × InLetters (Letter letters) ts
  rows-content [] no_rows = (W.zero, done)
  rows-content {v} {n} (t ∷ ts) (row_then e os) =
      let b = row-bounds p letters m v n t.coef t.word e in
      let (w, l) = rows-content ts os in
      (W.term {t = t} (element_of p b.small) (λ z. let q = b.some in omega arith) (rows-below ts os) w, b.over also l)

  -- and their coefficients and words are in bounds
  pub rows_bounded : {v : Word} {n : ℕ} (ts : Poly) → RowsInOrder p letters m v n ts → All (λ t. (t.coef < p) × (length t.word ≤ m.len)) ts
  rows_bounded [] no_rows = done
  rows_bounded {v} {n} (t ∷ ts) (row_then e os) = let b = row-bounds p letters m v n t.coef t.word e in (b.small, b.short) also rows_bounded ts os

  pub formula-content : (s : List ℕ) (ts : Poly) → read_formula p letters m s ≡ formula ts → Written (field_of p) word_order ts × InLetters (Letter letters) ts
  formula-content s ts e = rows-content ts (formula-reads p letters m s ts e).0

letters_test : (n : ℕ) (w : Word) → All (Letter n) w → all_within 97 (96 + n) w ≡ true
unfolding all_within
letters_test n [] done = refl
letters_test n (a ∷ w) (l also ls) =
    let x = l.least in
    let y = l.most in
    rw (all_within, within_in 97 (96 + n) a x (omega arith)) (letters_test n w ls)

-- The length of the longest word.
longest : Poly → ℕ
longest [] = 0
longest (t ∷ f) = length t.word + longest f

longest_most : (f : Poly) → All (λ t. length t.word ≤ longest f) f
unfolding longest
longest_most [] = done
longest_most (t ∷ f) =
    let here : length t.word ≤ length t.word + longest f = omega arith in
    here also all_map {P = λ s. length s.word ≤ longest f} {Q = λ s. length s.word ≤ length t.word + longest f} (λ s l. omega arith) (longest_most f)

module _ (p letters : ℕ) (m : Limits) where
  -- a polynomial in written form and in the letters, within the limits, is in order
  content-rows : (v : Word) (n : ℕ) (ts : Poly) → Written (field_of p) word_order ts → InLetters (Letter letters) ts → All (λ t. length t.word ≤ m.len) ts
      → n + length ts ≤ m.terms → ((n ≡ 0) ⊎ All (λ s. Lt word_order s.word v) ts) → RowsInOrder p letters m v n ts
  unfolding row_fits coef_fits word_fits_of is_below
  content-rows v n [] W.zero done done l q = no_rows
  content-rows v n (t ∷ ts) (W.term a b c w) (x also xs) (y also ys) l q =
      row_then (fits q) (content-rows t.word (suc n) ts w xs ys (omega arith) (inr c))
    where
      some : 0 < t.coef
      some = go t.coef b
        where
          go : (k : ℕ) → (k ≡ 0 → ⊥) → 0 < k
          go zero z = absurd (z refl)
          go (suc k) z = omega arith

      coef_test : coef_fits p t.coef ≡ true
      coef_test = rw (coef_fits, lt-ltb 0 t.coef some, lt-ltb t.coef p (below_of p a))

      word_test : word_fits_of m.len letters t.word ≡ true
      word_test = rw (word_fits_of, le-ltb m.len (length t.word) y) (letters_test letters t.word x)

      room : ltb n m.terms ≡ true
      room = lt-ltb n m.terms (omega arith)

      fits : (n ≡ 0) ⊎ All (λ s. Lt word_order s.word v) (t ∷ ts) → row_fits p letters m v n t.coef t.word ≡ true
      fits (inl z) = rw (row_fits, coef_test, word_test, room, eq-eqb n 0 z)
      fits (inr (z also zs)) = go (eqb n 0) refl
        where
          go : (b : Bool) → eqb n 0 ≡ b → row_fits p letters m v n t.coef t.word ≡ true
          go true e = rw (row_fits, coef_test, word_test, room, e)
          go false e = rw (row_fits, coef_test, word_test, room, e, is_below, z)

-- The terms that an outcome has.
terms_in : FormulaOutcome → Poly
terms_in (wrong_at n) = []
terms_in (formula ts) = ts

-- Writing a polynomial as a formula loses nothing.
pub text_unique : (p letters : ℕ) → p ≤ 65521 → letters ≤ 26 → (M N : Poly)
    → Written (field_of p) word_order M → InLetters (Letter letters) M → Written (field_of p) word_order N → InLetters (Letter letters) N
    → write_formula M ≡ write_formula N → M ≡ N
unfolding terms_in
text_unique p letters a b M N x y z u e = ap terms_in (sym (reads M x y ms.0 (omega arith)) ∙ ap (read_formula p letters lim) e ∙ reads N z u ms.1 (omega arith))
  where
    lim : Limits
    lim = record { terms = length M + length N; len = longest (M ++ N) }

    ms : All (λ t. length t.word ≤ longest (M ++ N)) M × All (λ t. length t.word ≤ longest (M ++ N)) N
    ms = all_split M N (longest_most (M ++ N))

    reads : (f : Poly) → Written (field_of p) word_order f → InLetters (Letter letters) f → All (λ t. length t.word ≤ longest (M ++ N)) f → length f ≤ length M + length N
        → read_formula p letters lim (write_formula f) ≡ formula f
    reads f w l s n = formula-written p letters lim a b f (content-rows p letters lim [] 0 f w l s (omega arith) (inl refl))
