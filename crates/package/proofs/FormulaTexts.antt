-- A formula reads exactly when it is the written text of terms in bounds and in order, and then it reads as those terms.
use mathlib.Core.Path.{◌≡◌, refl, sym, ap, ap₂, subst, ◌∙◌}
use mathlib.Core.Bool.{Bool, true, false, false≢true}
use mathlib.Core.Logic.{◌↔◌}
use mathlib.Core.List.{List, [], ◌∷◌, ◌++◌, append_assoc, append-nil}
use Prim.Native.Nat.{ℕ, suc, ◌≤◌, ◌<◌}
use native.Mathlib.Omega.{arith}
use lib.Dec.{ltb, eqb}
use lib.ListN.{length, length-append}
use Rattle.package.proofs.FormulaLines.{row_no_coef, row_no_word, row-whole, row_shapeless}
use Rattle.package.proofs.LineBounds.{coef-below, word-letters}
use Rattle.package.specs.Bounds.{coef_fits, word_fits_of}
use Rattle.words.specs.Below.{is_below}
use Rattle.algebra.specs.Poly.{Term}
use Rattle.package.specs.Formula.{wrong_at, formula, TermRow, no_row, row, row_form, row_fits, row_judged, judge_row, rows_end_of, rows, formula_lines, read_formula}
use Rattle.package.specs.Names.{formula_names}
use Rattle.package.specs.Readable.{RowsInOrder, no_rows, row_then}
use Rattle.package.specs.Writing.{row_fields, row_lines, write_formula}
use Rattle.package.specs.declared.Limits.{Limits}
use Rattle.lists.proofs.Sameness.{same-eq}
use Rattle.text.proofs.FieldTexts.{starts-number, number-starts, ends_word, word_ends, number-clear, word-clear}
use Rattle.text.proofs.PieceTexts.{joined-pieces, fields-written, lines-written, without-joined, without-final}
use Rattle.text.specs.Bytes.{all_within}
use Rattle.lists.specs.Same.{same}
use Rattle.text.specs.Field.{Got, none, some, num_then, word_last}
use Rattle.text.specs.Number.{number, write_number}
use Rattle.text.specs.Pieces.{Pieces, final, piece, onto, pieces, lines, fields, write_fields, write_lines, Without, empty, Clear, clear, clears}
use Rattle.text.specs.Word.{WordField, no_word, word}

-- What reads as a line of a formula is the text of it.
module _ (ps : Pieces) (c : ℕ) (w : List ℕ) (h : row_form ps ≡ row c w) where
  clash : no_row ≡ row_form ps → ⊥
  clash e = let q : no_row ≡ row c w = e ∙ h in let y : ◌≡◌ {A = ℕ} 0 1 = cc in omega arith

  by_word : (c' : ℕ) (ps₁ : Pieces) → num_then number ps ≡ some c' ps₁ → (x : WordField) → word_last ps₁ ≡ x → ps ≡ row_fields c w
  unfolding row_fields
  by_word c' ps₁ a no_word e = absurd (clash (row_no_word ps c' ps₁ a e))
  by_word c' ps₁ a (word w') e =
      let z : row c' w' ≡ row c w = row-whole ps c' ps₁ a w' e ∙ h in
      let x : c' ≡ c = cc in
      let y : w' ≡ w = cc in
      (number-starts ps c' ps₁ a).0 ∙ ap (piece (write_number c')) (word_ends ps₁ w' e).0 ∙ ap₂ row_fields x y

  by_coef : (g : Got) → num_then number ps ≡ g → ps ≡ row_fields c w
  by_coef none a = absurd (clash (row_no_coef ps a))
  by_coef (some c' ps₁) a = by_word c' ps₁ a (word_last ps₁) refl

  row-text : ps ≡ row_fields c w
  row-text = by_coef (num_then number ps) refl

-- A line that is accepted is the text of a term in bounds and in order.
module _ (p letters : ℕ) (lim : Limits) (v : List ℕ) (n : ℕ) (l : List ℕ) (c : ℕ) (w : List ℕ) (e : judge_row p letters lim v n l ≡ row c w) where
  by_form : (f : TermRow) → row_form (fields l) ≡ f → (l ≡ write_fields (row_fields c w)) × (row_fits p letters lim v n c w ≡ true)
  unfolding judge_row row_judged
  by_form no_row q = absurd (let z : no_row ≡ row c w = row_shapeless p letters lim v n l (sym q) ∙ e in let y : ◌≡◌ {A = ℕ} 0 1 = cc in omega arith)
  by_form (row c' w') q = go (row_fits p letters lim v n c' w') refl (sym (ap (row_judged p letters lim v n) q) ∙ e)
    where
      go : (t : Bool) → row_fits p letters lim v n c' w' ≡ t → row_judged p letters lim v n (row c' w') ≡ row c w
          → (l ≡ write_fields (row_fields c w)) × (row_fits p letters lim v n c w ≡ true)
      go false f j = absurd (let z : no_row ≡ row c w = rw (row_judged, f) at j in let y : ◌≡◌ {A = ℕ} 0 1 = cc in omega arith)
      go true f j =
          let z : row c' w' ≡ row c w = rw (row_judged, f) at j in
          let x : c' ≡ c = cc in
          let y : w' ≡ w = cc in
          rw (← x, ← y) (sym (joined-pieces 32 l) ∙ ap write_fields (row-text (fields l) c' w' q), f)

  accepted-row : (l ≡ write_fields (row_fields c w)) × (row_fits p letters lim v n c w ≡ true)
  accepted-row = by_form (row_form (fields l)) refl

-- The lines of a formula, read behind the terms ts₀: they are the text of more terms in order.
record RowsText (p letters : ℕ) (lim : Limits) (v : List ℕ) (ts₀ : List Term) (ps : Pieces) (ts : List Term) : Type 0 where
  more : List Term
  terms : ts ≡ ts₀ ++ more
  cut : ps ≡ row_lines more
  order : RowsInOrder p letters lim v (length ts₀) more

module _ (p letters : ℕ) (lim : Limits) (ts : List Term) where
  rows-text : (ps : Pieces) (v : List ℕ) (ts₀ : List Term) (n : ℕ) → rows p letters lim v ts₀ n ps ≡ formula ts → RowsText p letters lim v ts₀ ps ts
  unfolding rows rows_end_of row_lines
  rows-text (final []) v ts₀ n e =
      let x : ts₀ ≡ ts = cc in
      record { more = []; terms = sym x ∙ sym (append-nil ts₀); cut = refl; order = no_rows }
  rows-text (final (a ∷ xs)) v ts₀ n e = absurd (let y : ◌≡◌ {A = ℕ} 0 1 = cc in omega arith)
  rows-text (piece l ls) v ts₀ n e = by_row (judge_row p letters lim v (length ts₀) l) refl (rows-text ls)
    where
      by_row : (f : TermRow) → judge_row p letters lim v (length ts₀) l ≡ f
          → ((u : List ℕ) (us : List Term) (k : ℕ) → rows p letters lim u us k ls ≡ formula ts → RowsText p letters lim u us ls ts)
          → RowsText p letters lim v ts₀ (piece l ls) ts
      by_row no_row j ih = absurd (let z : wrong_at n ≡ formula ts = rw (rows, j) at e in let y : ◌≡◌ {A = ℕ} 0 1 = cc in omega arith)
      by_row (row c w) j ih =
          let t : Term = record { coef = c; word = w } in
          let z = ih w (ts₀ ++ (t ∷ [])) (suc n) (rw (rows, j) at e) in
          let f = accepted-row p letters lim v (length ts₀) l c w j in
          let d : length (ts₀ ++ (t ∷ [])) ≡ suc (length ts₀) = rw length-append (omega arith) in
          record {
            more = t ∷ z.more;
            terms = z.terms ∙ append_assoc ts₀ (t ∷ []) z.more;
            cut = ap₂ piece f.0 z.cut;
            order = row_then f.1 (rw d at z.order);
          }

-- A term in bounds has the form of a number and a word.
row_numbers : (p letters : ℕ) (lim : Limits) (v : List ℕ) (n c : ℕ) (w : List ℕ) → p ≤ 65521 → letters ≤ 26 → row_fits p letters lim v n c w ≡ true
    → (c < 100000) × (all_within 97 122 w ≡ true)
unfolding row_fits
row_numbers p letters lim v n c w a b = go (coef_fits p c) (word_fits_of lim.len letters w) refl refl
  where
    go : (t u : Bool) → coef_fits p c ≡ t → word_fits_of lim.len letters w ≡ u
        → ◌≡◌ {A = Bool} (elim t [
          | false ↦ false
          | true ↦ elim u [
            | false ↦ false
            | true ↦ elim
                (ltb n lim.terms) [ false ↦ false | true ↦ elim (eqb n 0) [ true ↦ true | false ↦ is_below w v ] ]
          ]
        ]) true
        → (c < 100000) × (all_within 97 122 w ≡ true)
    go false u x y e = absurd (false≢true e)
    go true false x y e = absurd (false≢true e)
    go true true x y e = (omega (arith, coef-below p c x), word-letters lim.len letters w b y)

-- A written line of a formula.
module _ (c : ℕ) (w : List ℕ) (l : all_within 97 122 w ≡ true) where
  row-clear : (b : ℕ) → b < 45 → Clear b (row_fields c w)
  unfolding row_fields
  row-clear b h = clears (number-clear b c (omega arith)) (clear (word-clear b w h l))

  row-line-clear : Without 10 (write_fields (row_fields c w))
  row-line-clear = without-joined (λ (e : 32 ≡ 10). omega arith) (row-clear 10 (omega arith))

  text-row : c < 100000 → row_form (fields (write_fields (row_fields c w))) ≡ row c w
  unfolding row_fields
  text-row a =
      ap row_form (fields-written (row-clear 32 (omega arith)))
      ∙ sym (row-whole (row_fields c w) c _ (starts-number c _ a) w (ends_word w l))

-- The names line holds no byte 10.
names_clear : Without 10 formula_names
unfolding pieces onto
names_clear = without-final formula_names refl

-- Written terms in order are read back.
module _ (p letters : ℕ) (lim : Limits) (a : p ≤ 65521) (b : letters ≤ 26) where
  text-rows : (v : List ℕ) (ts₀ ts : List Term) (n m : ℕ) → length ts₀ ≡ m → RowsInOrder p letters lim v m ts
      → rows p letters lim v ts₀ n (row_lines ts) ≡ formula (ts₀ ++ ts)
  unfolding rows row_lines rows_end_of judge_row row_judged
  text-rows v ts₀ [] n m e no_rows = rw append-nil
  text-rows v ts₀ (t ∷ ts) n m e (row_then o os) =
      let q = row_numbers p letters lim v m t.coef t.word a b o in
      let f = text-row t.coef t.word q.1 q.0 in
      let j : judge_row p letters lim v m (write_fields (row_fields t.coef t.word)) ≡ row t.coef t.word = rw (judge_row, f, row_judged, o) in
      let j' = rw (← e) at j in
      let d : length (ts₀ ++ (t ∷ [])) ≡ suc m = rw length-append (omega arith) in
      rw (rows, j') (text-rows t.word (ts₀ ++ (t ∷ [])) ts (suc n) (suc m) d os ∙ ap formula (append_assoc ts₀ (t ∷ []) ts))

  rows-clear : (v : List ℕ) (m : ℕ) (ts : List Term) → RowsInOrder p letters lim v m ts → Clear 10 (row_lines ts)
  unfolding row_lines
  rows-clear v m [] no_rows = clear empty
  rows-clear v m (t ∷ ts) (row_then o os) =
      let q = row_numbers p letters lim v m t.coef t.word a b o in
      clears (row-line-clear t.coef t.word q.1) (rows-clear t.word (suc m) ts os)

  pub formula-written : (ts : List Term) → RowsInOrder p letters lim [] 0 ts → read_formula p letters lim (write_formula ts) ≡ formula ts
  unfolding read_formula formula_lines write_formula
  formula-written ts o =
      ap (formula_lines p letters lim) (lines-written (clears names_clear (rows-clear [] 0 ts o))) ∙ text-rows [] [] ts 2 0 refl o

-- What reads is the text of its terms, and they are in order.
formula-lines-text : (p letters : ℕ) (lim : Limits) (ts : List Term) (ps : Pieces) → formula_lines p letters lim ps ≡ formula ts
    → RowsInOrder p letters lim [] 0 ts × (ps ≡ piece formula_names (row_lines ts))
unfolding formula_lines
formula-lines-text p letters lim ts (final x) e = absurd (let y : ◌≡◌ {A = ℕ} 0 1 = cc in omega arith)
formula-lines-text p letters lim ts (piece l ls) e = go (same l formula_names) refl
  where
    go : (t : Bool) → same l formula_names ≡ t → RowsInOrder p letters lim [] 0 ts × (piece l ls ≡ piece formula_names (row_lines ts))
    go false q = absurd (let z : wrong_at 1 ≡ formula ts = rw (formula_lines, q) at e in let y : ◌≡◌ {A = ℕ} 0 1 = cc in omega arith)
    go true q =
        let z = rows-text p letters lim ts ls [] [] 2 (rw (formula_lines, q) at e) in
        let m : z.more ≡ ts = sym z.terms in
        (subst (RowsInOrder p letters lim [] 0) m z.order, ap₂ piece (same-eq l formula_names q) (z.cut ∙ ap row_lines m))

pub formula-reads : (p letters : ℕ) (lim : Limits) (s : List ℕ) (ts : List Term) → read_formula p letters lim s ≡ formula ts
    → RowsInOrder p letters lim [] 0 ts × (s ≡ write_formula ts)
unfolding read_formula write_formula
formula-reads p letters lim s ts e =
    let t = formula-lines-text p letters lim ts (lines s) e in
    (t.0, sym (joined-pieces 10 s) ∙ ap write_lines t.1)

-- The theorem.
pub formula-reads_iff : (p letters : ℕ) (lim : Limits) → p ≤ 65521 → letters ≤ 26 → (s : List ℕ) (ts : List Term)
    → (read_formula p letters lim s ≡ formula ts) ↔ (RowsInOrder p letters lim [] 0 ts × (s ≡ write_formula ts))
formula-reads_iff p letters lim a b s ts =
    (formula-reads p letters lim s ts, λ r. ap (read_formula p letters lim) r.1 ∙ formula-written p letters lim a b ts r.0)
