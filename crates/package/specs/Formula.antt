-- A formula: names line `coef word`, then terms in falling order. Whatever is wrong in it is refusal 16 at the first line with a fault.
use Rattle.std.specs.Prelude.{Bool, true, false, List, [], ◌∷◌, ◌++◌, ℕ, suc, ltb, eqb, length}
use Rattle.algebra.specs.Poly.{Term}
use Rattle.package.specs.Bounds.{coef_fits, word_fits_of}
use Rattle.words.specs.Below.{is_below}
use Rattle.package.specs.Names.{formula_names}
use Rattle.package.specs.declared.Limits.{Limits}
use Rattle.lists.specs.Same.{same}
use Rattle.text.specs.Field.{none, some, num_then, word_last}
use Rattle.text.specs.Number.{number}
use Rattle.text.specs.Pieces.{Pieces, final, piece, pieces, lines, fields}
use Rattle.text.specs.Word.{no_word, word}

-- What a formula is read as: refused at a line, or its terms, greatest word first.
pub data FormulaOutcome : Type 0 where
  wrong_at : ℕ → FormulaOutcome
  formula : List Term → FormulaOutcome

-- What a line says as a term of a formula.
pub data TermRow : Type 0 where
  no_row : TermRow
  row : ℕ → List ℕ → TermRow

-- Two fields: coef word.
unfoldable pub row_form : Pieces → TermRow
unfolding num_then word_last number
row_form ps = elim (num_then number ps) [ none ↦ no_row | some c ps₁ ↦ elim (word_last ps₁) [ no_word ↦ no_row | word w ↦ row c w ] ]

-- The term behind n terms, the last of which has the word v: coef and word in bounds, falling, and not one term too many.
unfoldable pub row_fits : ℕ → ℕ → Limits → List ℕ → ℕ → ℕ → List ℕ → Bool
unfolding coef_fits word_fits_of is_below
row_fits p letters m v n c w = elim (coef_fits p c) [
  | false ↦ false
  | true ↦ elim (word_fits_of m.len letters w) [
    | false ↦ false
    | true ↦ elim (ltb n m.terms) [ false ↦ false | true ↦ elim (eqb n 0) [ true ↦ true | false ↦ is_below w v ] ]
  ]
]

-- A line of a formula that has its shape and its bounds, or not.
unfoldable pub row_judged : ℕ → ℕ → Limits → List ℕ → ℕ → TermRow → TermRow
unfolding row_fits
row_judged p letters m v n no_row = no_row
row_judged p letters m v n (row c w) = elim (row_fits p letters m v n c w) [ false ↦ no_row | true ↦ row c w ]

unfoldable pub judge_row : ℕ → ℕ → Limits → List ℕ → ℕ → List ℕ → TermRow
unfolding row_judged row_form pieces
judge_row p letters m v n l = row_judged p letters m v n (row_form (fields l))

-- Nothing follows the last byte 10, or else the line is unfinished.
unfoldable pub rows_end_of : List Term → ℕ → List ℕ → FormulaOutcome
rows_end_of ts line [] = formula ts
rows_end_of ts line (x ∷ xs) = wrong_at line

-- Lines from number `line` on, behind the terms ts, the last of which has the word v.
unfoldable pub rows : ℕ → ℕ → Limits → List ℕ → List Term → ℕ → Pieces → FormulaOutcome
unfolding judge_row rows_end_of
rows p letters m v ts line (final x) = rows_end_of ts line x
rows p letters m v ts line (piece l ls) = elim (judge_row p letters m v (length ts) l) [
  | no_row ↦ wrong_at line
  | row c w ↦ rows p letters m w (ts ++ (record { coef = c; word = w } ∷ [])) (suc line) ls
]

unfoldable pub formula_lines : ℕ → ℕ → Limits → Pieces → FormulaOutcome
unfolding rows same
formula_lines p letters m (final x) = wrong_at 1
formula_lines p letters m (piece l ls) = elim (same l formula_names) [ false ↦ wrong_at 1 | true ↦ rows p letters m [] [] 2 ls ]

-- What bytes are read as over the field that p means, with so many letters, at most `terms` terms and words of at most `len` letters.
unfoldable pub read_formula : ℕ → ℕ → Limits → List ℕ → FormulaOutcome
unfolding formula_lines pieces
read_formula p letters m bytes = formula_lines p letters m (lines bytes)
