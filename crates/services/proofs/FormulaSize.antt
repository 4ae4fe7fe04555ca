-- A formula that reads has at most 48 terms.
use mathlib.Core.Bool.{Bool, true, false}
use mathlib.Core.List.{List, [], ◌∷◌}
use Prim.Native.Nat.{ℕ, suc, ◌+◌, ◌≤◌}
use native.Mathlib.Omega.{arith}
use lib.Dec.{eqb, ltb}
use lib.ListN.{length}
use borrow.Author.Tests.{ltb-true}
use Rattle.words.specs.Word.{Word}
use Rattle.words.specs.Below.{is_below}
use Rattle.algebra.specs.Poly.{Poly}
use Rattle.package.specs.declared.Limits.{Limits}
use Rattle.package.specs.Bounds.{coef_fits, word_fits_of}
use Rattle.package.specs.Formula.{row_fits}
use Rattle.package.specs.Package.{Package}
use Rattle.package.specs.Readable.{RowsInOrder, no_rows, row_then}
use Rattle.package.proofs.FormulaTexts.{formula-reads}
use Rattle.acceptance.specs.Reduction.{formula_limits}
use Rattle.acceptance.proofs.LineFacts.{both}
use Rattle.services.specs.Demands.{ReadAs}

-- Terms in order, n before them, are not more than the limit.
rows_few : (p letters : ℕ) (m : Limits) (v : Word) (n : ℕ) (ts : Poly) → n ≤ m.terms → RowsInOrder p letters m v n ts → n + length ts ≤ m.terms
unfolding row_fits
rows_few p letters m v n [] h no_rows = omega arith
rows_few p letters m v n (t ∷ ts) h (row_then e os) =
    let fall : Bool = elim (eqb n 0) [ true ↦ true | false ↦ is_below t.word v ] in
    let room : Bool = elim (ltb n m.terms) [ false ↦ false | true ↦ fall ] in
    let (a, e₁) = both (coef_fits p t.coef) (elim (word_fits_of m.len letters t.word) [ false ↦ false | true ↦ room ]) e in
    let (b, e₂) = both (word_fits_of m.len letters t.word) room e₁ in
    let (d, e₃) = both (ltb n m.terms) fall e₂ in
    let l = ltb-true n m.terms d in
    let i = rows_few p letters m t.word (suc n) ts (omega arith) os in omega arith

pub formula-size : (P : Package) (text : List ℕ) (f : Poly) → ReadAs P text f → length f ≤ 48
formula-size P text f reads =
    let o = (formula-reads P.head.p P.head.letters formula_limits text f reads).0 in
    let l = rows_few P.head.p P.head.letters formula_limits [] 0 f (omega arith) o in omega arith
