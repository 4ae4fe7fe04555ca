-- A line of a formula: its fields and what it is judged, one law for each way through a reader.
use mathlib.Core.Path.{◌≡◌, refl, sym, ap, ◌∙◌}
use mathlib.Core.Bool.{Bool, true, false, false≢true}
use mathlib.Core.List.{List}
use Prim.Native.Nat.{ℕ, ◌+◌, ◌-◌, ◌≤◌, ◌<◌}
use native.Mathlib.Omega.{arith}
use lib.Dec.{ltb, eqb}
use lib.ListN.{length, take, drop, length-drop}
use lib.Seq.{drop-drop, length-take-le}
use borrow.Author.Tests.{ltb-true}
use Rattle.std.specs.Prelude.{Some}
use Rattle.package.specs.Bounds.{coef_fits, word_fits_of}
use Rattle.words.specs.Below.{is_below}
use Rattle.package.specs.Formula.{TermRow, no_row, row, row_form, row_fits, row_judged, judge_row}
use Rattle.package.specs.Held.{reach_row}
use Rattle.package.specs.declared.Limits.{Limits}
use Rattle.package.specs.declared.RowAt.{RowAt}
use Rattle.lists.proofs.Parts.{part-part}
use Rattle.text.specs.Field.{none, some, num_then, word_last}
use Rattle.text.specs.Number.{number}
use Rattle.text.specs.Pieces.{Pieces, fields, part}
use Rattle.text.specs.Word.{no_word, word}

-- The two fields.
module _ (ps : Pieces) where
  pub row_no_coef : num_then number ps ≡ none → no_row ≡ row_form ps
  unfolding row_form
  row_no_coef a = rw (row_form, a)

  module _ (c : ℕ) (ps₁ : Pieces) (a : num_then number ps ≡ some c ps₁) where
    pub row_no_word : word_last ps₁ ≡ no_word → no_row ≡ row_form ps
    unfolding row_form
    row_no_word b = rw (row_form, a, b)

    pub row-whole : (w : List ℕ) → word_last ps₁ ≡ word w → row c w ≡ row_form ps
    unfolding row_form
    row-whole w b = rw (row_form, a, b)

-- A line from its bytes.
pub row_shapeless : (p letters : ℕ) (lim : Limits) (v : List ℕ) (n : ℕ) (l : List ℕ) → no_row ≡ row_form (fields l) → no_row ≡ judge_row p letters lim v n l
unfolding judge_row row_judged
row_shapeless p letters lim v n l q = rw (judge_row, ← q)

module _ (p letters : ℕ) (lim : Limits) (v : List ℕ) (n : ℕ) (s : List ℕ) (at m a k c : ℕ) (b : a + k ≤ m)
    (q : row c (part (part s at m) a k) ≡ row_form (fields (part s at m))) where
  the_row : row_form (fields (part s at m)) ≡ row c (part s (at + a) k)
  the_row = sym q ∙ ap (row c) (part-part (drop at s) a k m b ∙ ap (take k) (drop-drop a at s))

  pub row_refused : row_fits p letters lim v n c (part s (at + a) k) ≡ false → no_row ≡ judge_row p letters lim v n (part s at m)
  unfolding judge_row row_judged
  row_refused f = rw (judge_row, the_row, row_judged, f)

  pub row_accepted : row_fits p letters lim v n c (part s (at + a) k) ≡ true → row c (part s (at + a) k) ≡ judge_row p letters lim v n (part s at m)
  unfolding judge_row row_judged
  row_accepted f = rw (judge_row, the_row, row_judged, f)

-- The word of a term lies in the line.
pub row_inside : (s : List ℕ) (at e : ℕ) (t : RowAt) → reach_row (Some t) ≤ length (take (e - at) (drop at s)) → at ≤ e → e ≤ length s → t.start + t.len ≤ e - at
unfolding reach_row
row_inside s at e t b h z =
    let y : e - at ≤ length (drop at s) = rw (length-drop at s) (omega arith) in
    omega (arith, length-take-le (e - at) (drop at s) y)

-- A term in order was not one too many.
fits-room : (p letters : ℕ) (lim : Limits) (v : List ℕ) (n c : ℕ) (w : List ℕ) → row_fits p letters lim v n c w ≡ true → n < lim.terms
unfolding row_fits
fits-room p letters lim v n c w = go (coef_fits p c) (word_fits_of lim.len letters w) (ltb n lim.terms) refl
  where
    go : (t u x : Bool) → ltb n lim.terms ≡ x
        → ◌≡◌ {A = Bool} (elim t [
          | false ↦ false
          | true ↦ elim u [
            | false ↦ false
            | true ↦ elim x [
              | false ↦ false
              | true ↦ elim
                  (eqb n 0) [ true ↦ true | false ↦ is_below w v ]
            ]
          ]
        ]) true
        → n < lim.terms
    go false u x e h = absurd (false≢true h)
    go true false x e h = absurd (false≢true h)
    go true true false e h = absurd (false≢true h)
    go true true true e h = ltb-true n lim.terms e

judged-fits : (p letters : ℕ) (lim : Limits) (v : List ℕ) (n : ℕ) (f : TermRow) (c : ℕ) (w : List ℕ) → row_judged p letters lim v n f ≡ row c w → n < lim.terms
unfolding row_judged
judged-fits p letters lim v n no_row c w e = absurd (let y : ◌≡◌ {A = ℕ} 0 1 = cc in omega arith)
judged-fits p letters lim v n (row c' w') c w e = go (row_fits p letters lim v n c' w') refl e
  where
    go : (t : Bool) → row_fits p letters lim v n c' w' ≡ t → ◌≡◌ {A = TermRow} (elim t [ false ↦ no_row | true ↦ row c' w' ]) (row c w) → n < lim.terms
    go false q h = absurd (let y : ◌≡◌ {A = ℕ} 0 1 = cc in omega arith)
    go true q h = fits-room p letters lim v n c' w' q

pub row_room : (p letters : ℕ) (lim : Limits) (v : List ℕ) (n : ℕ) (l : List ℕ) (c : ℕ) (w : List ℕ) → judge_row p letters lim v n l ≡ row c w → n < lim.terms
unfolding judge_row
row_room p letters lim v n l c w e = judged-fits p letters lim v n (row_form (fields l)) c w e
