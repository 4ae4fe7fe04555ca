-- Block 3 as text: what is read is the writing of sum lines in order, and written sum lines in order are read.
use mathlib.Core.Path.{◌≡◌, refl, sym, ap, ap₂, subst, ◌∙◌}
use mathlib.Core.Bool.{Bool, true, false}
use mathlib.Core.List.{List, [], ◌∷◌}
use Prim.Native.Nat.{ℕ, suc}
use native.Mathlib.Omega.{arith}
use Rattle.package.proofs.Answers.{refused_not_read}
use Rattle.package.proofs.SumLines.{judge3_2, judge3_5, judge3_6, judge3_0}
use Rattle.package.proofs.SumTexts.{sum-text}
use Rattle.package.specs.Readable.{SumsInOrder, no_sums, sum_then}
use Rattle.package.specs.Sums.{SumLine, SumForm, no_sum, sum, sum_form, sum_fits, sum_follows, SumVerdict, refused_by, accept, judge_sum, sums_read, at_end, block3, with_sum, sums_of}
use Rattle.package.specs.Writing.{sum_lines_of}
use Rattle.package.specs.declared.Head.{Head}
use Rattle.package.specs.declared.Limits.{Limits}
use Rattle.text.proofs.PieceTexts.{joined-pieces}
use Rattle.text.specs.Pieces.{Pieces, final, piece, fields, write_fields}

-- A line that is accepted says a sum line in order.
record SumAccepted (h : Head) (lim : Limits) (k' i' : ℕ) (line : List ℕ) (k i : ℕ) : Type 0 where
  coef : ℕ
  left : List ℕ
  of : ℕ
  right : List ℕ
  form : sum_form (fields line) ≡ sum k i coef left of right
  fits : sum_fits h lim k i coef left of right ≡ true
  order : sum_follows k' i' k i ≡ true

module _ (h : Head) (lim : Limits) (k' i' : ℕ) (line : List ℕ) (k i : ℕ) (e : judge_sum h lim k' i' line ≡ accept k i) where
  refused_not : (v : ℕ) → refused_by v ≡ judge_sum h lim k' i' line → ⊥
  refused_not v q = let z : refused_by v ≡ accept k i = q ∙ e in let y : ◌≡◌ {A = ℕ} 0 1 = cc in omega arith

  module _ (k₁ i₁ c : ℕ) (l : List ℕ) (o : ℕ) (r : List ℕ) (q : sum_form (fields line) ≡ sum k₁ i₁ c l o r) where
    by_tests : (t u : Bool) → sum_fits h lim k₁ i₁ c l o r ≡ t → sum_follows k' i' k₁ i₁ ≡ u → SumAccepted h lim k' i' line k i
    by_tests false u f g = absurd (refused_not 5 (judge3_5 h lim k' i' line k₁ i₁ c l o r q f))
    by_tests true false f g = absurd (refused_not 6 (judge3_6 h lim k' i' line k₁ i₁ c l o r q f g))
    by_tests true true f g =
        let z : accept k₁ i₁ ≡ accept k i = judge3_0 h lim k' i' line k₁ i₁ c l o r q f g ∙ e in
        let x₁ : k₁ ≡ k = cc in
        let x₂ : i₁ ≡ i = cc in
        rw (← x₁, ← x₂) (record { coef = c; left = l; of = o; right = r; form = q; fits = f; order = g })

  by_form : (f : SumForm) → sum_form (fields line) ≡ f → SumAccepted h lim k' i' line k i
  by_form no_sum q = absurd (refused_not 2 (judge3_2 h lim k' i' line q))
  by_form (sum k₁ i₁ c l o r) q = by_tests k₁ i₁ c l o r q (sum_fits h lim k₁ i₁ c l o r) (sum_follows k' i' k₁ i₁) refl refl

  accepted-sum : SumAccepted h lim k' i' line k i
  accepted-sum = by_form (sum_form (fields line)) refl

-- What is read is the text of its sum lines, and they are in order.
pub record Block3Text (h : Head) (lim : Limits) (k' i' n : ℕ) (ps : Pieces) : Type 0 where
  pub cut : ps ≡ sum_lines_of (sums_of n ps)
  pub order : SumsInOrder h lim k' i' n (sums_of n ps)

module _ (h : Head) (lim : Limits) where
  pub block3-text : (ps : Pieces) (k' i' n : ℕ) → block3 h lim k' i' n ps ≡ sums_read → Block3Text h lim k' i' n ps
  unfolding block3 sums_of sum_lines_of at_end with_sum
  block3-text (final []) k' i' n e = record { cut = refl; order = no_sums }
  block3-text (final (x ∷ xs)) k' i' n e = absurd (refused_not_read 2 n tt e)
  block3-text (piece l ls) k' i' n e = by_verdict (judge_sum h lim k' i' l) refl (block3-text ls)
    where
      by_verdict : (v : SumVerdict) → judge_sum h lim k' i' l ≡ v → ((k i m : ℕ) → block3 h lim k i m ls ≡ sums_read → Block3Text h lim k i m ls)
          → Block3Text h lim k' i' n (piece l ls)
      by_verdict (refused_by r) j ih = absurd (refused_not_read r n tt (rw (block3, j) at e))
      by_verdict (accept k i) j ih =
          let a = accepted-sum h lim k' i' l k i j in
          let t = sum-text (fields l) k i a.coef a.left a.of a.right a.form in
          let z = ih k i (suc n) (rw (block3, j) at e) in
          let x : SumLine = record { line = n; kind = k; item = i; coef = a.coef; left = a.left; of = a.of; right = a.right } in
          let s : sums_of n (piece l ls) ≡ x ∷ sums_of (suc n) ls = rw (sums_of, a.form) in
          record {
            cut = ap₂ piece (sym (joined-pieces 32 l) ∙ ap write_fields t.cut) z.cut ∙ ap sum_lines_of (sym s);
            order =
                subst (SumsInOrder h lim k' i' n) (sym s)
                (sum_then (record { numbered = refl; ranked = t.ranked; digits = t.item; fits = a.fits; order = a.order }) z.order);
          }
