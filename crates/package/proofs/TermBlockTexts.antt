-- Block 2 as text: what is read is the writing of terms in order, and written terms in order are read back.
use mathlib.Core.Path.{◌≡◌, refl, sym, ap, ap₂, ◌∙◌}
use mathlib.Core.Bool.{Bool, true, false}
use mathlib.Core.List.{List, [], ◌∷◌, ◌++◌, append_assoc, append-nil}
use Prim.Native.Nat.{ℕ, suc, ◌+◌}
use native.Mathlib.Omega.{arith}
use lib.ListN.{length, length-append}
use Rattle.package.proofs.Answers.{refused_not_read, read_injective}
use Rattle.package.proofs.TermJudging.{judge_5, judge_6, by_room, judge_2}
use Rattle.package.proofs.TermTexts.{term-text}
use Rattle.package.specs.Answer.{read}
use Rattle.package.specs.Names.{sum_names}
use Rattle.package.specs.Readable.{under, TermInOrder, TermsInOrder, no_terms, term_then}
use Rattle.package.specs.Terms.{TermLine, TermForm, no_term, term, term_form, term_fits, LineAbove, follows, has_room, TermVerdict, refused_by, accept, judged, judge_term, TermBlock, block2}
use Rattle.package.specs.Writing.{term_fields, term_lines_of}
use Rattle.package.specs.declared.Head.{Head}
use Rattle.package.specs.declared.Limits.{Limits}
use Rattle.lists.proofs.Sameness.{same-eq}
use Rattle.text.proofs.PieceTexts.{joined-pieces}
use Rattle.lists.specs.Same.{same}
use Rattle.text.specs.Pieces.{Pieces, final, piece, fields, write_fields}

-- A line that is accepted is the text of a term in order.
module _ (h : Head) (lim : Limits) (a : LineAbove) (n : ℕ) (l : List ℕ) (k i c : ℕ) (w : List ℕ) (e : judge_term h lim a n l ≡ accept k i c w) where
  abbrev pub Accepted : Type 0
  Accepted = (l ≡ write_fields (term_fields k i c w)) × TermInOrder h lim a n (record { kind = k; item = i; coef = c; word = w })

  refused_not : (v : ℕ) → refused_by v ≡ judge_term h lim a n l → ⊥
  refused_not v q = let z : refused_by v ≡ accept k i c w = q ∙ e in let y : ◌≡◌ {A = ℕ} 0 1 = cc in omega arith

  module _ (k' i' c' : ℕ) (w' : List ℕ) (q : term_form (fields l) ≡ term k' i' c' w') where
    the_verdict : judged h lim a n (term k' i' c' w') ≡ judge_term h lim a n l
    unfolding judge_term
    the_verdict = sym (ap (judged h lim a n) q)

    by_tests : (t u v : Bool) → term_fits h lim k' i' c' w' ≡ t → follows a k' i' w' ≡ u → has_room lim a n k' i' ≡ v → Accepted
    by_tests false u v f o r = absurd (refused_not 5 (judge_5 h lim a n k' i' c' w' f ∙ the_verdict))
    by_tests true false v f o r = absurd (refused_not 6 (judge_6 h lim a n k' i' c' w' f o ∙ the_verdict))
    by_tests true true false f o r = absurd (refused_not 7 (by_room h lim a n k' i' c' w' f o false r ∙ the_verdict))
    by_tests true true true f o r =
        let z : accept k' i' c' w' ≡ accept k i c w = by_room h lim a n k' i' c' w' f o true r ∙ the_verdict ∙ e in
        let x₁ : k' ≡ k = cc in
        let x₂ : i' ≡ i = cc in
        let x₃ : c' ≡ c = cc in
        let x₄ : w' ≡ w = cc in
        let t = term-text (fields l) k' i' c' w' q in
        rw (← x₁, ← x₂, ← x₃, ← x₄)
        (sym (joined-pieces 32 l) ∙ ap write_fields t.cut, record { ranked = t.ranked; fits = f; order = o; room = r })

  by_form : (f : TermForm) → term_form (fields l) ≡ f → Accepted
  by_form no_term q = absurd (refused_not 2 (judge_2 h lim a n l (sym q)))
  by_form (term k' i' c' w') q = by_tests k' i' c' w' q (term_fits h lim k' i' c' w') (follows a k' i' w') (has_room lim a n k' i') refl refl refl

  pub accepted : Accepted
  accepted = by_form (term_form (fields l)) refl

-- The lines of block 2, read behind the terms ts₀: they are the text of more terms in order, and the names line of block 3.
pub record Block2Text (h : Head) (lim : Limits) (a : LineAbove) (ts₀ : List TermLine) (n : ℕ) (ps : Pieces) (b : TermBlock) : Type 0 where
  pub more : List TermLine
  pub head : b.head ≡ h
  pub terms : b.terms ≡ ts₀ ++ more
  pub line : b.line ≡ suc (n + length more)
  pub cut : ps ≡ term_lines_of more (piece sum_names b.rest)
  pub order : TermsInOrder h lim a (length ts₀) more

module _ (h : Head) (lim : Limits) (b : TermBlock) where
  pub block2-text : (ps : Pieces) (a : LineAbove) (ts₀ : List TermLine) (n : ℕ) → block2 h lim a ts₀ n ps ≡ read b → Block2Text h lim a ts₀ n ps b
  unfolding block2 term_lines_of
  block2-text (final x) a ts₀ n e = absurd (refused_not_read 2 n b e)
  block2-text (piece l ls) a ts₀ n e = by_names (same l sum_names) refl (block2-text ls)
    where
      by_names : (t : Bool) → same l sum_names ≡ t → ((a' : LineAbove) (ts' : List TermLine) (k : ℕ) → block2 h lim a' ts' k ls ≡ read b → Block2Text h lim a' ts' k ls b)
          → Block2Text h lim a ts₀ n (piece l ls) b
      by_names true q ih =
          let z = read_injective (record { head = h; terms = ts₀; line = suc n; rest = ls }) b (rw (block2, q) at e) in
          let y : suc n ≡ b.line = ap (λ (x : TermBlock). x.line) z in
          record {
            more = [];
            head = sym (ap (λ (x : TermBlock). x.head) z);
            terms = sym (ap (λ (x : TermBlock). x.terms) z) ∙ sym (append-nil ts₀);
            line = omega arith;
            cut = ap₂ piece (same-eq l sum_names q) (ap (λ (x : TermBlock). x.rest) z);
            order = no_terms;
          }
      by_names false q ih = by_verdict (judge_term h lim a (length ts₀) l) refl
        where
          by_verdict : (v : TermVerdict) → judge_term h lim a (length ts₀) l ≡ v → Block2Text h lim a ts₀ n (piece l ls) b
          by_verdict (refused_by r) j = absurd (refused_not_read r n b (rw (block2, q, j) at e))
          by_verdict (accept k i c w) j =
              let t : TermLine = record { kind = k; item = i; coef = c; word = w } in
              let z = ih (under a t) (ts₀ ++ (t ∷ [])) (suc n) (rw (block2, q, j) at e) in
              let f = accepted h lim a (length ts₀) l k i c w j in
              let d : length (ts₀ ++ (t ∷ [])) ≡ suc (length ts₀) = rw length-append (omega arith) in
              record {
                more = t ∷ z.more;
                head = z.head;
                terms = z.terms ∙ append_assoc ts₀ (t ∷ []) z.more;
                line = omega (arith, z.line);
                cut = ap₂ piece f.0 z.cut;
                order = term_then f.1 (rw d at z.order);
              }

-- A term in order is accepted.
pub in_order-accepted : (h : Head) (lim : Limits) (a : LineAbove) (n : ℕ) (l : List ℕ) (t : TermLine) → term_form (fields l) ≡ term t.kind t.item
    t.coef t.word → TermInOrder h lim a n t
    → judge_term h lim a n l ≡ accept t.kind t.item t.coef t.word
unfolding judge_term
in_order-accepted h lim a n l t f o =
    ap (judged h lim a n) f ∙ sym (by_room h lim a n t.kind t.item t.coef t.word o.fits o.order true o.room)
