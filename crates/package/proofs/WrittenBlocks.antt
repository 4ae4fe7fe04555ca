-- Written terms and sum lines in order are read back.
use mathlib.Core.Path.{◌≡◌, refl, sym, ap, ap₂, ◌∙◌}
use mathlib.Core.List.{List, [], ◌∷◌, ◌++◌, append_assoc, append-nil}
use Prim.Native.Nat.{ℕ, suc, ◌+◌}
use native.Mathlib.Omega.{arith}
use lib.ListN.{length, length-append}
use Rattle.package.proofs.LineBounds.{HeadBounds, term_numbers, sum_numbers}
use Rattle.package.proofs.SumLines.{judge3_0}
use Rattle.package.proofs.SumTexts.{sum-line-clear, text-sum}
use Rattle.package.proofs.TermBlockTexts.{in_order-accepted}
use Rattle.package.proofs.TermTexts.{term-line-clear, text-term, not_names}
use Rattle.package.specs.Names.{sum_names}
use Rattle.package.specs.Readable.{under, TermsInOrder, no_terms, term_then, SumsInOrder, no_sums, sum_then}
use Rattle.package.specs.Sums.{SumLine, sums_read, at_end, block3, with_sum, sums_of}
use Rattle.package.specs.Terms.{TermLine, LineAbove, terms_read, block2}
use Rattle.package.specs.Writing.{term_fields, sum_fields, term_lines_of, sum_lines_of}
use Rattle.package.specs.declared.Head.{Head}
use Rattle.package.specs.declared.Limits.{Limits}
use Rattle.text.specs.Pieces.{Pieces, piece, write_fields, empty, Clear, clear, clears}

-- Block 2: the terms behind ts₀.
module _ (h : Head) (lim : Limits) (b : HeadBounds h) (ms : Pieces) where
  pub text-block2 : (a : LineAbove) (ts₀ ts : List TermLine) (n m : ℕ) → length ts₀ ≡ m → TermsInOrder h lim a m ts
      → block2 h lim a ts₀ n (term_lines_of ts (piece sum_names ms)) ≡ terms_read h (ts₀ ++ ts) (suc (n + length ts)) ms
  unfolding block2 term_lines_of
  text-block2 a ts₀ [] n m e no_terms =
      let z : suc n ≡ suc (n + 0) = omega arith in
      rw append-nil (ap (λ (x : ℕ). terms_read h ts₀ x ms) z)
  text-block2 a ts₀ (t ∷ ts) n m e (term_then o os) =
      let q = term_numbers h lim t.kind t.item t.coef t.word b o.fits in
      let f = text-term t.kind t.item t.coef t.word o.ranked q.letters q.item q.coef in
      let j = in_order-accepted h lim a m (write_fields (term_fields t.kind t.item t.coef t.word)) t f o in
      let j' = rw (← e) at j in
      let g = not_names t.kind t.item t.coef t.word o.ranked q.letters in
      let d : length (ts₀ ++ (t ∷ [])) ≡ suc m = rw length-append (omega arith) in
      let z : suc (suc n + length ts) ≡ suc (n + suc (length ts)) = omega arith in
      rw (block2, g, j') (text-block2 (under a t) (ts₀ ++ (t ∷ [])) ts (suc n) (suc m) d os ∙ ap₂ (λ (x : List TermLine) (y : ℕ). terms_read h x y ms)
      (append_assoc ts₀ (t ∷ []) ts) z)

-- Block 3: it is read, and its sum lines are those that were written.
module _ (h : Head) (lim : Limits) (b : HeadBounds h) where
  pub text-block3 : (k i n : ℕ) (xs : List SumLine) → SumsInOrder h lim k i n xs → (block3 h lim k i n (sum_lines_of xs) ≡ sums_read) × (sums_of n (sum_lines_of xs) ≡ xs)
  unfolding block3 sums_of sum_lines_of at_end with_sum
  text-block3 k i n [] no_sums = (refl, refl)
  text-block3 k i n (x ∷ xs) (sum_then o os) =
      let q = sum_numbers h lim x.kind x.item x.coef x.left x.of x.right b o.fits in
      let f = text-sum x.kind x.item x.coef x.left x.of x.right o.ranked q.lefts q.rights o.digits q.coef q.of in
      let j = sym (judge3_0 h lim k i (write_fields (sum_fields x.kind x.item x.coef x.left x.of x.right)) x.kind x.item
      x.coef x.left x.of x.right f o.fits o.order) in
      let z = text-block3 x.kind x.item (suc n) xs os in
      (rw (block3, j) z.0, rw (sums_of, f, z.1, ← o.numbered))

-- Written lines hold no byte 10.
module _ (h : Head) (lim : Limits) (b : HeadBounds h) where
  pub terms-clear : (a : LineAbove) (n : ℕ) (ts : List TermLine) → TermsInOrder h lim a n ts → {ps : Pieces} → Clear 10 ps → Clear 10 (term_lines_of ts ps)
  unfolding term_lines_of
  terms-clear a n [] no_terms c = c
  terms-clear a n (t ∷ ts) (term_then o os) c =
      let q = term_numbers h lim t.kind t.item t.coef t.word b o.fits in
      clears (term-line-clear t.kind t.item t.coef t.word o.ranked q.letters) (terms-clear (under a t) (suc n) ts os c)

  pub sums-clear : (k i n : ℕ) (xs : List SumLine) → SumsInOrder h lim k i n xs → Clear 10 (sum_lines_of xs)
  unfolding sum_lines_of
  sums-clear k i n [] no_sums = clear empty
  sums-clear k i n (x ∷ xs) (sum_then o os) =
      let q = sum_numbers h lim x.kind x.item x.coef x.left x.of x.right b o.fits in
      clears (sum-line-clear x.kind x.item x.coef x.left x.of x.right o.ranked q.lefts q.rights) (sums-clear x.kind x.item (suc n) xs os)
