-- Block 3, line by line: one law for each way through the judging of a line.
use mathlib.Core.Path.{◌≡◌, refl, sym, ap, ◌∙◌}
use mathlib.Core.Bool.{true, false}
use mathlib.Core.List.{List, [], ◌∷◌}
use Prim.Native.Nat.{ℕ, suc, ◌≤◌, ◌<◌}
use native.Mathlib.Omega.{arith}
use lib.ListN.{length, drop, drop_of_length-le}
use lib.Seq.{drop-cons}
use Rattle.package.proofs.SumLines.{judge3_2, judge3_5, judge3_6, judge3_0}
use Rattle.package.specs.Answer.{Answer, refused}
use Rattle.package.specs.Held.{none_sum, some_sum, got_sum_of, next_sum}
use Rattle.package.specs.Sums.{SumForm, no_sum, sum, sum_form, sum_fits, sum_follows, SumVerdict, refused_by, accept, judge_sum, sums_read, at_end, block3}
use Rattle.package.specs.declared.Head.{Head}
use Rattle.package.specs.declared.Limits.{Limits}
use Rattle.text.proofs.PieceTexts.{joined-pieces}
use Rattle.text.specs.Pieces.{Pieces, final, piece, pieces, lines, fields, joined}

module _ (h : Head) (lim : Limits) (k' i' n : ℕ) where
  -- Behind the last line.
  pub sums-end : (s : List ℕ) (at : ℕ) → length s ≤ at → sums_read ≡ block3 h lim k' i' n (lines (drop at s))
  unfolding block3 pieces at_end
  sums-end s at z = rw (drop_of_length-le s z)

  -- No sum line, or none that is ended.
  none-line : (ps : Pieces) → (ps ≡ final [] → ⊥) → next_sum ps ≡ none_sum → refused 2 n ≡ block3 h lim k' i' n ps
  unfolding block3 at_end next_sum got_sum_of
  none-line (final []) y q = absurd (y refl)
  none-line (final (x ∷ l)) y q = refl
  none-line (piece l ls) y q = go (sum_form (fields l)) refl q
    where
      go : (f : SumForm) → sum_form (fields l) ≡ f → got_sum_of f ls ≡ none_sum → refused 2 n ≡ block3 h lim k' i' n (piece l ls)
      go no_sum e u = rw (block3, ← judge3_2 h lim k' i' l e)
      go (sum k i c x o r) e u = absurd (let y : ◌≡◌ {A = ℕ} 0 1 = cc in omega arith)

  some_bytes : (x : ℕ) (l : List ℕ) → lines (x ∷ l) ≡ final [] → ⊥
  unfolding joined
  some_bytes x l e =
      let q : [] ≡ x ∷ l = sym (ap (joined 10) e) ∙ joined-pieces 10 (x ∷ l) in
      let y : 0 ≡ suc (length l) = ap length q in
      omega arith

  pub sums_none : (s : List ℕ) (at : ℕ) → at < length s → next_sum (lines (drop at s)) ≡ none_sum → refused 2 n ≡ block3 h lim k' i' n (lines (drop at s))
  sums_none s at y q =
      none-line (lines (drop at s))
      (λ e. some_bytes _ _ (rw (drop-cons s at 0 y) at e)) q

  -- What follows a line: block 3 ends, or goes on behind it.
  unfoldable onward : Pieces → SumVerdict → Answer (Unit {0})
  onward ls v = elim v [ refused_by r ↦ refused r n | accept k i ↦ block3 h lim k i (suc n) ls ]

  -- A sum line.
  module _ (k i c : ℕ) (l : List ℕ) (o : ℕ) (r : List ℕ) (ls : Pieces) where
    some-line : (v : SumVerdict) → ((x : List ℕ) → sum_form (fields x) ≡ sum k i c l o r → v ≡ judge_sum h lim k' i' x) → (ps : Pieces)
        → next_sum ps ≡ some_sum k i c l o r ls → onward ls v ≡ block3 h lim k' i' n ps
    unfolding block3 next_sum got_sum_of onward
    some-line v j (final x) q = absurd (let y : ◌≡◌ {A = ℕ} 0 1 = cc in omega arith)
    some-line v j (piece x ms) q = go (sum_form (fields x)) refl q
      where
        go : (f : SumForm) → sum_form (fields x) ≡ f → got_sum_of f ms ≡ some_sum k i c l o r ls → onward ls v ≡ block3 h lim k' i' n (piece x ms)
        go no_sum e u = absurd (let y : ◌≡◌ {A = ℕ} 0 1 = cc in omega arith)
        go (sum k₁ i₁ c₁ l₁ o₁ r₁) e u =
            let p : sum k₁ i₁ c₁ l₁ o₁ r₁ ≡ sum k i c l o r = cc in
            let w : ms ≡ ls = cc in
            ap (λ z. onward z v) (sym w) ∙ rw (block3, ← j x (e ∙ p))

    module _ (s : List ℕ) (at : ℕ) (q : next_sum (lines (drop at s)) ≡ some_sum k i c l o r ls) where
      pub sums_5 : sum_fits h lim k i c l o r ≡ false → refused 5 n ≡ block3 h lim k' i' n (lines (drop at s))
      unfolding onward
      sums_5 f = some-line (refused_by 5) (λ x e. judge3_5 h lim k' i' x k i c l o r e f) (lines (drop at s)) q

      module _ (f : sum_fits h lim k i c l o r ≡ true) where
        pub sums_6 : sum_follows k' i' k i ≡ false → refused 6 n ≡ block3 h lim k' i' n (lines (drop at s))
        unfolding onward
        sums_6 g = some-line (refused_by 6) (λ x e. judge3_6 h lim k' i' x k i c l o r e f g) (lines (drop at s)) q

        pub sums_on : sum_follows k' i' k i ≡ true → block3 h lim k i (suc n) ls ≡ block3 h lim k' i' n (lines (drop at s))
        unfolding onward
        sums_on g = some-line (accept k i) (λ x e. judge3_0 h lim k' i' x k i c l o r e f g) (lines (drop at s)) q
