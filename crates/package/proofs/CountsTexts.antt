-- The value line of block 1 as text: what reads as one is the writing of it, and a written one reads back.
use mathlib.Core.Path.{◌≡◌, refl, sym, ap, ◌∙◌}
use Prim.Native.Nat.{ℕ, ◌<◌}
use native.Mathlib.Omega.{arith}
use Rattle.package.proofs.CountsLine.{head-p, head-letters, head-gens, head-basis, head-whole}
use Rattle.package.proofs.LineBounds.{HeadBounds}
use Rattle.package.specs.Head.{no_head, head, head_form}
use Rattle.package.specs.Writing.{head_fields}
use Rattle.package.specs.declared.Head.{Head}
use Rattle.text.proofs.FieldTexts.{starts-number, number-starts, ends_number, number_ends, number-clear}
use Rattle.text.proofs.PieceTexts.{fields-written, without-joined}
use Rattle.text.specs.Field.{Got, none, some, num_then, num_last}
use Rattle.text.specs.Number.{number, write_number}
use Rattle.text.specs.Pieces.{Pieces, piece, fields, write_fields, Without, Clear, clear, clears}
use Rattle.std.specs.Prelude.{Option, Some, None}

module _ (ps : Pieces) (h : Head) (e : head_form ps ≡ head h) where
  clash : no_head ≡ head_form ps → ⊥
  clash q = let z : no_head ≡ head h = q ∙ e in let y : ◌≡◌ {A = ℕ} 0 1 = cc in omega arith

  module _ (p : ℕ) (ps₁ : Pieces) (a : num_then number ps ≡ some p ps₁) where
    module _ (l : ℕ) (ps₂ : Pieces) (b : num_then number ps₁ ≡ some l ps₂) where
      by_basis : (g : ℕ) (ps₃ : Pieces) → num_then number ps₂ ≡ some g ps₃ → (x : Option ℕ) → num_last ps₃ ≡ x → ps ≡ head_fields h
      unfolding head_fields
      by_basis g ps₃ c None d = absurd (clash (head-basis ps p ps₁ a l ps₂ b g ps₃ c d))
      by_basis g ps₃ c (Some n) d =
          let z : head (record { p = p; letters = l; gens = g; basis = n }) ≡ head h = head-whole ps p ps₁ a l ps₂ b g ps₃ c n d ∙ e in
          let q : record { p = p; letters = l; gens = g; basis = n } ≡ h = cc in
          let A = number-starts ps p ps₁ a in
          let B = number-starts ps₁ l ps₂ b in
          let C = number-starts ps₂ g ps₃ c in
          let D = number_ends ps₃ n d in
          A.0 ∙ ap (piece (write_number p)) (B.0 ∙ ap (piece (write_number l)) (C.0 ∙ ap (piece (write_number g)) D.0)) ∙ ap head_fields q

      by_gens : (g : Got) → num_then number ps₂ ≡ g → ps ≡ head_fields h
      by_gens none c = absurd (clash (head-gens ps p ps₁ a l ps₂ b c))
      by_gens (some g ps₃) c = by_basis g ps₃ c (num_last ps₃) refl

    by_letters_lem : (g : Got) → num_then number ps₁ ≡ g → ps ≡ head_fields h
    by_letters_lem none b = absurd (clash (head-letters ps p ps₁ a b))
    by_letters_lem (some l ps₂) b = by_gens l ps₂ b (num_then number ps₂) refl

  by_p : (g : Got) → num_then number ps ≡ g → ps ≡ head_fields h
  by_p none a = absurd (clash (head-p ps a))
  by_p (some p ps₁) a = by_letters_lem p ps₁ a (num_then number ps₁) refl

  pub head-text : ps ≡ head_fields h
  head-text = by_p (num_then number ps) refl

module _ (h : Head) (b : HeadBounds h) where
  head_clear : (x : ℕ) → x < 45 → Clear x (head_fields h)
  unfolding head_fields
  head_clear x l =
      clears (number-clear x h.p (omega arith))
      (clears (number-clear x h.letters (omega arith)) (clears (number-clear x h.gens (omega arith)) (clear (number-clear x h.basis (omega arith)))))

  pub head-line-clear : Without 10 (write_fields (head_fields h))
  head-line-clear = without-joined (λ (e : 32 ≡ 10). omega arith) (head_clear 10 (omega arith))

  pub text_head : head_form (fields (write_fields (head_fields h))) ≡ head h
  unfolding head_fields
  text_head =
      let m = b.most in
      let l = b.letters in
      let g = b.gens in
      let n = b.basis in
      ap head_form (fields-written (head_clear 32 (omega arith)))
      ∙ sym (head-whole (head_fields h) h.p _ (starts-number h.p _ (omega arith)) h.letters _ (starts-number h.letters _ (omega arith))
      h.gens _ (starts-number h.gens _ (omega arith)) h.basis (ends_number h.basis (omega arith)))
