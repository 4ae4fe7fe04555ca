-- Term lines as texts: what reads as a term line is the writing of it, and a written term line reads back.
use mathlib.Core.Path.{◌≡◌, refl, sym, ap, ◌∙◌}
use mathlib.Core.Bool.{true, false}
use mathlib.Core.List.{List}
use Prim.Native.Nat.{ℕ, zero, suc, ◌≤◌, ◌<◌}
use native.Mathlib.Omega.{arith}
use Rattle.package.proofs.TermLines.{form-kind, form-item, form-coef, form-word, form-term}
use Rattle.package.specs.Names.{sum_names, term_kinds, term_g, term_b}
use Rattle.package.specs.Terms.{no_term, term, term_form}
use Rattle.package.specs.Writing.{term_fields}
use Rattle.text.proofs.Bytewise.{within-bounds}
use Rattle.lists.proofs.Sameness.{same-eq}
use Rattle.lists.proofs.Bools.{not_true}
use Rattle.text.proofs.FieldTexts.{starts-number, number-starts, ends_word, word_ends, kind-starts, starts-kind, number-clear, word-clear}
use Rattle.text.proofs.PieceTexts.{fields-written, without-joined}
use Rattle.text.specs.Bytes.{within, all_within}
use Rattle.lists.specs.Same.{same}
use Rattle.text.specs.Field.{Got, none, some, num_then, word_last, rank_from, rank, write_kind}
use Rattle.text.specs.Number.{number, write_number}
use Rattle.text.specs.Pieces.{Pieces, piece, onto, pieces, fields, write_fields, Without, empty, apart, Clear, clear, clears}
use Rattle.text.specs.Word.{WordField, no_word, word}
use Rattle.std.specs.Prelude.{Some}

-- The text of a term line.
pub record TermText (ps : Pieces) (k i c : ℕ) (w : List ℕ) : Type 0 where
  pub cut : ps ≡ term_fields k i c w
  pub ranked : within term_g term_b k ≡ true
  pub item : i < 100000
  pub coef : c < 100000
  pub letters : all_within 97 122 w ≡ true

-- What reads as a term line is the text of it.
module _ (ps : Pieces) (k i c : ℕ) (w : List ℕ) (h : term_form ps ≡ term k i c w) where
  clash : no_term ≡ term_form ps → ⊥
  clash e = let q : no_term ≡ term k i c w = e ∙ h in let y : ◌≡◌ {A = ℕ} 0 1 = cc in omega arith

  module _ (k' : ℕ) (ps₁ : Pieces) (a : num_then (rank term_kinds) ps ≡ some k' ps₁) where
    module _ (i' : ℕ) (ps₂ : Pieces) (b : num_then number ps₁ ≡ some i' ps₂) where
      by_word : (c' : ℕ) (ps₃ : Pieces) → num_then number ps₂ ≡ some c' ps₃ → (x : WordField) → word_last ps₃ ≡ x → TermText ps k i c w
      unfolding term_fields
      by_word c' ps₃ d no_word e = absurd (clash (form-word ps k' ps₁ a i' ps₂ b c' ps₃ d e))
      by_word c' ps₃ d (word w') e =
          let z : term k' i' c' w' ≡ term k i c w = form-term ps k' ps₁ a i' ps₂ b c' ps₃ d w' e ∙ h in
          let p : k' ≡ k = cc in
          let q : i' ≡ i = cc in
          let r : c' ≡ c = cc in
          let s : w' ≡ w = cc in
          let A = kind-starts term_kinds ps k' ps₁ a in
          let B = number-starts ps₁ i' ps₂ b in
          let C = number-starts ps₂ c' ps₃ d in
          let D = word_ends ps₃ w' e in
          rw (← p, ← q, ← r, ← s)
          (record {
            cut = A.0 ∙ ap (piece (write_kind term_kinds k')) (B.0 ∙ ap (piece (write_number i')) (C.0 ∙ ap (piece (write_number c')) D.0));
            ranked = A.1;
            item = B.1;
            coef = C.1;
            letters = D.1;
          })

      by_coef : (g : Got) → num_then number ps₂ ≡ g → TermText ps k i c w
      by_coef none d = absurd (clash (form-coef ps k' ps₁ a i' ps₂ b d))
      by_coef (some c' ps₃) d = by_word c' ps₃ d (word_last ps₃) refl

    by_item : (g : Got) → num_then number ps₁ ≡ g → TermText ps k i c w
    by_item none b = absurd (clash (form-item ps k' ps₁ a b))
    by_item (some i' ps₂) b = by_coef i' ps₂ b (num_then number ps₂) refl

  by_kind : (g : Got) → num_then (rank term_kinds) ps ≡ g → TermText ps k i c w
  by_kind none a = absurd (clash (form-kind ps a))
  by_kind (some k' ps₁) a = by_item k' ps₁ a (num_then number ps₁) refl

  pub term-text : TermText ps k i c w
  term-text = by_kind (num_then (rank term_kinds) ps) refl

-- The kinds of block 2.
term-kind : (k : ℕ) → (term_g ≤ k) × (k ≤ term_b) → rank term_kinds (write_kind term_kinds k) ≡ Some k
unfolding rank rank_from write_kind
term-kind zero b = absurd (omega arith)
term-kind (suc zero) b = refl
term-kind (suc (suc zero)) b = refl
term-kind (suc (suc (suc k))) b = absurd (omega arith)

term-kind-clear : (b k : ℕ) → b < 48 → (term_g ≤ k) × (k ≤ term_b) → Without b (write_kind term_kinds k)
unfolding write_kind
term-kind-clear b zero h r = absurd (omega arith)
term-kind-clear b (suc zero) h r = apart {x = 71} (λ (e : 71 ≡ b). omega arith) empty
term-kind-clear b (suc (suc zero)) h r = apart {x = 66} (λ (e : 66 ≡ b). omega arith) empty
term-kind-clear b (suc (suc (suc k))) h r = absurd (omega arith)

-- A written term line.
module _ (k i c : ℕ) (w : List ℕ) (r : within term_g term_b k ≡ true) (l : all_within 97 122 w ≡ true) where
  term-clear : (b : ℕ) → b < 45 → Clear b (term_fields k i c w)
  unfolding term_fields
  term-clear b h =
      clears (term-kind-clear b k (omega arith) (within-bounds term_g term_b k r))
      (clears (number-clear b i (omega arith)) (clears (number-clear b c (omega arith)) (clear (word-clear b w h l))))

  pub term-fields : fields (write_fields (term_fields k i c w)) ≡ term_fields k i c w
  term-fields = fields-written (term-clear 32 (omega arith))

  pub term-line-clear : Without 10 (write_fields (term_fields k i c w))
  term-line-clear = without-joined (λ (e : 32 ≡ 10). omega arith) (term-clear 10 (omega arith))

  pub text-term : i < 100000 → c < 100000 → term_form (fields (write_fields (term_fields k i c w))) ≡ term k i c w
  unfolding term_fields
  text-term a b =
      ap term_form term-fields
      ∙ sym (form-term (term_fields k i c w) k _ (starts-kind term_kinds k _ (term-kind k (within-bounds term_g term_b k r))) i _ (starts-number i _ a) c _
      (starts-number c _ b) w (ends_word w l))

  -- It is no names line: it has four fields and not six.
  pub not_names : same (write_fields (term_fields k i c w)) sum_names ≡ false
  unfolding term_fields pieces onto
  not_names = not_true (same (write_fields (term_fields k i c w)) sum_names) other
    where
      other : same (write_fields (term_fields k i c w)) sum_names ≡ true → ⊥
      other e =
          let q : term_fields k i c w ≡ fields sum_names = sym term-fields ∙ ap fields (same-eq (write_fields (term_fields k i c w)) sum_names e) in
          let y : ◌≡◌ {A = ℕ} 0 1 = cc in
          absurd (omega arith)
