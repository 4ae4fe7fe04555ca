-- Sum lines and block 3 as texts: what is read is the writing of sum lines in order, and written sum lines in order are read back.
use mathlib.Core.Path.{◌≡◌, refl, sym, ap, ◌∙◌}
use mathlib.Core.Bool.{true}
use mathlib.Core.List.{List}
use Prim.Native.Nat.{ℕ, zero, suc, ◌≤◌, ◌<◌}
use native.Mathlib.Omega.{arith}
use Rattle.package.proofs.SumLines.{sum-kind, sum-item, sum-coef, sum_left, sum_of, sum-right, sum-whole}
use Rattle.package.specs.Names.{sum_kinds, sum_b, sum_o}
use Rattle.package.specs.Sums.{no_sum, sum, sum_form}
use Rattle.package.specs.Writing.{sum_fields}
use Rattle.text.proofs.Bytewise.{within-bounds}
use Rattle.text.proofs.FieldTexts.{starts-number, number-starts, starts-word, word-starts, ends_word, word_ends, kind-starts, starts-kind, number-clear, word-clear}
use Rattle.text.proofs.PieceTexts.{fields-written, without-joined}
use Rattle.text.specs.Bytes.{within, all_within}
use Rattle.text.specs.Field.{Got, none, some, num_then, GotWord, none_word, some_word, word_then, word_last, rank_from, rank, write_kind}
use Rattle.text.specs.Number.{number, write_number}
use Rattle.text.specs.Pieces.{Pieces, piece, fields, write_fields, Without, empty, apart, Clear, clear, clears}
use Rattle.text.specs.Word.{WordField, no_word, word, write_word}
use Rattle.std.specs.Prelude.{Some}

-- The text of a sum line.
pub record SumText (ps : Pieces) (k i c : ℕ) (l : List ℕ) (o : ℕ) (r : List ℕ) : Type 0 where
  pub cut : ps ≡ sum_fields k i c l o r
  pub ranked : within sum_b sum_o k ≡ true
  pub item : i < 100000
  pub coef : c < 100000
  pub lefts : all_within 97 122 l ≡ true
  pub of : o < 100000
  pub rights : all_within 97 122 r ≡ true

-- What reads as a sum line is the text of it.
module _ (ps : Pieces) (k i c : ℕ) (l : List ℕ) (o : ℕ) (r : List ℕ) (h : sum_form ps ≡ sum k i c l o r) where
  clash : no_sum ≡ sum_form ps → ⊥
  clash e = let q : no_sum ≡ sum k i c l o r = e ∙ h in let y : ◌≡◌ {A = ℕ} 0 1 = cc in omega arith

  module _ (k' : ℕ) (ps₁ : Pieces) (a : num_then (rank sum_kinds) ps ≡ some k' ps₁) where
    module _ (i' : ℕ) (ps₂ : Pieces) (b : num_then number ps₁ ≡ some i' ps₂) where
      module _ (c' : ℕ) (ps₃ : Pieces) (d : num_then number ps₂ ≡ some c' ps₃) where
        module _ (l' : List ℕ) (ps₄ : Pieces) (f : word_then ps₃ ≡ some_word l' ps₄) where
          by_right : (o' : ℕ) (ps₅ : Pieces) → num_then number ps₄ ≡ some o' ps₅ → (x : WordField) → word_last ps₅ ≡ x → SumText ps k i c l o r
          unfolding sum_fields
          by_right o' ps₅ g no_word e = absurd (clash (sum-right ps k' ps₁ a i' ps₂ b c' ps₃ d l' ps₄ f o' ps₅ g e))
          by_right o' ps₅ g (word r') e =
              let z : sum k' i' c' l' o' r' ≡ sum k i c l o r = sum-whole ps k' ps₁ a i' ps₂ b c' ps₃ d l' ps₄ f o' ps₅ g r' e ∙ h in
              let x₁ : k' ≡ k = cc in
              let x₂ : i' ≡ i = cc in
              let x₃ : c' ≡ c = cc in
              let x₄ : l' ≡ l = cc in
              let x₅ : o' ≡ o = cc in
              let x₆ : r' ≡ r = cc in
              let A = kind-starts sum_kinds ps k' ps₁ a in
              let B = number-starts ps₁ i' ps₂ b in
              let C = number-starts ps₂ c' ps₃ d in
              let D = word-starts ps₃ l' ps₄ f in
              let E = number-starts ps₄ o' ps₅ g in
              let F = word_ends ps₅ r' e in
              rw (← x₁, ← x₂, ← x₃, ← x₄, ← x₅, ← x₆)
              (record {
                cut =
                    A.0
                    ∙ ap (piece (write_kind sum_kinds k'))
                    (B.0 ∙ ap (piece (write_number i')) (C.0 ∙ ap (piece (write_number c'))
                    (D.0 ∙ ap (piece (write_word l')) (E.0 ∙ ap (piece (write_number o')) F.0))));
                ranked = A.1;
                item = B.1;
                coef = C.1;
                lefts = D.1;
                of = E.1;
                rights = F.1;
              })

          by_of : (g : Got) → num_then number ps₄ ≡ g → SumText ps k i c l o r
          by_of none e = absurd (clash (sum_of ps k' ps₁ a i' ps₂ b c' ps₃ d l' ps₄ f e))
          by_of (some o' ps₅) e = by_right o' ps₅ e (word_last ps₅) refl

        by_left : (g : GotWord) → word_then ps₃ ≡ g → SumText ps k i c l o r
        by_left none_word e = absurd (clash (sum_left ps k' ps₁ a i' ps₂ b c' ps₃ d e))
        by_left (some_word l' ps₄) e = by_of l' ps₄ e (num_then number ps₄) refl

      by_coef : (g : Got) → num_then number ps₂ ≡ g → SumText ps k i c l o r
      by_coef none e = absurd (clash (sum-coef ps k' ps₁ a i' ps₂ b e))
      by_coef (some c' ps₃) e = by_left c' ps₃ e (word_then ps₃) refl

    by_item : (g : Got) → num_then number ps₁ ≡ g → SumText ps k i c l o r
    by_item none e = absurd (clash (sum-item ps k' ps₁ a e))
    by_item (some i' ps₂) e = by_coef i' ps₂ e (num_then number ps₂) refl

  by_kind : (g : Got) → num_then (rank sum_kinds) ps ≡ g → SumText ps k i c l o r
  by_kind none e = absurd (clash (sum-kind ps e))
  by_kind (some k' ps₁) e = by_item k' ps₁ e (num_then number ps₁) refl

  pub sum-text : SumText ps k i c l o r
  sum-text = by_kind (num_then (rank sum_kinds) ps) refl

-- The kinds of block 3.
pub known_kind : (k : ℕ) → (sum_b ≤ k) × (k ≤ sum_o) → rank sum_kinds (write_kind sum_kinds k) ≡ Some k
unfolding rank rank_from write_kind
known_kind zero b = absurd (omega arith)
known_kind (suc zero) b = refl
known_kind (suc (suc zero)) b = refl
known_kind (suc (suc (suc zero))) b = refl
known_kind (suc (suc (suc (suc k)))) b = absurd (omega arith)

pub kind-clear : (b k : ℕ) → b < 48 → (sum_b ≤ k) × (k ≤ sum_o) → Without b (write_kind sum_kinds k)
unfolding write_kind
kind-clear b zero h r = absurd (omega arith)
kind-clear b (suc zero) h r = apart {x = 66} (λ (e : 66 ≡ b). omega arith) empty
kind-clear b (suc (suc zero)) h r = apart {x = 71} (λ (e : 71 ≡ b). omega arith) empty
kind-clear b (suc (suc (suc zero))) h r = apart {x = 79} (λ (e : 79 ≡ b). omega arith) empty
kind-clear b (suc (suc (suc (suc k)))) h r = absurd (omega arith)

-- A written sum line.
module _ (k i c : ℕ) (l : List ℕ) (o : ℕ) (r : List ℕ) (x : within sum_b sum_o k ≡ true) (y : all_within 97 122 l ≡ true) (z : all_within 97 122 r ≡ true) where
  fields-clear : (b : ℕ) → b < 45 → Clear b (sum_fields k i c l o r)
  unfolding sum_fields
  fields-clear b h =
      clears (kind-clear b k (omega arith) (within-bounds sum_b sum_o k x))
      (clears (number-clear b i (omega arith))
      (clears (number-clear b c (omega arith)) (clears (word-clear b l h y) (clears (number-clear b o (omega arith)) (clear (word-clear b r h z))))))

  pub sum-line-clear : Without 10 (write_fields (sum_fields k i c l o r))
  sum-line-clear = without-joined (λ (e : 32 ≡ 10). omega arith) (fields-clear 10 (omega arith))

  pub text-sum : i < 100000 → c < 100000 → o < 100000 → sum_form (fields (write_fields (sum_fields k i c l o r))) ≡ sum k i c l o r
  unfolding sum_fields
  text-sum a b d =
      ap sum_form (fields-written (fields-clear 32 (omega arith)))
      ∙ sym (sum-whole (sum_fields k i c l o r) k _ (starts-kind sum_kinds k _ (known_kind k (within-bounds sum_b sum_o k x))) i _ (starts-number i _ a) c _
      (starts-number c _ b) l _ (starts-word l _ y) o _ (starts-number o _ d) r (ends_word r z))
