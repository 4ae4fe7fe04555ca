-- A term line, field by field: one law for each way through a reader.
use mathlib.Core.Path.{◌≡◌}
use mathlib.Core.List.{List}
use Prim.Native.Nat.{ℕ, ◌+◌, ◌-◌, ◌≤◌}
use native.Mathlib.Omega.{arith}
use lib.ListN.{length, take, drop, length-drop}
use lib.Seq.{length-take-le}
use Rattle.std.specs.Prelude.{Some}
use Rattle.package.specs.Held.{reach}
use Rattle.package.specs.Names.{term_kinds}
use Rattle.package.specs.Terms.{no_term, term, term_form}
use Rattle.package.specs.declared.TermAt.{TermAt}
use Rattle.text.specs.Field.{none, some, num_then, word_last, rank}
use Rattle.text.specs.Number.{number}
use Rattle.text.specs.Pieces.{Pieces}
use Rattle.text.specs.Word.{no_word, word}

-- The four fields.
module _ (ps : Pieces) where
  pub form-kind : num_then (rank term_kinds) ps ≡ none → no_term ≡ term_form ps
  unfolding term_form
  form-kind a = rw (term_form, a)

  module _ (k : ℕ) (ps₁ : Pieces) (a : num_then (rank term_kinds) ps ≡ some k ps₁) where
    pub form-item : num_then number ps₁ ≡ none → no_term ≡ term_form ps
    unfolding term_form
    form-item b = rw (term_form, a, b)

    module _ (i : ℕ) (ps₂ : Pieces) (b : num_then number ps₁ ≡ some i ps₂) where
      pub form-coef : num_then number ps₂ ≡ none → no_term ≡ term_form ps
      unfolding term_form
      form-coef c = rw (term_form, a, b, c)

      module _ (m : ℕ) (ps₃ : Pieces) (c : num_then number ps₂ ≡ some m ps₃) where
        pub form-word : word_last ps₃ ≡ no_word → no_term ≡ term_form ps
        unfolding term_form
        form-word d = rw (term_form, a, b, c, d)

        pub form-term : (w : List ℕ) → word_last ps₃ ≡ word w → term k i m w ≡ term_form ps
        unfolding term_form
        form-term w d = rw (term_form, a, b, c, d)

-- The word of a term line lies in the line.
pub term_inside : (s : List ℕ) (at e : ℕ) (t : TermAt) → reach (Some t) ≤ length (take (e - at) (drop at s)) → at ≤ e → e ≤ length s → t.start + t.len ≤ e - at
unfolding reach
term_inside s at e t b h z =
    let y : e - at ≤ length (drop at s) = rw (length-drop at s) (omega arith) in
    omega (arith, length-take-le (e - at) (drop at s) y)
