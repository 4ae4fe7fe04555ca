-- The value line of block 1: one law for each way through its readers.
use mathlib.Core.Path.{◌≡◌, refl}
use mathlib.Core.Bool.{Bool, true, false, false≢true}
use Prim.Native.Nat.{ℕ, ◌≤◌, ◌<◌}
use lib.Dec.{ltb}
use borrow.Author.Tests.{lt-ltb, le-ltb, ltb-false}
use Rattle.package.specs.Head.{no_head, head, head_form, counts_fit}
use Rattle.package.specs.declared.Head.{Head}
use Rattle.text.proofs.Bytewise.{within-bounds}
use Rattle.text.specs.Bytes.{within}
use Rattle.text.specs.Field.{none, some, num_then, num_last}
use Rattle.text.specs.Number.{number}
use Rattle.text.specs.Pieces.{Pieces}
use Rattle.std.specs.Prelude.{Some, None}

-- The four fields.
module _ (ps : Pieces) where
  pub head-p : num_then number ps ≡ none → no_head ≡ head_form ps
  unfolding head_form
  head-p a = rw (head_form, a)

  module _ (p : ℕ) (ps₁ : Pieces) (a : num_then number ps ≡ some p ps₁) where
    pub head-letters : num_then number ps₁ ≡ none → no_head ≡ head_form ps
    unfolding head_form
    head-letters b = rw (head_form, a, b)

    module _ (l : ℕ) (ps₂ : Pieces) (b : num_then number ps₁ ≡ some l ps₂) where
      pub head-gens : num_then number ps₂ ≡ none → no_head ≡ head_form ps
      unfolding head_form
      head-gens c = rw (head_form, a, b, c)

      module _ (g : ℕ) (ps₃ : Pieces) (c : num_then number ps₂ ≡ some g ps₃) where
        pub head-basis : num_last ps₃ ≡ None → no_head ≡ head_form ps
        unfolding head_form
        head-basis d = rw (head_form, a, b, c, d)

        pub head-whole : (n : ℕ) → num_last ps₃ ≡ Some n → head (record { p = p; letters = l; gens = g; basis = n }) ≡ head_form ps
        unfolding head_form
        head-whole n d = rw (head_form, a, b, c, d)

-- The counts in bounds.
module _ (h : Head) where
  pub counts-letters : within 1 26 h.letters ≡ false → false ≡ counts_fit h
  unfolding counts_fit
  counts-letters a = rw (counts_fit, a)

  module _ (a : within 1 26 h.letters ≡ true) where
    pub counts-gens : 32 < h.gens → false ≡ counts_fit h
    unfolding counts_fit
    counts-gens b = rw (counts_fit, a, lt-ltb 32 h.gens b)

    module _ (b : h.gens ≤ 32) where
      pub counts-basis : 64 < h.basis → false ≡ counts_fit h
      unfolding counts_fit
      counts-basis d = rw (counts_fit, a, le-ltb 32 h.gens b, lt-ltb 64 h.basis d)

      pub counts_whole : h.basis ≤ 64 → true ≡ counts_fit h
      unfolding counts_fit
      counts_whole d = rw (counts_fit, a, le-ltb 32 h.gens b, le-ltb 64 h.basis d)

-- Counts in bounds.
pub counts_bounds : (h : Head) → counts_fit h ≡ true → (h.letters ≤ 26) × (h.gens ≤ 32) × (h.basis ≤ 64)
unfolding counts_fit
counts_bounds h e = go (within 1 26 h.letters) (ltb 32 h.gens) (ltb 64 h.basis) refl refl refl e
  where
    go : (t u v : Bool) → within 1 26 h.letters ≡ t → ltb 32 h.gens ≡ u → ltb 64 h.basis ≡ v
        → ◌≡◌ {A = Bool} (elim t [ false ↦ false | true ↦ elim u [ true ↦ false | false ↦ elim v [ true ↦ false | false ↦ true ] ] ]) true
        → (h.letters ≤ 26) × (h.gens ≤ 32) × (h.basis ≤ 64)
    go false u v a b c q = absurd (false≢true q)
    go true true v a b c q = absurd (false≢true q)
    go true false true a b c q = absurd (false≢true q)
    go true false false a b c q = ((within-bounds 1 26 h.letters a).1, ltb-false 32 h.gens b, ltb-false 64 h.basis c)
