-- Rows multiplied one after the other.
use mathlib.Core.Path.{◌≡◌, refl, ◌∙◌}
use mathlib.Core.List.{List}
use Prim.Native.Nat.{ℕ, ◌+◌, ◌*◌, ◌≤◌, ◌<◌}
use native.Mathlib.Decide.{dec_lt}
use native.Mathlib.Omega.{arith}
use lib.ListN.{length, get_or, set, length-set}
use lib.Seq.{get_or-set_same, get_or-set_other}
use Rattle.table.specs.Table.{field_in, coef_in, size_in}
use Rattle.tabulating.specs.Divided.{RowsScaled}

module _ (t : List ℕ) (y first : ℕ) where
  pub scaled-none : RowsScaled t y first first t
  scaled-none = record { size = refl; scaled = λ i a b. absurd (omega arith); others = λ k h. refl }

  module _ (i : ℕ) (u : List ℕ) (low : first ≤ i) (R : RowsScaled t y first i u) where
    -- the next row is that of t
    pub row_before : get_or u (352 + 3 * i) 0 ≡ get_or t (352 + 3 * i) 0
    row_before = R.others (352 + 3 * i) (λ j a b e. omega arith)

    pub scaled-more : (x : ℕ) → 352 + 3 * i < length t → x ≡ (field_in t).mul y (coef_in t i) * 4294967296 + size_in t i → RowsScaled t y first (i + 1) (set u (352 + 3 * i) x)
    scaled-more x room e = record {
      size = length-set u (352 + 3 * i) x ∙ R.size;
      scaled = λ j a b. go j a b (dec_lt j i);
      others = λ k h. get_or-set_other u (352 + 3 * i) k x 0 (λ q. h i low (omega arith) q) ∙ R.others k (λ j a b. h j a (omega arith));
    }
      where
        go : (j : ℕ) → first ≤ j → j < i + 1 → Dec (j < i) → get_or (set u (352 + 3 * i) x) (352 + 3 * j) 0 ≡ (field_in t).mul y (coef_in t j) * 4294967296 + size_in t j
        go j a b (yes l) = get_or-set_other u (352 + 3 * i) (352 + 3 * j) x 0 (λ q. omega arith) ∙ R.scaled j a l
        go j a b (no l) =
            let q : j ≡ i = omega arith in
            let s = R.size in
            rw q (get_or-set_same u (352 + 3 * i) x 0 (omega arith) ∙ e)
