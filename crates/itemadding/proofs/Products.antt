-- The terms of a multiple put one behind the other: those that are held, with those that are left behind them, are the multiple.
use mathlib.Core.Path.{◌≡◌, refl, sym, ap, ◌∙◌}
use mathlib.Core.List.{List, [], ◌∷◌, ◌++◌, append_assoc, append-nil}
use Prim.Native.Nat.{ℕ, ◌+◌, ◌≤◌, ◌<◌}
use Rattle.words.specs.Word.{Word, around}
use Rattle.algebra.specs.Poly.{Term, Poly}
use Rattle.working.specs.Working.{terms}
use Rattle.working.specs.Change.{single}
use Rattle.table.specs.Polynomials.{word_in}
use Rattle.table.specs.Table.{field_in, terms_in, coef_in}
use Rattle.itemadding.proofs.Sums.{rest, rest-next, rest_end}

module _ (t : List ℕ) (x : ℕ) (left right : Word) (end : ℕ) where
  pub placed-none : (G : ℕ → Term) (i : ℕ) → terms G 0 0 ++ rest t x left right end i ≡ rest t x left right end i
  unfolding terms
  placed-none G i = refl

  -- one term more: that is placed which is next
  pub placed-next : (g f whole : Poly) (i j y : ℕ) (v : Word) → i < end → g ++ rest t x left right end i ≡ whole → y ≡ (field_in t).mul x (coef_in t j)
      → v ≡ around left right (word_in t j) → j ≡ i → f ≡ g ++ (single y v ∷ []) → f ++ rest t x left right end (i + 1) ≡ whole
  placed-next g f whole i j y v h held q e same d =
      ap (λ (p : Poly). p ++ rest t x left right end (i + 1)) d
      ∙ append_assoc g (single y v ∷ []) (rest t x left right end (i + 1))
      ∙ ap (λ (p : Poly). g ++ p) (sym (rest-next t x left right end i y v h (rw same at q) (rw same at e)))
      ∙ held

  pub placed_end : (f whole : Poly) (i : ℕ) → end ≤ i → f ++ rest t x left right end i ≡ whole → f ≡ whole
  placed_end f whole i h held = sym (ap (λ (g : Poly). f ++ g) (rest_end t x left right end i h) ∙ append-nil f) ∙ held

-- what holds of the numbers at the top of a turn
pub record Placing (t : List ℕ) (first end i k : ℕ) : Type 0 where
  pub most : end ≤ terms_in t
  pub few : end ≤ first + 48
  pub low : i ≤ end
  pub count : k + first ≡ i
