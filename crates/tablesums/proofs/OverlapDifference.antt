-- The difference of a pair as it is added up: the first side placed, and the second taken away, each divided by its leading coefficient.
use mathlib.Core.Path.{◌≡◌, refl, sym, ap, ◌∙◌}
use mathlib.Core.Logic.{◌≢◌}
use mathlib.Core.List.{[], ◌∷◌, ◌++◌}
use Prim.Native.Nat.{ℕ}
use Rattle.field.specs.Field.{Operations, Field}
use Rattle.field.proofs.Derived.{neg-eq-mul}
use Rattle.words.specs.Word.{Word}
use Rattle.words.specs.Order.{Order, Admissible}
use Rattle.algebra.specs.Poly.{Poly, scale, shift, sub}
use Rattle.algebra.specs.Ideal.{Family}
use Rattle.algebra.specs.Groebner.{lead_coef, monic}
use Rattle.algebra.specs.Written as Wr
use Rattle.algebra.proofs.Lines.{shift-scale, scale-scale}
use Rattle.algebra.proofs.WrittenForm.{written_multiple, written_of_written}
use Rattle.algebra.specs.Written.{Written, plus, written}
use Rattle.overlaps.specs.Pairs.{Pair}
use Rattle.overlaps.specs.Overlaps.{rest_of, front_of, back_of, difference}

module _ {K : Operations} (F : Field K) (O : Order) where
  plus-append : (f g k : Poly) → plus K O f (g ++ k) ≡ plus K O (plus K O f g) k
  unfolding plus
  plus-append f [] k = refl
  plus-append f (t ∷ g) k = plus-append (Wr.insert K O t f) g k

  -- the second side, divided and taken away
  taken_side : (l r : Word) (x : ℕ) (f : Poly) → scale K (K.neg 1) (shift l r (scale K x f)) ≡ scale K (K.neg x) (shift l r f)
  taken_side l r x f =
      ap (scale K (K.neg 1)) (shift-scale K l r x f) ∙ scale-scale F (K.neg 1) x (shift l r f)
      ∙ ap (λ (y : ℕ). scale K y (shift l r f)) (sym (neg-eq-mul F x))

  -- the difference, added up in two parts, where x and y are the inverses of the leading coefficients
  pub difference-held : Admissible O → (G : Family) (o : Pair) (f₁ f₂ : Poly) (front back rest : Word) (x y : ℕ) → Written K O (G o.first)
      → rest ≡ rest_of G o → front ≡ front_of G o → back ≡ back_of G o
      → x ≡ K.inv (lead_coef (G o.first)) → K.red x ≢ 0 → y ≡ K.inv (lead_coef (G o.second))
      → f₁ ≡ scale K x (shift [] rest (G o.first))
      → f₂ ≡ plus K O f₁ (scale K (K.neg y) (shift front back (G o.second)))
      → f₂ ≡ written K O (difference K G o)
  unfolding written difference sub monic
  difference-held A G o f₁ f₂ front back rest x y h er ef eb ex nx ey e₁ e₂ =
      e₂
      ∙ ap (λ (f : Poly). plus K O f (scale K (K.neg y) (shift front back (G o.second)))) (e₁ ∙ sym (written_of_written F A (written_multiple F A x [] rest nx h)))
      ∙ sym (plus-append [] (scale K x (shift [] rest (G o.first))) (scale K (K.neg y) (shift front back (G o.second))))
      ∙ rw (← shift-scale K [] rest x, ← taken_side front back y, ex, ey, er, ef, eb)
