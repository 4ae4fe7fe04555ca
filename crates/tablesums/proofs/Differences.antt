-- The difference of a pair on a table, as it is added up: the first side placed, and the second taken away, each with the inverse of its leading coefficient.
use mathlib.Core.Path.{◌≡◌, sym, ap, ap₂, ◌∙◌}
use mathlib.Core.List.{List, []}
use Prim.Native.Nat.{ℕ, suc, ◌+◌, ◌<◌}
use Rattle.words.specs.Word.{Word}
use Rattle.algebra.specs.Poly.{Poly, scale, shift}
use Rattle.algebra.specs.Ideal.{Family, family}
use Rattle.algebra.specs.Written.{plus, written}
use Rattle.algebra.proofs.WrittenForm.{written_multiple}
use Rattle.working.proofs.Families.{family-written}
use Rattle.overlaps.specs.Overlaps.{rest_of, front_of, back_of, difference}
use Rattle.overlapsearch.specs.declared.PairAt.{PairAt}
use Rattle.overlapsearch.specs.Position.{pair_of}
use Rattle.table.specs.Polynomials.{polynomial_in, basis_in}
use Rattle.table.specs.Table.{field_in, order_in, gens_in, basis_count_in, inverse_in}
use Rattle.table.specs.Tabled.{Tabled}
use Rattle.table.proofs.Families.{family-basis}
use Rattle.table.proofs.Inverses.{inverse-some}
use Rattle.packedterms.specs.Formula.{formula, Holds, Working}
use Rattle.tablesums.proofs.OverlapDifference.{difference-held}

module _ (t : List ℕ) (T : Tabled t) where
  by_number : (k : ℕ) → k < basis_count_in t → (item : ℕ) → item ≡ gens_in t + suc k → polynomial_in t item ≡ family (basis_in t) (suc k)
  by_number k h item e = ap (polynomial_in t) e ∙ sym (family-basis t k h)

  -- The first side is in written form, so that arrays which hold it can be added to.
  pub first-working : (k : ℕ) → k < basis_count_in t → (item x : ℕ) → item ≡ gens_in t + suc k → x ≡ inverse_in t k
      → (u v : Word) (c l w o : List ℕ) (n : ℕ) → Holds t c l w o n → formula t c l w o n ≡ scale (field_in t) x (shift u v (polynomial_in t item))
      → Working t c l w o n
  first-working k h item x e ex u v c l w o n held d = record {
    holds = held;
    written = rw (d ∙ ap (λ (f : Poly). scale (field_in t) x (shift u v f)) (by_number k h item e))
        (written_multiple T.field T.suits.admissible x u v (rw ex (inverse-some t T k h))
        (family-written (field_in t) (order_in t) (basis_in t) T.basis-written (suc k)));
  }

  module _ (f : PairAt) where
    abbrev G : Family
    G = family (basis_in t)

    pub difference_is : f.first < basis_count_in t → f.second < basis_count_in t
        → (i j x y : ℕ) → i ≡ gens_in t + suc f.first → j ≡ gens_in t + suc f.second → x ≡ inverse_in t f.first → y ≡ inverse_in t f.second
        → (h g : Poly) (none front back rest : Word) → none ≡ [] → front ≡ front_of G (pair_of f) → back ≡ back_of G (pair_of f) → rest ≡ rest_of G (pair_of f)
        → h ≡ scale (field_in t) x (shift none rest (polynomial_in t i))
        → g ≡ plus (field_in t) (order_in t) h (scale (field_in t) ((field_in t).neg y) (shift front back (polynomial_in t j)))
        → g ≡ written (field_in t) (order_in t) (difference (field_in t) G (pair_of f))
    difference_is p q i j x y ei ej ex ey h g none front back rest en ef eb er d e =
        difference-held T.field (order_in t) T.suits.admissible G (pair_of f) h g front back rest x y
        (family-written (field_in t) (order_in t) (basis_in t) T.basis-written (suc f.first)) er ef eb
        (ex ∙ T.inverses f.first p) (rw ex (inverse-some t T f.first p)) (ey ∙ T.inverses f.second q)
        (d ∙ ap₂ (λ (z : Word) (k : Poly). scale (field_in t) x (shift z rest k)) en (by_number f.first p i ei))
        (e
        ∙ ap (λ (k : Poly). plus (field_in t) (order_in t) h (scale (field_in t) ((field_in t).neg y) (shift front back k))) (by_number f.second q j ej))
