-- The inverses of a table's leading coefficients: they are elements other than 0, and what was divided by a leading coefficient, times that, is as before.
use mathlib.Core.Path.{◌≡◌, ◌∙◌, ap}
use mathlib.Core.Logic.{◌≢◌, inl, inr, ◌⊎◌}
use mathlib.Core.List.{List, []}
use Prim.Native.Nat.{ℕ, suc, ◌<◌}
use Rattle.field.proofs.Derived.{inv-ne-zero, divided_times}
use Rattle.field.proofs.Fields.{below_of, element_of}
use Rattle.field.proofs.Inverse.{inv-lt}
use Rattle.algebra.specs.Ideal.{family}
use Rattle.algebra.specs.Groebner.{lead_coef, Led}
use Rattle.algebra.proofs.Leading.{red-lead}
use Rattle.algebra.proofs.WrittenForm.{written-led}
use Rattle.working.proofs.Families.{family-written}
use Rattle.table.specs.Table.{prime_in, basis_count_in, field_in, order_in, inverse_in}
use Rattle.table.specs.Polynomials.{basis_in}
use Rattle.table.specs.Tabled.{Tabled}
use Rattle.table.proofs.LeadingTerms.{basis-some}

module _ (t : List ℕ) (T : Tabled t) where
  pub inverse-small : (g : ℕ) → g < basis_count_in t → inverse_in t g < prime_in t
  inverse-small g h = rw (T.inverses g h) (inv-lt (prime_in t) (lead_coef (family (basis_in t) (suc g))) (below_of (prime_in t) T.field.one_lt))

  -- a polynomial of the basis has a leading coefficient
  lead-some : (g : ℕ) → family (basis_in t) g ≢ [] → (field_in t).red (lead_coef (family (basis_in t) g)) ≢ 0
  lead-some g n = go (written-led T.field T.suits.admissible (family (basis_in t) g) (family-written (field_in t) (order_in t) (basis_in t) T.basis-written g))
    where
      go : (family (basis_in t) g ≡ []) ⊎ Led (field_in t) (order_in t) (family (basis_in t) g) → (field_in t).red (lead_coef (family (basis_in t) g)) ≢ 0
      go (inl e) = absurd (n e)
      go (inr l) = red-lead T.field T.suits.admissible l

  pub inverse-some : (g : ℕ) → g < basis_count_in t → (field_in t).red (inverse_in t g) ≢ 0
  inverse-some g h = rw (T.inverses g h) (inv-ne-zero T.field (lead_coef (family (basis_in t) (suc g))) (lead-some (suc g) (basis-some t T g h)))

  -- an element divided by a leading coefficient, times that, is the element
  pub divided-back : (g c : ℕ) → family (basis_in t) g ≢ [] → c < prime_in t
      → (field_in t).mul ((field_in t).mul c ((field_in t).inv (lead_coef (family (basis_in t) g)))) (lead_coef (family (basis_in t) g)) ≡ c
  divided-back g c n h =
      divided_times T.field (lead_coef (family (basis_in t) g)) c (lead-some g n) ∙ T.field.red_elem c (element_of (prime_in t) h)

  -- a polynomial divided by its leading coefficient leads with 1
  pub inverse-lead : (g : ℕ) → g < basis_count_in t → (field_in t).mul (inverse_in t g) (lead_coef (family (basis_in t) (suc g))) ≡ 1
  inverse-lead g h =
      let a = lead_coef (family (basis_in t) (suc g)) in
      ap (λ (x : ℕ). (field_in t).mul x a) (T.inverses g h) ∙ T.field.mul_comm ((field_in t).inv a) a ∙ T.field.mul-inv a (lead-some (suc g) (basis-some t T g h))
