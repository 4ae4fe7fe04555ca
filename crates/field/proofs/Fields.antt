-- Which operations a number p means: those of GF(256) for 256, those modulo p for any other. The elements are the numbers below p; and for 256 and for every
-- prime it is a field.
use mathlib.Core.Path.{◌≡◌, refl, sym, subst}
use mathlib.Core.Logic.{◌⊎◌, inl, inr, ◌≢◌}
use Prim.Native.Nat.{ℕ, ◌<◌}
use native.Mathlib.Decide.{ℕ_discrete}
use borrow.Author.Tests.{ne_eqb}
use Rattle.field.specs.Prime.{Prime}
use Rattle.field.specs.Field.{Operations, Field, modular, gf256, field_of}
use Rattle.field.proofs.Modular.{modular-field}
use Rattle.field.proofs.ByteField.{gf256-field}

pub field_256 : field_of 256 ≡ gf256
unfolding field_of
field_256 = refl

pub field_other : (p : ℕ) → p ≢ 256 → field_of p ≡ modular p
unfolding field_of
field_other p n = rw (field_of, ne_eqb p 256 n)

-- what holds of GF(256) and of the numbers modulo p holds of the field that p means
pub by_field : (P : ℕ → Operations → Type 0) → P 256 gf256 → ((p : ℕ) → P p (modular p)) → (p : ℕ) → P p (field_of p)
by_field P byte other p = go (ℕ_discrete p 256)
  where
    go : Dec (p ≡ 256) → P p (field_of p)
    go (yes e) = subst (λ (n : ℕ). P n (field_of n)) (sym e) (subst (P 256) (sym field_256) byte)
    go (no n) = subst (P p) (sym (field_other p n)) (other p)

pub size_of : (p : ℕ) → (field_of p).size ≡ p
unfolding gf256 modular
size_of = by_field (λ p K. K.size ≡ p) refl (λ p. refl)

-- the elements are the numbers below p
pub element_of : (p : ℕ) {a : ℕ} → a < p → a < (field_of p).size
element_of p {a} h = subst (λ (n : ℕ). a < n) (sym (size_of p)) h

pub below_of : (p : ℕ) {a : ℕ} → a < (field_of p).size → a < p
below_of p {a} h = subst (λ (n : ℕ). a < n) (size_of p) h

field_of_256 : Field (field_of 256)
field_of_256 = subst Field (sym field_256) gf256-field

pub field_of-field : (p : ℕ) → (p ≡ 256) ⊎ Prime p → Field (field_of p)
field_of-field p (inl e) = subst (λ (n : ℕ). Field (field_of n)) (sym e) field_of_256
field_of-field p (inr h) = go (ℕ_discrete p 256)
  where
    go : Dec (p ≡ 256) → Field (field_of p)
    go (yes e) = subst (λ (n : ℕ). Field (field_of n)) (sym e) field_of_256
    go (no n) = subst Field (sym (field_other p n)) (modular-field p h)
