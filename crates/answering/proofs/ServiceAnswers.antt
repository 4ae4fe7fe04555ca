-- What check, short form and membership answer, case by case.
use mathlib.Core.Path.{◌≡◌, refl, sym, ◌∙◌, ap}
use mathlib.Core.List.{List, [], ◌∷◌}
use mathlib.Core.Bool.{Bool}
use Prim.Native.Nat.{ℕ, suc}
use native.Mathlib.Omega.{arith}
use lib.ListN.{length}
use borrow.Author.Tests.{ne_eqb}
use Rattle.std.specs.Int.{from_bool}
use Rattle.std.specs.Prelude.{nat_eq}
use Rattle.algebra.specs.Poly.{Poly}
use Rattle.package.specs.Package.{refused}
use Rattle.package.specs.Writing.{write_formula}
use Rattle.overlaps.specs.Overlaps.{leads, overlaps}
use Rattle.acceptance.specs.Acceptance.{acceptance}
use Rattle.accepting.specs.Accepted.{TableAccepted}
use Rattle.table.specs.Polynomials.{basis_in}
use Rattle.acceptance.specs.Reduction.{refused_by, short_form, reduction}
use Rattle.services.specs.declared.Checked.{Checked}
use Rattle.services.specs.declared.Membership.{Membership}
use Rattle.services.specs.Services.{check_answer, checked_as, fitted, short_answer, shortened_as, short_output, shortened_into, member_answer, membership_as}

-- The check: a package that is refused, and one that is accepted.
pub refused-checked : (bytes : List ℕ) (n k : ℕ) → acceptance bytes ≡ refused n k → record { number = n; place = k; overlaps = 0 } ≡ checked_as bytes
unfolding checked_as check_answer
refused-checked bytes n k e = sym (ap check_answer e)

checked_with : ℕ → Checked
checked_with k = record { number = 0; place = 0; overlaps = k }

pub accepted-checked : (bytes t : List ℕ) (count : ℕ) → TableAccepted bytes t → count ≡ length (overlaps (leads (basis_in t)))
    → record { number = 0; place = 0; overlaps = count } ≡ checked_as bytes
unfolding checked_as check_answer checked_with
accepted-checked bytes t count a e =
    ap checked_with (e ∙ ap (λ (ps : List Poly). length (overlaps (leads ps))) a.basis) ∙ sym (ap check_answer a.accepted)

-- A formula that is refused.
module _ (bytes text : List ℕ) (budget n k : ℕ) (e : refused_by n k ≡ reduction bytes text budget) where
  pub refused_shortened : (room : ℕ) → record { number = n; place = k; steps = 0; written = 0 } ≡ shortened_as bytes text budget room
  unfolding shortened_as short_answer
  refused_shortened room = ap (short_answer room) e

  pub refused-kept : (out : List ℕ) → out ≡ shortened_into bytes text budget out
  unfolding shortened_into short_output
  refused-kept out = ap (short_output out) e

  pub refused-member : record { number = n; place = k; steps = 0; member = 0 } ≡ membership_as bytes text budget
  unfolding membership_as member_answer
  refused-member = ap member_answer e

-- A formula that gets a short form.
module _ (bytes text : List ℕ) (budget steps : ℕ) (N : Poly) (e : short_form N steps ≡ reduction bytes text budget) where
  pub short_shortened : (room : ℕ) → short_answer room (short_form N steps) ≡ shortened_as bytes text budget room
  unfolding shortened_as
  short_shortened room = ap (short_answer room) e

  pub short-written : (out : List ℕ) → fitted (write_formula N) out ≡ shortened_into bytes text budget out
  unfolding shortened_into short_output
  short-written out = ap (short_output out) e

  -- Membership: yes where no term is left.
  pub short-member : (terms : ℕ) → length N ≡ terms
      → record { number = 0; place = 0; steps = steps; member = from_bool (nat_eq terms 0) } ≡ membership_as bytes text budget
  unfolding membership_as member_answer
  short-member terms l = ap answered (sym l) ∙ by_terms N ∙ ap member_answer e
    where
      answered : ℕ → Membership
      answered k = record { number = 0; place = 0; steps = steps; member = from_bool (nat_eq k 0) }

      by_terms : (f : Poly) → answered (length f) ≡ member_answer (short_form f steps)
      by_terms [] = refl
      by_terms (t ∷ f) =
          ap (λ (b : Bool). record { number = 0; place = 0; steps = steps; member = from_bool b }) (ne_eqb (suc (length f)) 0 (λ z. omega arith))
