-- Demand 1: a refusal has counts 0 and leaves the output slice as it was.
use mathlib.Core.Path.{◌≡◌, refl}
use mathlib.Core.Bool.{Bool, true, false}
use mathlib.Core.List.{List, [], ◌∷◌}
use Prim.Native.Nat.{ℕ}
use lib.Dec.{ltb}
use lib.ListN.{length}
use Rattle.algebra.specs.Poly.{Poly}
use Rattle.overlaps.specs.Overlaps.{leads}
use Rattle.overlaps.specs.Listing.{overlap_text}
use Rattle.package.specs.Package.{Package, Outcome, refused, read}
use Rattle.package.specs.Writing.{write_formula}
use Rattle.acceptance.specs.Content.{basis}
use Rattle.acceptance.specs.Acceptance.{acceptance}
use Rattle.acceptance.specs.Reduction.{Reduction, refused_by, short_form, reduction}
use Rattle.services.specs.Services.{listable, check_answer, checked_as, fitted, words_listed, list_answer, listed_as, list_output, listed_into, short_answer, shortened_as, short_output, shortened_into, member_answer, membership_as}

pub refused-check : (bytes : List ℕ) → ((checked_as bytes).number ≡ 0 → ⊥) → (checked_as bytes).overlaps ≡ 0
unfolding checked_as check_answer
refused-check bytes = go (acceptance bytes)
  where
    go : (o : Outcome) → ((check_answer o).number ≡ 0 → ⊥) → (check_answer o).overlaps ≡ 0
    go (refused n k) h = refl
    go (read P) h = absurd (h refl)

pub refused-list : (bytes out : List ℕ) → ((listed_as bytes (length out)).number ≡ 0 → ⊥)
    → ((listed_as bytes (length out)).overlaps ≡ 0) × ((listed_as bytes (length out)).written ≡ 0) × (listed_into bytes out ≡ out)
unfolding listed_as listed_into list_answer list_output words_listed fitted
refused-list bytes out = go (listable bytes)
  where
    by : (P : Package) (b : Bool) → ltb (length out) (length (overlap_text (leads (basis P)))) ≡ b → ((words_listed (length out) (leads (basis P))).number ≡ 0 → ⊥)
        → ((words_listed (length out) (leads (basis P))).overlaps ≡ 0) × ((words_listed (length out) (leads (basis P))).written ≡ 0) × (fitted (overlap_text (leads (basis P))) out ≡ out)
    by P true q h = (rw (words_listed, q), rw (words_listed, q), rw (fitted, q))
    by P false q h = absurd (h (rw (words_listed, q)))

    go : (o : Outcome) → ((list_answer (length out) o).number ≡ 0 → ⊥)
        → ((list_answer (length out) o).overlaps ≡ 0) × ((list_answer (length out) o).written ≡ 0) × (list_output out o ≡ out)
    go (refused n k) h = (refl, refl, refl)
    go (read P) h = by P (ltb (length out) (length (overlap_text (leads (basis P))))) refl h

pub refused-short : (bytes text : List ℕ) (budget : ℕ) (out : List ℕ) → ((shortened_as bytes text budget (length out)).number ≡ 0 → ⊥)
    → ((shortened_as bytes text budget (length out)).steps ≡ 0) × ((shortened_as bytes text budget (length out)).written ≡ 0) × (shortened_into bytes text budget out ≡ out)
unfolding shortened_as shortened_into short_answer short_output fitted
refused-short bytes text budget out = go (reduction bytes text budget)
  where
    by : (N : Poly) (m : ℕ) (b : Bool) → ltb (length out) (length (write_formula N)) ≡ b → ((short_answer (length out) (short_form N m)).number ≡ 0 → ⊥)
        → ((short_answer (length out) (short_form N m)).steps ≡ 0) × ((short_answer (length out) (short_form N m)).written ≡ 0) × (fitted (write_formula N) out ≡ out)
    by N m true q h = (rw (short_answer, q), rw (short_answer, q), rw (fitted, q))
    by N m false q h = absurd (h (rw (short_answer, q)))

    go : (r : Reduction) → ((short_answer (length out) r).number ≡ 0 → ⊥)
        → ((short_answer (length out) r).steps ≡ 0) × ((short_answer (length out) r).written ≡ 0) × (short_output out r ≡ out)
    go (refused_by n k) h = (refl, refl, refl)
    go (short_form N m) h = by N m (ltb (length out) (length (write_formula N))) refl h

pub refused-member : (bytes text : List ℕ) (budget : ℕ) → ((membership_as bytes text budget).number ≡ 0 → ⊥)
    → ((membership_as bytes text budget).steps ≡ 0) × ((membership_as bytes text budget).member ≡ 0)
unfolding membership_as member_answer
refused-member bytes text budget = go (reduction bytes text budget)
  where
    go : (r : Reduction) → ((member_answer r).number ≡ 0 → ⊥) → ((member_answer r).steps ≡ 0) × ((member_answer r).member ≡ 0)
    go (refused_by n k) h = (refl, refl)
    go (short_form [] m) h = absurd (h refl)
    go (short_form (t ∷ N) m) h = absurd (h refl)
