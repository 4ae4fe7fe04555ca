-- The order in which the formula services judge: the package as the check does, then the formula, then the steps; then the room, in the short form service.
use mathlib.Core.Path.{◌≡◌, refl, ◌∙◌, ap}
use mathlib.Core.Logic.{◌≢◌}
use mathlib.Core.List.{List}
use Prim.Native.Nat.{ℕ, ◌<◌}
use lib.ListN.{length}
use Rattle.algebra.specs.Poly.{Poly}
use Rattle.package.specs.Formula.{wrong_at, read_formula}
use Rattle.package.specs.Package.{Package, Outcome, refused, read}
use Rattle.package.specs.Writing.{write_formula}
use Rattle.acceptance.specs.Acceptance.{acceptance}
use Rattle.acceptance.specs.Reduction.{formula_limits, refused_by, short_form, formula_reduced, package_reduced, reduction}
use Rattle.services.specs.Services.{check_answer, checked_as, short_answer, shortened_as, member_answer, membership_as}
use Rattle.services.specs.Demands.{AcceptedAs, refused_short}
use Rattle.services.proofs.Room.{short_no_room}
use Rattle.services.proofs.Answers.{acceptance_is}

pub package_first : (bytes text : List ℕ) (budget : ℕ) → (checked_as bytes).number ≢ 0
    → reduction bytes text budget ≡ refused_by (checked_as bytes).number (checked_as bytes).place
unfolding reduction package_reduced checked_as check_answer
package_first bytes text budget = go (acceptance bytes)
  where
    go : (o : Outcome) → (check_answer o).number ≢ 0 → package_reduced text budget o ≡ refused_by (check_answer o).number (check_answer o).place
    go (refused n k) h = refl
    go (read P) h = absurd (h refl)

pub formula-next : (bytes text : List ℕ) (budget : ℕ) (P : Package) (line : ℕ) → AcceptedAs bytes P
    → read_formula P.head.p P.head.letters formula_limits text ≡ wrong_at line → reduction bytes text budget ≡ refused_by 16 line
unfolding reduction package_reduced formula_reduced
formula-next bytes text budget P line acc e = ap (package_reduced text budget) (acceptance_is bytes P acc) ∙ ap (formula_reduced P budget) e

pub refusals-told : (bytes text : List ℕ) (budget n k : ℕ) → reduction bytes text budget ≡ refused_by n k → (room : ℕ)
    → (shortened_as bytes text budget room ≡ refused_short n k) × (membership_as bytes text budget ≡ record { number = n; place = k; steps = 0; member = 0 })
unfolding shortened_as short_answer membership_as member_answer
refusals-told bytes text budget n k e room = (ap (short_answer room) e, ap member_answer e)

pub room-last : (bytes text : List ℕ) (budget m : ℕ) (N : Poly) → reduction bytes text budget ≡ short_form N m
    → (room : ℕ) → room < length (write_formula N) → shortened_as bytes text budget room ≡ refused_short 19 (length (write_formula N))
unfolding shortened_as
room-last bytes text budget m N e room l = ap (short_answer room) e ∙ short_no_room N m room l
