-- Every service refuses by 3, with place 2, the packages whose p means no field (`NoField`), and no others.
use mathlib.Core.Path.{◌≡◌, ap}
use mathlib.Core.List.{List}
use Prim.Native.Nat.{ℕ}
use native.Mathlib.Omega.{arith}
use Rattle.package.specs.NoField.{NoField}
use Rattle.package.specs.Package.{Outcome}
use Rattle.package.proofs.FieldRefusal.{OnlyNoField, other, read_3, refused_3}
use Rattle.package.proofs.ReadingNumbers.{Numbered}
use Rattle.acceptance.specs.Content.{basis}
use Rattle.acceptance.specs.Check.{basis_judged, checked}
use Rattle.acceptance.specs.Acceptance.{judged_by, acceptance}
use Rattle.acceptance.specs.Reduction.{package_reduced, reduction}
use Rattle.services.specs.Services.{listable, check_answer, checked_as, list_answer, listed_as, short_answer, shortened_as, member_answer, membership_as}
use Rattle.services.specs.Demands.{EachRefuses}
use Rattle.services.proofs.AnswerNumbers.{acceptance-has, listable-has, ReductionNumber, reduction-has, check-has, list-has, short_has, member-has}

-- Only these packages get 3.
module _ (bytes : List ℕ) where
  acceptance_3 : Numbered (OnlyNoField bytes) (acceptance bytes)
  acceptance_3 = acceptance-has (OnlyNoField bytes) (other bytes 8 (λ e. omega arith)) (λ n x. other bytes n (λ e. omega (arith, x.0))) bytes (read_3 bytes)

  reduction_3 : (text : List ℕ) (budget : ℕ) → ReductionNumber (OnlyNoField bytes) (reduction bytes text budget)
  reduction_3 text budget =
      reduction-has (OnlyNoField bytes) (other bytes 16 (λ e. omega arith)) (other bytes 17 (λ e. omega arith)) (other bytes 18 (λ e. omega arith)) bytes text budget acceptance_3

  success : OnlyNoField bytes 0
  success = other bytes 0 (λ e. omega arith)

  narrow : OnlyNoField bytes 19
  narrow = other bytes 19 (λ e. omega arith)

  pub check_3 : (checked_as bytes).number ≡ 3 → NoField bytes
  check_3 = check-has (OnlyNoField bytes) success bytes acceptance_3

  pub list_3 : (room : ℕ) → (listed_as bytes room).number ≡ 3 → NoField bytes
  list_3 room = list-has (OnlyNoField bytes) success narrow bytes room (listable-has (OnlyNoField bytes) (other bytes 8 (λ e. omega arith)) bytes (read_3 bytes))

  pub short_3 : (text : List ℕ) (budget room : ℕ) → (shortened_as bytes text budget room).number ≡ 3 → NoField bytes
  short_3 text budget room = short_has (OnlyNoField bytes) success narrow bytes text budget room (reduction_3 text budget)

  pub member_3 : (text : List ℕ) (budget : ℕ) → (membership_as bytes text budget).number ≡ 3 → NoField bytes
  member_3 text budget = member-has (OnlyNoField bytes) success bytes text budget (reduction_3 text budget)

-- And they get it from every service.
pub refused_by_3 : (bytes : List ℕ) → NoField bytes → EachRefuses bytes 3 2
unfolding checked_as check_answer listed_as list_answer listable shortened_as short_answer membership_as member_answer acceptance judged_by reduction package_reduced
refused_by_3 bytes n =
    let r = refused_3 bytes n in
    record {
      check = ap (λ (o : Outcome). check_answer (judged_by checked o)) r;
      list = λ room. ap (λ (o : Outcome). list_answer room (judged_by (λ P. basis_judged (basis P)) o)) r;
      short = λ text budget room. ap (λ (o : Outcome). short_answer room (package_reduced text budget (judged_by checked o))) r;
      member = λ text budget. ap (λ (o : Outcome). member_answer (package_reduced text budget (judged_by checked o))) r;
    }
