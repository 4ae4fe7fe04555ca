-- Every service refuses by 8, with the number of the first, the packages that have a zero polynomial in their basis (`ZeroBasis`), and no others.
use mathlib.Core.Path.{◌≡◌, refl, ap}
use mathlib.Core.Logic.{◌≢◌, ◌⊎◌, inl, inr}
use mathlib.Core.List.{List}
use Prim.Native.Nat.{ℕ}
use native.Mathlib.Omega.{arith}
use Rattle.field.specs.Field.{field_of}
use Rattle.words.specs.Order.{word_order}
use Rattle.algebra.specs.Poly.{Poly}
use Rattle.package.specs.Package.{Package, Outcome, refused, read, read_package}
use Rattle.package.proofs.ReadingNumbers.{Numbered, read_known}
use Rattle.acceptance.specs.Content.{relations, basis}
use Rattle.acceptance.specs.Check.{Verdict, refusal, fine, then_judge, zeros_judged, basis_judged, sums_verdict, checked}
use Rattle.acceptance.specs.Acceptance.{judged_by, acceptance}
use Rattle.acceptance.specs.Reduction.{package_reduced, reduction}
use Rattle.acceptance.specs.ZeroBasis.{FirstZero, ZeroBasis}
use Rattle.acceptance.proofs.FirstZero.{zero_of_refusal, refusal_of_zero}
use Rattle.services.specs.Services.{listable, check_answer, checked_as, list_answer, listed_as, short_answer, shortened_as, member_answer, membership_as}
use Rattle.services.specs.Demands.{Between, EachRefuses, SomeZero}
use Rattle.services.proofs.VerdictNumbers.{Judged}
use Rattle.services.proofs.AnswerNumbers.{outcome_weaker, acceptance_by, listable_by, ReductionNumber, reduction-has, check-has, list-has, short_has, member-has}

-- Only these packages get 8.
module _ (bytes : List ℕ) where
  OnlyZero : ℕ → Type 0
  OnlyZero n = n ≡ 8 → SomeZero bytes

  other : (n : ℕ) → n ≢ 8 → OnlyZero n
  unfolding OnlyZero
  other n h e = absurd (h e)

  eight : (P : Package) → read_package bytes ≡ read P → Judged OnlyZero (zeros_judged (basis P) 1)
  unfolding Judged OnlyZero
  eight P r = go (zeros_judged (basis P) 1) (zero_of_refusal (basis P) (zeros_judged (basis P) 1) refl)
    where
      go : (v : Verdict) → (v ≡ fine) ⊎ ((i : ℕ) × FirstZero (basis P) i × (v ≡ refusal 8 i)) → Judged OnlyZero v
      go fine h = tt
      go (refusal n k) (inl e) = λ q. let z : ◌≡◌ {A = ℕ} 0 1 = cc in absurd (omega arith)
      go (refusal n k) (inr (i, z, e)) = λ q. (i, record { content = P; reads = r; first = z })

  reading_8 : Numbered OnlyZero (read_package bytes)
  reading_8 = outcome_weaker (Between 1 7) OnlyZero (λ n x. other n (λ e. omega (arith, x.1))) (read_package bytes) (read_known bytes)

  acceptance_8 : Numbered OnlyZero (acceptance bytes)
  acceptance_8 = acceptance_by OnlyZero bytes eight (λ n x. other n (λ e. omega (arith, x.0))) reading_8

  reduction_8 : (text : List ℕ) (budget : ℕ) → ReductionNumber OnlyZero (reduction bytes text budget)
  reduction_8 text budget =
      reduction-has OnlyZero (other 16 (λ e. omega arith)) (other 17 (λ e. omega arith)) (other 18 (λ e. omega arith)) bytes text budget acceptance_8

  pub check_8 : (checked_as bytes).number ≡ 8 → SomeZero bytes
  unfolding OnlyZero
  check_8 = check-has OnlyZero (other 0 (λ e. omega arith)) bytes acceptance_8

  pub list_8 : (room : ℕ) → (listed_as bytes room).number ≡ 8 → SomeZero bytes
  unfolding OnlyZero
  list_8 room =
      list-has OnlyZero (other 0 (λ e. omega arith)) (other 19 (λ e. omega arith)) bytes room (listable_by OnlyZero bytes eight reading_8)

  pub short_8 : (text : List ℕ) (budget room : ℕ) → (shortened_as bytes text budget room).number ≡ 8 → SomeZero bytes
  unfolding OnlyZero
  short_8 text budget room = short_has OnlyZero (other 0 (λ e. omega arith)) (other 19 (λ e. omega arith)) bytes text budget room (reduction_8 text budget)

  pub member_8 : (text : List ℕ) (budget : ℕ) → (membership_as bytes text budget).number ≡ 8 → SomeZero bytes
  unfolding OnlyZero
  member_8 text budget = member-has OnlyZero (other 0 (λ e. omega arith)) bytes text budget (reduction_8 text budget)

-- And they get it from every service.
basis_8 : (ps : List Poly) (i : ℕ) → FirstZero ps i → basis_judged ps ≡ refusal 8 i
unfolding basis_judged
basis_8 ps i z = refusal_of_zero ps i z

checked_8 : (P : Package) (i : ℕ) → FirstZero (basis P) i → checked P ≡ refusal 8 i
unfolding checked then_judge
checked_8 P i z =
    ap (λ (v : Verdict). then_judge v (sums_verdict (field_of P.head.p) word_order (relations P) (basis P) P.sums)) (basis_8 (basis P) i z)

module _ (bytes : List ℕ) (i : ℕ) (z : ZeroBasis bytes i) where
  accepted_8 : acceptance bytes ≡ refused 8 i
  unfolding acceptance judged_by
  accepted_8 = rw (acceptance, z.reads, judged_by, checked_8 z.content i z.first)

  listable_8 : listable bytes ≡ refused 8 i
  unfolding listable judged_by
  listable_8 = rw (listable, z.reads, judged_by, basis_8 (basis z.content) i z.first)

  pub refused_by_8 : EachRefuses bytes 8 i
  unfolding checked_as check_answer listed_as list_answer shortened_as short_answer membership_as member_answer reduction package_reduced
  refused_by_8 = record {
    check = ap check_answer accepted_8;
    list = λ room. ap (list_answer room) listable_8;
    short = λ text budget room. ap (λ (o : Outcome). short_answer room (package_reduced text budget o)) accepted_8;
    member = λ text budget. ap (λ (o : Outcome). member_answer (package_reduced text budget o)) accepted_8;
  }
