-- What a service's answer with number 0 comes from: a package that reads and is accepted, a formula that reads, and a run that ended.
use mathlib.Core.Path.{◌≡◌, refl, ◌∙◌, ap}
use mathlib.Core.Bool.{Bool, true, false}
use mathlib.Core.List.{List}
use Prim.Native.Nat.{ℕ, ◌≤◌}
use native.Mathlib.Omega.{arith}
use lib.Dec.{ltb}
use lib.ListN.{length, take}
use borrow.Author.Tests.{ltb-false}
use Rattle.field.specs.Field.{field_of}
use Rattle.words.specs.Order.{word_order}
use Rattle.algebra.specs.Poly.{Poly}
use Rattle.algebra.specs.Steps.{Ended, answer, over, spent, run}
use Rattle.package.specs.Formula.{formula, read_formula}
use Rattle.package.specs.Package.{Package, read, read_package}
use Rattle.package.specs.Writing.{write_formula}
use Rattle.acceptance.specs.Content.{basis}
use Rattle.acceptance.specs.Check.{Verdict, refusal, fine, checked}
use Rattle.acceptance.specs.Acceptance.{judged_by, acceptance}
use Rattle.acceptance.specs.Reduction.{formula_limits, Reduction, refused_by, short_form, reduction_of, formula_reduced, package_reduced, reduction}
use Rattle.services.specs.Services.{check_answer, checked_as, fitted, short_answer, shortened_as, short_output, shortened_into, member_answer, membership_as}
use Rattle.services.specs.Demands.{AcceptedAs}
use Rattle.services.proofs.VerdictNumbers.{Judged, check-number}
use Rattle.services.proofs.OutputStart.{stored}

-- The check refuses nothing exactly where the package reads and no refusal of 8 and 10 to 15 is met.
pub accepted_is : (bytes : List ℕ) (P : Package) → read_package bytes ≡ read P → checked P ≡ fine → acceptance bytes ≡ read P
unfolding acceptance judged_by
accepted_is bytes P e c = rw (acceptance, e, judged_by, c)

pub answered-fine : (bytes : List ℕ) (P : Package) → read_package bytes ≡ read P → (checked_as bytes).number ≡ 0 → checked P ≡ fine
unfolding checked_as acceptance Judged check_answer judged_by
answered-fine bytes P e n = go (checked P) refl (check-number P) (rw e at n)
  where
    go : (v : Verdict) → checked P ≡ v → Judged (λ n. 1 ≤ n) (checked P) → (check_answer (judged_by checked (read P))).number ≡ 0 → checked P ≡ fine
    go (refusal r k) q j z =
        let b : 1 ≤ r = rw q at j in
        let e : r ≡ 0 = rw (judged_by, q) at z in absurd (omega arith)
    go fine q j z = q

pub acceptance_is : (bytes : List ℕ) (P : Package) → AcceptedAs bytes P → acceptance bytes ≡ read P
acceptance_is bytes P acc = accepted_is bytes P acc.reads (answered-fine bytes P acc.reads acc.answered)

module _ (bytes : List ℕ) (P : Package) (acc : acceptance bytes ≡ read P) (text : List ℕ) (f : Poly)
    (reads : read_formula P.head.p P.head.letters formula_limits text ≡ formula f) (budget : ℕ) where
  pub reduction_is : reduction bytes text budget ≡ reduction_of budget (run 512 (field_of P.head.p) word_order (basis P) budget 0 f)
  unfolding reduction package_reduced formula_reduced
  reduction_is = ap (package_reduced text budget) acc ∙ ap (formula_reduced P budget) reads

  -- A number 0 comes of a run that ended.
  ended_of : (e : Ended) → run 512 (field_of P.head.p) word_order (basis P) budget 0 f ≡ e → (Q : Reduction → Type 0)
      → ((n k : ℕ) → (n ≡ 0 → ⊥) → Q (refused_by n k) → ⊥) → Q (reduction_of budget e)
      → (N : Poly) × (m : ℕ) × (run 512 (field_of P.head.p) word_order (basis P) budget 0 f ≡ answer N m)
  unfolding reduction_of
  ended_of (answer N m) r Q never q = (N, m, r)
  ended_of (over k) r Q never q = absurd (never 17 k (λ z. omega arith) q)
  ended_of spent r Q never q = absurd (never 18 budget (λ z. omega arith) q)

  pub short-answered : (room : ℕ) → (shortened_as bytes text budget room).number ≡ 0
      → (N : Poly) × (m : ℕ) × (run 512 (field_of P.head.p) word_order (basis P) budget 0 f ≡ answer N m)
  unfolding shortened_as short_answer
  short-answered room n =
      ended_of (run 512 (field_of P.head.p) word_order (basis P) budget 0 f) refl (λ r. (short_answer room r).number ≡ 0) (λ k i never q. never q)
      (rw reduction_is at n)

  pub member-answered : (membership_as bytes text budget).number ≡ 0
      → (N : Poly) × (m : ℕ) × (run 512 (field_of P.head.p) word_order (basis P) budget 0 f ≡ answer N m)
  unfolding membership_as member_answer
  member-answered n =
      ended_of (run 512 (field_of P.head.p) word_order (basis P) budget 0 f) refl (λ r. (member_answer r).number ≡ 0) (λ k i never q. never q)
      (rw reduction_is at n)

  module _ (N : Poly) (m : ℕ) (ran : run 512 (field_of P.head.p) word_order (basis P) budget 0 f ≡ answer N m) where
    pub reduced_is : reduction bytes text budget ≡ short_form N m
    unfolding reduction_of
    reduced_is = reduction_is ∙ ap (reduction_of budget) ran

    -- The bytes that a call with number 0 writes are the text of the run's end.
    pub written_is : (out : List ℕ) → (shortened_as bytes text budget (length out)).number ≡ 0
        → take (shortened_as bytes text budget (length out)).written (shortened_into bytes text budget out) ≡ write_formula N
    unfolding shortened_as shortened_into short_answer short_output fitted
    written_is out n = go (ltb (length out) (length (write_formula N))) refl (rw reduced_is at n)
      where
        go : (b : Bool) → ltb (length out) (length (write_formula N)) ≡ b → (short_answer (length out) (short_form N m)).number ≡ 0
            → take (shortened_as bytes text budget (length out)).written (shortened_into bytes text budget out) ≡ write_formula N
        go true q z = absurd (let y : ◌≡◌ {A = ℕ} 19 0 = rw (short_answer, q) at z in omega arith)
        go false q z = rw (shortened_as, shortened_into, reduced_is, short_answer, short_output, fitted, q) (stored out (write_formula N) (ltb-false (length out) (length (write_formula N)) q))
