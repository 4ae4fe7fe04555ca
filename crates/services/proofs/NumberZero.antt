-- A call with number 0 has judged all that came before its answer: the package reads and is accepted, the formula reads, the run ended, and the room suffices.
use mathlib.Core.Path.{◌≡◌, refl, ap}
use mathlib.Core.Bool.{Bool, true, false}
use mathlib.Core.List.{List}
use Prim.Native.Nat.{ℕ, ◌≤◌}
use native.Mathlib.Omega.{arith}
use lib.Dec.{ltb}
use lib.ListN.{length}
use borrow.Author.Tests.{ltb-false}
use Rattle.field.specs.Field.{field_of}
use Rattle.words.specs.Order.{word_order}
use Rattle.algebra.specs.Poly.{Poly}
use Rattle.algebra.specs.Steps.{Ended, answer, over, spent, run}
use Rattle.package.specs.Formula.{FormulaOutcome, wrong_at, formula, read_formula}
use Rattle.package.specs.Package.{Package, Outcome, refused, read, read_package}
use Rattle.package.specs.Writing.{write_formula}
use Rattle.overlaps.specs.Overlaps.{leads}
use Rattle.overlaps.specs.Listing.{overlap_text}
use Rattle.acceptance.specs.Content.{basis}
use Rattle.acceptance.specs.Check.{Verdict, refusal, fine, basis_judged, checked}
use Rattle.acceptance.specs.Acceptance.{judged_by, acceptance}
use Rattle.acceptance.specs.Reduction.{formula_limits, Reduction, refused_by, short_form, reduction_of, formula_reduced, package_reduced, reduction}
use Rattle.services.specs.Services.{listable, check_answer, checked_as, words_listed, list_answer, listed_as, short_answer, shortened_as, member_answer, membership_as}
use Rattle.services.specs.Demands.{Between, Refusing, AcceptedAs, ReadAs}
use Rattle.package.proofs.ReadingNumbers.{Numbered}
use Rattle.services.proofs.AnswerNumbers.{ReductionNumber}
use Rattle.services.proofs.ServiceNumbers.{listable-number, reduction-number}

-- What is judged to be read was read.
judged-read : (judge : Package → Verdict) (o : Outcome) (P : Package) → judged_by judge o ≡ read P → o ≡ read P
unfolding judged_by
judged-read judge (refused n k) P e = e
judged-read judge (read R) P e = go (judge R) e
  where
    go : (v : Verdict) → elim v [ refusal n k ↦ refused n k | fine ↦ read R ] ≡ read P → read R ≡ read P
    go (refusal n k) q = cc
    go fine q = q

pub accepted_as : (bytes : List ℕ) (P : Package) → acceptance bytes ≡ read P → AcceptedAs bytes P
unfolding acceptance checked_as check_answer
accepted_as bytes P e = record { reads = judged-read checked (read_package bytes) P e; answered = ap (λ (o : Outcome). (check_answer o).number) e }

-- Listing.
pub list-answered : (bytes : List ℕ) (room : ℕ) → (listed_as bytes room).number ≡ 0
    → (P : Package) × (listable bytes ≡ read P) × (read_package bytes ≡ read P) × (length (overlap_text (leads (basis P))) ≤ room)
unfolding listed_as list_answer words_listed Numbered listable
list-answered bytes room e = go (listable bytes) refl (listable-number bytes) e
  where
    by : (P : Package) (b : Bool) → ltb room (length (overlap_text (leads (basis P)))) ≡ b → (words_listed room (leads (basis P))).number ≡ 0
        → length (overlap_text (leads (basis P))) ≤ room
    by P true q z = absurd (let y : ◌≡◌ {A = ℕ} 19 0 = rw (words_listed, q) at z in omega arith)
    by P false q z = ltb-false room (length (overlap_text (leads (basis P)))) q

    go : (o : Outcome) → listable bytes ≡ o → Numbered (Between 1 8) o → (list_answer room o).number ≡ 0
        → (P : Package) × (listable bytes ≡ read P) × (read_package bytes ≡ read P) × (length (overlap_text (leads (basis P))) ≤ room)
    go (refused n k) q (a, b) z = absurd (omega arith)
    go (read P) q x z =
        (P, q, judged-read (λ R. basis_judged (basis R)) (read_package bytes) P q, by P (ltb room (length (overlap_text (leads (basis P))))) refl z)

-- The package, the formula and the run that a short form came of.
pub record RanTo (bytes text : List ℕ) (budget : ℕ) (N : Poly) (m : ℕ) : Type 0 where
  pub content : Package
  pub input : Poly
  pub accepted : acceptance bytes ≡ read content
  pub reads : ReadAs content text input
  pub ran : run 512 (field_of content.head.p) word_order (basis content) budget 0 input ≡ answer N m

reduction_ran : (bytes text : List ℕ) (budget : ℕ) (N : Poly) (m : ℕ) → reduction bytes text budget ≡ short_form N m → RanTo bytes text budget N m
unfolding reduction package_reduced formula_reduced reduction_of
reduction_ran bytes text budget N m e = go (acceptance bytes) refl e
  where
    no : {A : Type 0} {n k : ℕ} → refused_by n k ≡ short_form N m → A
    no q = let z : ◌≡◌ {A = ℕ} 0 1 = cc in absurd (omega arith)

    ends : (x : Ended) → reduction_of budget x ≡ short_form N m → x ≡ answer N m
    ends (answer M k) q = cc
    ends (over k) q = no q
    ends spent q = no q

    at : (P : Package) → acceptance bytes ≡ read P → (o : FormulaOutcome) → read_formula P.head.p P.head.letters formula_limits text ≡ o
        → formula_reduced P budget o ≡ short_form N m → RanTo bytes text budget N m
    at P a (wrong_at n) r q = no q
    at P a (formula f) r q = record {
      content = P;
      input = f;
      accepted = a;
      reads = r;
      ran = ends (run 512 (field_of P.head.p) word_order (basis P) budget 0 f) q;
    }

    go : (o : Outcome) → acceptance bytes ≡ o → package_reduced text budget o ≡ short_form N m → RanTo bytes text budget N m
    go (refused n k) a q = no q
    go (read P) a q = at P a (read_formula P.head.p P.head.letters formula_limits text) refl q

-- The short form service.
pub short_ran : (bytes text : List ℕ) (budget room : ℕ) → (shortened_as bytes text budget room).number ≡ 0
    → (N : Poly) × (m : ℕ) × (reduction bytes text budget ≡ short_form N m) × (length (write_formula N) ≤ room) × RanTo bytes text budget N m
unfolding shortened_as short_answer ReductionNumber
short_ran bytes text budget room e = go (reduction bytes text budget) refl (reduction-number bytes text budget) e
  where
    by : (N : Poly) (m : ℕ) (b : Bool) → ltb room (length (write_formula N)) ≡ b → (short_answer room (short_form N m)).number ≡ 0 → length (write_formula N) ≤ room
    by N m true q z = absurd (let y : ◌≡◌ {A = ℕ} 19 0 = rw (short_answer, q) at z in omega arith)
    by N m false q z = ltb-false room (length (write_formula N)) q

    go : (r : Reduction) → reduction bytes text budget ≡ r → ReductionNumber (Refusing 18) r → (short_answer room r).number ≡ 0
        → (N : Poly) × (m : ℕ) × (reduction bytes text budget ≡ short_form N m) × (length (write_formula N) ≤ room) × RanTo bytes text budget N m
    go (refused_by n k) q ((a, b), c) z = absurd (omega arith)
    go (short_form N m) q x z = (N, m, q, by N m (ltb room (length (write_formula N))) refl z, reduction_ran bytes text budget N m q)

-- Membership.
pub member_ran : (bytes text : List ℕ) (budget : ℕ) → (membership_as bytes text budget).number ≡ 0
    → (N : Poly) × (m : ℕ) × (reduction bytes text budget ≡ short_form N m) × RanTo bytes text budget N m
unfolding membership_as member_answer ReductionNumber
member_ran bytes text budget e = go (reduction bytes text budget) refl (reduction-number bytes text budget) e
  where
    go : (r : Reduction) → reduction bytes text budget ≡ r → ReductionNumber (Refusing 18) r → (member_answer r).number ≡ 0
        → (N : Poly) × (m : ℕ) × (reduction bytes text budget ≡ short_form N m) × RanTo bytes text budget N m
    go (refused_by n k) q ((a, b), c) z = absurd (omega arith)
    go (short_form N m) q x z = (N, m, q, reduction_ran bytes text budget N m q)
