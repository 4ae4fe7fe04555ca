-- What the services answer is what 01 and 02 define: the list has the overlaps and inclusions, and short form and membership tell the steps and their end.
use mathlib.Core.Path.{◌≡◌, refl, ◌∙◌, ap}
use mathlib.Core.Logic.{◌≢◌}
use mathlib.Core.List.{List, [], ◌∷◌}
use Prim.Native.Nat.{ℕ}
use lib.ListN.{length}
use Rattle.algebra.specs.Poly.{Poly}
use Rattle.package.specs.Package.{Package, Outcome, read, read_package}
use Rattle.package.specs.Writing.{write_formula}
use Rattle.overlaps.specs.Pairs.{Pair}
use Rattle.overlaps.specs.Overlaps.{leads, overlaps}
use Rattle.overlaps.specs.Listing.{overlap_text}
use Rattle.overlaps.proofs.Listed.{listed_iff, overlaps-rising}
use Rattle.acceptance.specs.Content.{basis}
use Rattle.acceptance.specs.Reduction.{Reduction, short_form}
use Rattle.services.specs.declared.Listed.{Listed}
use Rattle.services.specs.declared.Shortened.{Shortened}
use Rattle.services.specs.Services.{check_answer, checked_as, list_answer, listed_as, list_output, listed_into, short_answer, shortened_as, short_output, shortened_into, member_answer, membership_as}
use Rattle.services.specs.Demands.{AcceptedAs, ReadAs, OverlapsOf, ListsOverlaps, ShortensBySteps, DecidesBySteps}
use Rattle.services.proofs.Room.{room_listed, short-room}
use Rattle.services.proofs.OutputStart.{fitted-start}
use Rattle.services.proofs.Answers.{acceptance_is}
use Rattle.services.proofs.NumberZero.{accepted_as, list-answered, short_ran, member_ran}
use Rattle.services.proofs.StepsByRule.{only-steps}

overlaps_of : (P : Package) → OverlapsOf P (overlaps (leads (basis P)))
overlaps_of P = record { all = listed_iff (leads (basis P)); order = overlaps-rising (leads (basis P)) }

-- The check's count.
pub check-count : (bytes : List ℕ) (P : Package) → AcceptedAs bytes P → (os : List Pair) × OverlapsOf P os × ((checked_as bytes).overlaps ≡ length os)
unfolding checked_as check_answer
check-count bytes P acc =
    (overlaps (leads (basis P)), overlaps_of P, ap (λ (o : Outcome). (check_answer o).overlaps) (acceptance_is bytes P acc))

-- The list.
pub list-overlaps : (bytes out : List ℕ) → (listed_as bytes (length out)).number ≡ 0
    → (P : Package) × (read_package bytes ≡ read P) × ListsOverlaps P (listed_as bytes (length out)) out (listed_into bytes out)
unfolding listed_as listed_into list_answer list_output overlap_text
list-overlaps bytes out n =
    let (P, e, r, l) = list-answered bytes (length out) n in
    let a = ap (list_answer (length out)) e ∙ room_listed (leads (basis P)) (length out) l in (
      P,
      r,
      record {
        rows = overlaps (leads (basis P));
        exact = overlaps_of P;
        count = ap (λ (x : Listed). x.overlaps) a;
        size = ap (λ (x : Listed). x.written) a;
        output = ap (list_output out) e ∙ fitted-start (overlap_text (leads (basis P))) out l;
      },
    )

-- The short form service.
pub short_by_steps : (bytes text : List ℕ) (budget : ℕ) (out : List ℕ) → (shortened_as bytes text budget (length out)).number ≡ 0
    → (P : Package) × (f : Poly) × AcceptedAs bytes P × ReadAs P text f
    × ShortensBySteps P f (shortened_as bytes text budget (length out)) out (shortened_into bytes text budget out)
unfolding shortened_as shortened_into short_output
short_by_steps bytes text budget out n =
    let (N, m, r, l, x) = short_ran bytes text budget (length out) n in
    let a = ap (short_answer (length out)) r ∙ short-room N m (length out) l in (
      x.content,
      x.input,
      accepted_as bytes x.content x.accepted,
      x.reads,
      record {
        form = N;
        steps = only-steps bytes text budget N m x _ (ap (λ (y : Shortened). y.steps) a);
        size = ap (λ (y : Shortened). y.written) a;
        output = ap (short_output out) r ∙ fitted-start (write_formula N) out l;
      },
    )

-- Membership.
pub member_by_steps : (bytes text : List ℕ) (budget : ℕ) → (membership_as bytes text budget).number ≡ 0
    → (P : Package) × (f : Poly) × AcceptedAs bytes P × ReadAs P text f × DecidesBySteps P f (membership_as bytes text budget)
unfolding membership_as member_answer
member_by_steps bytes text budget n =
    let (N, m, r, x) = member_ran bytes text budget n in (
      x.content,
      x.input,
      accepted_as bytes x.content x.accepted,
      x.reads,
      record {
        form = N;
        steps = only-steps bytes text budget N m x _ (ap (λ (y : Reduction). (member_answer y).steps) r ∙ steps-told N m);
        yes = λ e. ap (λ (y : Reduction). (member_answer y).member) r ∙ yes N m e;
        no = λ e. ap (λ (y : Reduction). (member_answer y).member) r ∙ no N m e;
      },
    )
  where
    steps-told : (N : Poly) (m : ℕ) → (member_answer (short_form N m)).steps ≡ m
    steps-told [] m = refl
    steps-told (t ∷ N) m = refl

    yes : (N : Poly) (m : ℕ) → N ≡ [] → (member_answer (short_form N m)).member ≡ 1
    yes N m e = rw e refl

    no : (N : Poly) (m : ℕ) → N ≢ [] → (member_answer (short_form N m)).member ≡ 0
    no [] m e = absurd (e refl)
    no (t ∷ N) m e = refl
