-- Which numbers each service gives: the check at most 15, listing at most 8 or 19, the short form service at most 19, membership at most 18; none gives 9.
-- Where the number is 0 the place is 0 too.
use mathlib.Core.Path.{◌≡◌, refl}
use mathlib.Core.Bool.{Bool, true, false}
use mathlib.Core.Logic.{◌≢◌, ◌⊎◌, inl, inr}
use mathlib.Core.List.{List, [], ◌∷◌}
use Prim.Native.Nat.{ℕ, ◌≤◌}
use native.Mathlib.Omega.{arith}
use lib.Dec.{ltb, lit≤}
use lib.ListN.{length}
use Rattle.words.specs.Word.{Word}
use Rattle.package.specs.Package.{Outcome, refused, read, read_package}
use Rattle.package.specs.Writing.{write_formula}
use Rattle.package.proofs.ReadingNumbers.{Numbered, read_known}
use Rattle.overlaps.specs.Overlaps.{leads}
use Rattle.overlaps.specs.Listing.{overlap_text}
use Rattle.acceptance.specs.Content.{basis}
use Rattle.acceptance.specs.Acceptance.{acceptance}
use Rattle.acceptance.specs.Reduction.{Reduction, refused_by, short_form, reduction}
use Rattle.services.specs.Services.{listable, check_answer, checked_as, words_listed, list_answer, listed_as, short_answer, shortened_as, member_answer, membership_as}
use Rattle.services.specs.Demands.{Between, Refusing}
use Rattle.services.proofs.AnswerNumbers.{outcome_weaker, acceptance-has, listable-has, ReductionNumber, reduction-has, check-has, list-has, short_has, member-has}

-- What is judged before an answer, with the numbers of its refusals.
read_number : (hi : ℕ) → 7 ≤ hi → (bytes : List ℕ) → Numbered (Between 1 hi) (read_package bytes)
read_number hi h bytes = outcome_weaker (Between 1 7) (Between 1 hi) (λ n x. (x.0, omega (arith, x.1))) (read_package bytes) (read_known bytes)

-- What is at most hi and not 9, weaker bounds, and the numbers of a judgement.
refusing_weaker : (lo hi : ℕ) → lo ≤ hi → (n : ℕ) → Refusing lo n → Refusing hi n
refusing_weaker lo hi h n ((a, b), c) = ((a, omega arith), c)

below_9 : (hi : ℕ) → 8 ≤ hi → (n : ℕ) → Between 1 8 n → Refusing hi n
below_9 hi h n (a, b) = ((a, omega arith), λ e. omega arith)

above_9 : (hi : ℕ) (n : ℕ) → Between 10 hi n → Refusing hi n
above_9 hi n (a, b) = ((omega arith, b), λ e. omega arith)

pub acceptance-number : (bytes : List ℕ) → Numbered (Refusing 15) (acceptance bytes)
acceptance-number bytes =
    acceptance-has (Refusing 15) (below_9 15 (lit≤ tt) 8 (lit≤ tt, lit≤ tt)) (above_9 15) bytes
    (outcome_weaker (Between 1 8) (Refusing 15) (below_9 15 (lit≤ tt)) (read_package bytes) (read_number 8 (lit≤ tt) bytes))

pub listable-number : (bytes : List ℕ) → Numbered (Between 1 8) (listable bytes)
listable-number bytes = listable-has (Between 1 8) (lit≤ tt, lit≤ tt) bytes (read_number 8 (lit≤ tt) bytes)

pub reduction-number : (bytes text : List ℕ) (budget : ℕ) → ReductionNumber (Refusing 18) (reduction bytes text budget)
reduction-number bytes text budget =
    reduction-has (Refusing 18) (above_9 18 16 (lit≤ tt, lit≤ tt)) (above_9 18 17 (lit≤ tt, lit≤ tt)) (above_9 18 18 (lit≤ tt, lit≤ tt)) bytes text budget
    (outcome_weaker (Refusing 15) (Refusing 18) (refusing_weaker 15 18 (lit≤ tt)) (acceptance bytes) (acceptance-number bytes))

-- A number that is 0 or a refusal's.
Known : ℕ → ℕ → Type 0
Known hi n = (n ≤ hi) × (n ≢ 9)

known : (hi n : ℕ) → Refusing hi n → Known hi n
unfolding Known
known hi n ((a, b), c) = (b, c)

-- The check.
pub check_numbers : (bytes : List ℕ) → ((checked_as bytes).number ≤ 15) × ((checked_as bytes).number ≢ 9)
unfolding Known
check_numbers bytes =
    check-has (Known 15) (lit≤ tt, λ e. omega arith) bytes (outcome_weaker (Refusing 15) (Known 15) (known 15) (acceptance bytes) (acceptance-number bytes))

pub check_success : (bytes : List ℕ) → (checked_as bytes).number ≡ 0 → (checked_as bytes).place ≡ 0
unfolding checked_as Numbered check_answer
check_success bytes = go (acceptance bytes) (acceptance-number bytes)
  where
    go : (o : Outcome) → Numbered (Refusing 15) o → (check_answer o).number ≡ 0 → (check_answer o).place ≡ 0
    go (refused n k) ((a, b), c) e = absurd (omega arith)
    go (read P) x e = refl

-- Listing.
pub list_numbers : (bytes : List ℕ) (room : ℕ) → ((listed_as bytes room).number ≤ 8) ⊎ ((listed_as bytes room).number ≡ 19)
list_numbers bytes room =
    list-has (λ n. (n ≤ 8) ⊎ (n ≡ 19)) (inl (lit≤ tt)) (inr refl) bytes room
    (outcome_weaker (Between 1 8) (λ n. (n ≤ 8) ⊎ (n ≡ 19)) (λ n x. inl x.1) (listable bytes) (listable-number bytes))

pub list_success : (bytes : List ℕ) (room : ℕ) → (listed_as bytes room).number ≡ 0 → (listed_as bytes room).place ≡ 0
unfolding listed_as words_listed Numbered list_answer
list_success bytes room = go (listable bytes) (listable-number bytes)
  where
    by : (ws : List Word) (b : Bool) → ltb room (length (overlap_text ws)) ≡ b → (words_listed room ws).number ≡ 0 → (words_listed room ws).place ≡ 0
    by ws true q e = absurd (let z : ◌≡◌ {A = ℕ} 19 0 = rw (words_listed, q) at e in omega arith)
    by ws false q e = rw (words_listed, q)

    go : (o : Outcome) → Numbered (Between 1 8) o → (list_answer room o).number ≡ 0 → (list_answer room o).place ≡ 0
    go (refused n k) (a, b) e = absurd (omega arith)
    go (read P) x e = by (leads (basis P)) (ltb room (length (overlap_text (leads (basis P))))) refl e

-- The formula services.
reduction_known : (hi : ℕ) → 18 ≤ hi → (bytes text : List ℕ) (budget : ℕ) → ReductionNumber (Known hi) (reduction bytes text budget)
unfolding Known
reduction_known hi h bytes text budget =
    reduction-has (Known hi) (omega arith, λ e. omega arith) (omega arith, λ e. omega arith) (h, λ e. omega arith) bytes text budget
    (outcome_weaker (Refusing 15) (Known hi) (λ n x. known hi n (refusing_weaker 15 hi (omega arith) n x)) (acceptance bytes) (acceptance-number bytes))

pub short_numbers : (bytes text : List ℕ) (budget room : ℕ) → ((shortened_as bytes text budget room).number ≤ 19) × ((shortened_as bytes text budget room).number ≢ 9)
unfolding Known
short_numbers bytes text budget room =
    short_has (Known 19) (lit≤ tt, λ e. omega arith) (lit≤ tt, λ e. omega arith) bytes text budget room (reduction_known 19 (lit≤ tt) bytes text budget)

pub short_success : (bytes text : List ℕ) (budget room : ℕ) → (shortened_as bytes text budget room).number ≡ 0 → (shortened_as bytes text budget room).place ≡ 0
unfolding shortened_as ReductionNumber short_answer
short_success bytes text budget room = go (reduction bytes text budget) (reduction-number bytes text budget)
  where
    go : (r : Reduction) → ReductionNumber (Refusing 18) r → (short_answer room r).number ≡ 0 → (short_answer room r).place ≡ 0
    go (refused_by n k) ((a, b), c) e = absurd (omega arith)
    go (short_form N m) x e = by (ltb room (length (write_formula N))) refl e
      where
        by : (b : Bool) → ltb room (length (write_formula N)) ≡ b → (short_answer room (short_form N m)).number ≡ 0 → (short_answer room (short_form N m)).place ≡ 0
        by true q z = absurd (let y : ◌≡◌ {A = ℕ} 19 0 = rw (short_answer, q) at z in omega arith)
        by false q z = rw (short_answer, q)

pub member_numbers : (bytes text : List ℕ) (budget : ℕ) → ((membership_as bytes text budget).number ≤ 18) × ((membership_as bytes text budget).number ≢ 9)
unfolding Known
member_numbers bytes text budget = member-has (Known 18) (lit≤ tt, λ e. omega arith) bytes text budget (reduction_known 18 (lit≤ tt) bytes text budget)

pub member_success : (bytes text : List ℕ) (budget : ℕ) → (membership_as bytes text budget).number ≡ 0 → (membership_as bytes text budget).place ≡ 0
unfolding membership_as ReductionNumber member_answer
member_success bytes text budget = go (reduction bytes text budget) (reduction-number bytes text budget)
  where
    go : (r : Reduction) → ReductionNumber (Refusing 18) r → (member_answer r).number ≡ 0 → (member_answer r).place ≡ 0
    go (refused_by n k) ((a, b), c) e = absurd (omega arith)
    go (short_form [] m) x e = refl
    go (short_form (t ∷ N) m) x e = refl
