-- What the numbers of every judgement have, the number of an answer has: laws of each service for any property Q of numbers.
use mathlib.Core.Path.{◌≡◌, refl}
use mathlib.Core.Bool.{Bool, true, false}
use mathlib.Core.List.{List, [], ◌∷◌}
use Prim.Native.Nat.{ℕ}
use lib.Dec.{ltb}
use lib.ListN.{length}
use Rattle.field.specs.Field.{field_of}
use Rattle.words.specs.Word.{Word}
use Rattle.words.specs.Order.{word_order}
use Rattle.algebra.specs.Poly.{Poly}
use Rattle.algebra.specs.Steps.{Ended, answer, over, spent, run}
use Rattle.package.specs.Formula.{FormulaOutcome, wrong_at, formula, read_formula}
use Rattle.package.specs.Package.{Package, Outcome, refused, read, read_package}
use Rattle.package.specs.Writing.{write_formula}
use Rattle.package.proofs.ReadingNumbers.{Numbered}
use Rattle.overlaps.specs.Overlaps.{leads}
use Rattle.overlaps.specs.Listing.{overlap_text}
use Rattle.acceptance.specs.Content.{basis}
use Rattle.acceptance.specs.Check.{Verdict, refusal, fine, zeros_judged, basis_judged, checked}
use Rattle.acceptance.specs.Acceptance.{judged_by, acceptance}
use Rattle.acceptance.specs.Reduction.{formula_limits, Reduction, refused_by, short_form, reduction_of, formula_reduced, package_reduced, reduction}
use Rattle.services.specs.Services.{listable, check_answer, checked_as, words_listed, list_answer, listed_as, short_answer, shortened_as, member_answer, membership_as}
use Rattle.services.specs.Demands.{Between}
use Rattle.services.proofs.VerdictNumbers.{Judged, zeros-number, basis-judged, check-judged}

-- A refusal's number that has one property has every weaker one.
pub outcome_weaker : (Q R : ℕ → Type 0) → ((n : ℕ) → Q n → R n) → (o : Outcome) → Numbered Q o → Numbered R o
unfolding Numbered
outcome_weaker Q R h (refused n k) x = h n x
outcome_weaker Q R h (read P) x = tt

module _ (Q : ℕ → Type 0) where
  -- What was read is judged: a refusal is the reader's or the judge's.
  judged-number : (judge : Package → Verdict) (o : Outcome) → ((P : Package) → o ≡ read P → Judged Q (judge P)) → Numbered Q o → Numbered Q (judged_by judge o)
  unfolding Numbered Judged judged_by
  judged-number judge (refused n k) j x = x
  judged-number judge (read P) j x = go (judge P) (j P refl)
    where
      go : (v : Verdict) → Judged Q v → Numbered Q {A = Package} (elim v [ refusal n k ↦ refused n k | fine ↦ read P ])
      go (refusal n k) y = y
      go fine y = tt

  -- What 8 gives may depend on the package.
  module _ (bytes : List ℕ) (eight : (P : Package) → read_package bytes ≡ read P → Judged Q (zeros_judged (basis P) 1)) where
    pub acceptance_by : ((n : ℕ) → Between 10 15 n → Q n) → Numbered Q (read_package bytes) → Numbered Q (acceptance bytes)
    unfolding acceptance
    acceptance_by h = judged-number checked (read_package bytes) (λ P e. check-judged Q P (eight P e) h)

    pub listable_by : Numbered Q (read_package bytes) → Numbered Q (listable bytes)
    unfolding listable
    listable_by = judged-number (λ P. basis_judged (basis P)) (read_package bytes) (λ P e. basis-judged Q (basis P) (eight P e))

  pub acceptance-has : Q 8 → ((n : ℕ) → Between 10 15 n → Q n) → (bytes : List ℕ) → Numbered Q (read_package bytes) → Numbered Q (acceptance bytes)
  acceptance-has q h bytes = acceptance_by bytes (λ P e. zeros-number Q q (basis P) 1) h

  pub listable-has : Q 8 → (bytes : List ℕ) → Numbered Q (read_package bytes) → Numbered Q (listable bytes)
  listable-has q bytes = listable_by bytes (λ P e. zeros-number Q q (basis P) 1)

  -- A reduction that, where it is a refusal, has a number with the property.
  unfoldable pub ReductionNumber : Reduction → Type 0
  ReductionNumber (refused_by n k) = Q n
  ReductionNumber (short_form N m) = Unit {0}

  ended-number : Q 17 → Q 18 → (budget : ℕ) (e : Ended) → ReductionNumber (reduction_of budget e)
  unfolding ReductionNumber reduction_of
  ended-number q r budget (answer N m) = tt
  ended-number q r budget (over k) = q
  ended-number q r budget spent = r

  formula-number : Q 16 → Q 17 → Q 18 → (P : Package) (budget : ℕ) (o : FormulaOutcome) → ReductionNumber (formula_reduced P budget o)
  unfolding ReductionNumber formula_reduced
  formula-number p q r P budget (wrong_at n) = p
  formula-number p q r P budget (formula f) = ended-number q r budget (run 512 (field_of P.head.p) word_order (basis P) budget 0 f)

  pub reduction-has : Q 16 → Q 17 → Q 18 → (bytes text : List ℕ) (budget : ℕ) → Numbered Q (acceptance bytes) → ReductionNumber (reduction bytes text budget)
  unfolding reduction Numbered ReductionNumber package_reduced
  reduction-has p q r bytes text budget = go (acceptance bytes)
    where
      go : (o : Outcome) → Numbered Q o → ReductionNumber (package_reduced text budget o)
      go (refused n k) x = x
      go (read P) x = formula-number p q r P budget (read_formula P.head.p P.head.letters formula_limits text)

  module _ (success : Q 0) where
    pub check-has : (bytes : List ℕ) → Numbered Q (acceptance bytes) → Q (checked_as bytes).number
    unfolding checked_as Numbered check_answer
    check-has bytes = go (acceptance bytes)
      where
        go : (o : Outcome) → Numbered Q o → Q (check_answer o).number
        go (refused n k) x = x
        go (read P) x = success

    pub list-has : Q 19 → (bytes : List ℕ) (room : ℕ) → Numbered Q (listable bytes) → Q (listed_as bytes room).number
    unfolding listed_as Numbered list_answer words_listed
    list-has narrow bytes room = go (listable bytes)
      where
        by : (ws : List Word) (b : Bool) → ltb room (length (overlap_text ws)) ≡ b → Q (words_listed room ws).number
        by ws true q = rw (words_listed, q) narrow
        by ws false q = rw (words_listed, q) success

        go : (o : Outcome) → Numbered Q o → Q (list_answer room o).number
        go (refused n k) x = x
        go (read P) x = by (leads (basis P)) (ltb room (length (overlap_text (leads (basis P))))) refl

    pub short_has : Q 19 → (bytes text : List ℕ) (budget room : ℕ) → ReductionNumber (reduction bytes text budget)
        → Q (shortened_as bytes text budget room).number
    unfolding shortened_as ReductionNumber short_answer
    short_has narrow bytes text budget room = go (reduction bytes text budget)
      where
        by : (N : Poly) (m : ℕ) (b : Bool) → ltb room (length (write_formula N)) ≡ b → Q (short_answer room (short_form N m)).number
        by N m true q = rw (short_answer, q) narrow
        by N m false q = rw (short_answer, q) success

        go : (r : Reduction) → ReductionNumber r → Q (short_answer room r).number
        go (refused_by n k) x = x
        go (short_form N m) x = by N m (ltb room (length (write_formula N))) refl

    pub member-has : (bytes text : List ℕ) (budget : ℕ) → ReductionNumber (reduction bytes text budget) → Q (membership_as bytes text budget).number
    unfolding membership_as ReductionNumber member_answer
    member-has bytes text budget = go (reduction bytes text budget)
      where
        go : (r : Reduction) → ReductionNumber r → Q (member_answer r).number
        go (refused_by n k) x = x
        go (short_form [] m) x = success
        go (short_form (t ∷ N) m) x = success
