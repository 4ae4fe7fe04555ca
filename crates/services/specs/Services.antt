-- What the four services answer, and what they leave in the output slice (document 01, 'The services' and 'Numbers and places').
-- A refusal has its number and place, counts 0, and leaves the output slice as it was; bytes after those written keep their old values.
use Rattle.std.specs.Prelude.{true, false, List, [], ◌∷◌, ℕ, ltb, length}
use Rattle.std.proofs.lemmas.List.Edits.{sets}
use Rattle.words.specs.Word.{Word}
use Rattle.package.specs.Package.{Outcome, refused, read, read_package}
use Rattle.package.specs.Writing.{write_formula}
use Rattle.overlaps.specs.Overlaps.{leads, overlaps}
use Rattle.overlaps.specs.Listing.{overlap_text}
use Rattle.acceptance.specs.Content.{basis}
use Rattle.acceptance.specs.Check.{basis_judged}
use Rattle.acceptance.specs.Acceptance.{judged_by, acceptance}
use Rattle.acceptance.specs.Reduction.{Reduction, refused_by, short_form, reduction}
use Rattle.services.specs.declared.Checked.{Checked}
use Rattle.services.specs.declared.Listed.{Listed}
use Rattle.services.specs.declared.Shortened.{Shortened}
use Rattle.services.specs.declared.Membership.{Membership}

-- Listing judges refusals 1 to 8 and 19 only. This is what the package's bytes are before 19: refused by one of 1 to 8, or the package.
unfoldable pub listable : List ℕ → Outcome
unfolding judged_by read_package basis_judged basis
listable bytes = judged_by (λ P. basis_judged (basis P)) (read_package bytes)

-- The check: the count of overlaps and inclusions.
unfoldable pub check_answer : Outcome → Checked
unfolding overlaps leads basis
check_answer (refused n k) = record { number = n; place = k; overlaps = 0 }
check_answer (read P) = record { number = 0; place = 0; overlaps = length (overlaps (leads (basis P))) }

-- The check's answer for the package's bytes.
unfoldable pub checked_as : List ℕ → Checked
unfolding check_answer acceptance
checked_as bytes = check_answer (acceptance bytes)

-- Listing the overlaps and inclusions of leading words: their count and the bytes of the list; 19 where the room is too short, with the bytes required.
unfoldable pub words_listed : ℕ → List Word → Listed
unfolding overlaps overlap_text
words_listed room ws = elim (ltb room (length (overlap_text ws))) [
  | true ↦ record { number = 19; place = length (overlap_text ws); overlaps = 0; written = 0 }
  | false ↦ record { number = 0; place = 0; overlaps = length (overlaps ws); written = length (overlap_text ws) }
]

-- Listing's answer for what its bytes were judged to be, and an output slice of so many bytes.
unfoldable pub list_answer : ℕ → Outcome → Listed
unfolding words_listed leads basis
list_answer room (refused n k) = record { number = n; place = k; overlaps = 0; written = 0 }
list_answer room (read P) = words_listed room (leads (basis P))

-- Listing's answer for the package's bytes and an output slice of so many bytes.
unfoldable pub listed_as : List ℕ → ℕ → Listed
unfolding list_answer listable
listed_as bytes room = list_answer room (listable bytes)

-- Bytes written to an output slice from its start, where they fit.
unfoldable pub fitted : List ℕ → List ℕ → List ℕ
fitted text out = elim (ltb (length out) (length text)) [ true ↦ out | false ↦ sets out 0 text ]

-- The output slice after listing: unchanged by a refusal, else with the list at its start where it fits.
unfoldable pub list_output : List ℕ → Outcome → List ℕ
unfolding fitted leads basis overlap_text
list_output out (refused n k) = out
list_output out (read P) = fitted (overlap_text (leads (basis P))) out

-- The output slice after listing, for the package's bytes.
unfoldable pub listed_into : List ℕ → List ℕ → List ℕ
unfolding list_output listable
listed_into bytes out = list_output out (listable bytes)

-- Short form: the steps and the bytes of the short form, written as a formula; 19 where the room is too short, with the bytes required.
unfoldable pub short_answer : ℕ → Reduction → Shortened
unfolding write_formula
short_answer room (refused_by n k) = record { number = n; place = k; steps = 0; written = 0 }
short_answer room (short_form N m) = elim (ltb room (length (write_formula N))) [
  | true ↦ record { number = 19; place = length (write_formula N); steps = 0; written = 0 }
  | false ↦ record { number = 0; place = 0; steps = m; written = length (write_formula N) }
]

-- The short form service's answer for the package's bytes, the formula's bytes, a budget, and an output slice of so many bytes.
unfoldable pub shortened_as : List ℕ → List ℕ → ℕ → ℕ → Shortened
unfolding short_answer reduction
shortened_as bytes text budget room = short_answer room (reduction bytes text budget)

-- The output slice after the short form service: unchanged by a refusal, else with the short form at its start where it fits.
unfoldable pub short_output : List ℕ → Reduction → List ℕ
unfolding fitted write_formula
short_output out (refused_by n k) = out
short_output out (short_form N m) = fitted (write_formula N) out

-- The output slice after the short form service, for the package's bytes, the formula's bytes and a budget.
unfoldable pub shortened_into : List ℕ → List ℕ → ℕ → List ℕ → List ℕ
unfolding short_output reduction
shortened_into bytes text budget out = short_output out (reduction bytes text budget)

-- Membership: the steps, and yes where the short form is zero. It never gives 19.
unfoldable pub member_answer : Reduction → Membership
member_answer (refused_by n k) = record { number = n; place = k; steps = 0; member = 0 }
member_answer (short_form [] m) = record { number = 0; place = 0; steps = m; member = 1 }
member_answer (short_form (t ∷ N) m) = record { number = 0; place = 0; steps = m; member = 0 }

-- Membership's answer for the package's bytes, the formula's bytes and a budget.
unfoldable pub membership_as : List ℕ → List ℕ → ℕ → Membership
unfolding member_answer reduction
membership_as bytes text budget = member_answer (reduction bytes text budget)
