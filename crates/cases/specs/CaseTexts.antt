-- What is printed for a case: the first 51 bytes of its head line, which are the service's letter and the case's name, and then what the
-- service answered, its numbers in a line and the bytes that it wrote. Two letters are no service's: one asks whether a word stands in another,
-- one for the numbers that a word is packed into.
use Rattle.std.specs.Prelude.{Bool, true, false, List, [], ◌∷◌, ◌++◌, ℕ, eqb, get_or, take, drop, replicate}
use Rattle.words.specs.Word.{Word}
use Rattle.words.specs.Place.{stands_at, compared_at}
use Rattle.text.specs.Ascii.{ascii}
use Rattle.printing.specs.Printed.{numbers_line, printed_text}
use Rattle.lending.specs.Kept.{count_kept_of}
use Rattle.services.specs.declared.Checked.{Checked}
use Rattle.services.specs.declared.Membership.{Membership}
use Rattle.services.specs.Services.{checked_as, listed_as, listed_into, shortened_as, shortened_into, membership_as}
use Rattle.trials.specs.PackedBlocks.{packable, six_blocks}
use Rattle.cases.specs.HeadLine.{room_said, budget_said}

-- The check: number, place, overlaps.
unfoldable pub checked_text : Checked → List ℕ
unfolding numbers_line
checked_text a = numbers_line (a.number ∷ a.place ∷ a.overlaps ∷ [])

-- Membership: number, place, steps, and 1 for yes or 0 for no.
unfoldable pub membership_text : Membership → List ℕ
unfolding numbers_line
membership_text a = numbers_line (a.number ∷ a.place ∷ a.steps ∷ a.member ∷ [])

-- A service with an output slice: number, place, count, how many bytes it wrote, how many behind those were kept; and the bytes written.
unfoldable pub output_text : ℕ → ℕ → ℕ → ℕ → List ℕ → List ℕ
unfolding numbers_line
output_text number place count written out =
    numbers_line (number ∷ place ∷ count ∷ written ∷ count_kept_of (drop written out) ∷ []) ++ take written out

-- The output slice before the call: 65,536 bytes `~`. Only the first of them are lent.
unfoldable pub tildes : List ℕ
tildes = replicate 65536 126

-- Listing into so many bytes of the output slice.
unfoldable pub listed_text : List ℕ → ℕ → List ℕ
unfolding output_text listed_as listed_into tildes
listed_text bytes room =
    let a = listed_as bytes room in
    output_text a.number a.place a.overlaps a.written (listed_into bytes (take room tildes) ++ drop room tildes)

-- The short form of a formula, written into so many bytes of the output slice.
unfoldable pub shortened_text : List ℕ → List ℕ → ℕ → ℕ → List ℕ
unfolding output_text shortened_as shortened_into tildes
shortened_text bytes text budget room =
    let a = shortened_as bytes text budget room in
    output_text a.number a.place a.steps a.written (shortened_into bytes text budget (take room tildes) ++ drop room tildes)

-- The program overlap_list: a line ` prints`, and what it prints.
unfoldable pub program_text : List ℕ → List ℕ
unfolding printed_text
program_text bytes = ascii " prints\n" ++ printed_text bytes

-- 1 for yes, 0 for no.
unfoldable pub yes_number : Bool → ℕ
yes_number true = 1
yes_number false = 0

-- A word at a place of another: whether it stands there, and how many letters are compared.
unfoldable pub standing_text : Word → Word → ℕ → List ℕ
unfolding numbers_line yes_number stands_at compared_at
standing_text b w at = numbers_line (yes_number (stands_at b w at) ∷ compared_at b w at ∷ [])

-- A word packed: whether it is one of at most 72 letters, and its six numbers.
unfoldable pub packed_text : Word → List ℕ
unfolding numbers_line yes_number six_blocks
packed_text w = numbers_line (yes_number (packable w) ∷ six_blocks w)

-- What the service answers that the head line's first byte says: C the check, L listing, S the short form, M membership; for W, whether the
-- package's bytes stand in the formula's at the place that the budget says; for N, the numbers that the package's bytes are packed into; for any
-- other byte, the program.
unfoldable pub answer_text : List ℕ → List ℕ → List ℕ → List ℕ
unfolding checked_text listed_text shortened_text membership_text standing_text packed_text program_text checked_as membership_as room_said budget_said
answer_text head bytes text =
    elim (eqb (get_or head 0 0) 67) [
      | true ↦ checked_text (checked_as bytes)
      | false ↦ elim (eqb (get_or head 0 0) 76) [
        | true ↦ listed_text bytes (room_said head)
        | false ↦ elim (eqb (get_or head 0 0) 83) [
          | true ↦ shortened_text bytes text (budget_said head) (room_said head)
          | false ↦ elim (eqb (get_or head 0 0) 77) [
            | true ↦ membership_text (membership_as bytes text (budget_said head))
            | false ↦ elim (eqb (get_or head 0 0) 87) [
              | true ↦ standing_text bytes text (budget_said head)
              | false ↦ elim (eqb (get_or head 0 0) 78) [ true ↦ packed_text bytes | false ↦ program_text bytes ]
            ]
          ]
        ]
      ]
    ]

-- What is printed for a case.
unfoldable pub case_text : List ℕ → List ℕ → List ℕ → List ℕ
unfolding answer_text
case_text head bytes text = take 51 head ++ answer_text head bytes text
