-- What the program prints for the bytes of a package (document 01, 'Overlaps'; 02, P2): the list of its overlaps and inclusions, or on a
-- refusal `refused`, number and place on one line. It lends 65,536 bytes for the list; a longer one is refusal 19.
use Rattle.std.specs.Prelude.{true, false, List, [], ◌∷◌, ◌++◌, ℕ, eqb}
use Rattle.text.specs.Ascii.{ascii}
use Rattle.text.specs.Number.{write_number}
use Rattle.package.specs.Package.{Outcome, refused, read}
use Rattle.overlaps.specs.Overlaps.{leads}
use Rattle.overlaps.specs.Listing.{overlap_text}
use Rattle.acceptance.specs.Content.{basis}
use Rattle.services.specs.declared.Listed.{Listed}
use Rattle.services.specs.Services.{listable, listed_as}

-- Numbers in a line: each behind one space, and byte 10 behind the last.
unfoldable pub numbers_line : List ℕ → List ℕ
unfolding write_number
numbers_line [] = 10 ∷ []
numbers_line (n ∷ ns) = 32 ∷ (write_number n ++ numbers_line ns)

-- The line of a refusal: `refused`, its number and its place, parted by one space each, ended by byte 10.
unfoldable pub refused_line : ℕ → ℕ → List ℕ
unfolding numbers_line
refused_line number place = ascii "refused" ++ numbers_line (number ∷ place ∷ [])

-- The list of a package that is not refused.
unfoldable pub list_of : Outcome → List ℕ
unfolding leads basis overlap_text
list_of (refused number place) = []
list_of (read P) = overlap_text (leads (basis P))

-- What is printed where listing answers so: the list where the number is 0, success, else the line of the refusal.
unfoldable pub printed_for : Listed → List ℕ → List ℕ
unfolding refused_line
printed_for a text = elim (eqb a.number 0) [ true ↦ text | false ↦ refused_line a.number a.place ]

-- What is printed for the package's bytes.
unfoldable pub printed_text : List ℕ → List ℕ
unfolding printed_for list_of listable listed_as
printed_text bytes = printed_for (listed_as bytes 65536) (list_of (listable bytes))
