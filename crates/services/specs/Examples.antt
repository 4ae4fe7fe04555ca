-- Document 01's examples as rows of tables: what the services answer on these bytes, and which of two words is greater; rows over GF(256), and rows with
-- leading coefficients other than 1. That every row holds is proved in proofs/Examples.antt: `examples_hold`, `edges_hold`, `byte_rows_hold` and
-- `scaled-rows_hold`. Rows of bases that are not trimmed stand in UntrimmedExamples.antt.
use Rattle.std.specs.Prelude.{◌≡◌, List, [], ◌∷◌, ℕ, ◌≤◌, ◌<◌, length}
use Prim.Native.String.{String}
use Rattle.std.specs.declared.cmp.Ordering.TheVariants.{Greater}
use Rattle.words.specs.Word.{Word}
use Rattle.words.specs.Order.{word_order}
use Rattle.algebra.specs.Poly.{Poly}
use Rattle.text.specs.Ascii.{ascii}
use Rattle.text.specs.Word.{word, word_of}
use Rattle.package.specs.Package.{Package}
use Rattle.package.specs.Examples.{text, package_e}
use Rattle.services.specs.Services.{checked_as, listed_as, listed_into, shortened_as, shortened_into, membership_as}
use Rattle.services.specs.Demands.{AcceptedAs, ReadAs, at_start, refused_short}

-- A row: the bytes of a package, and texts quoted byte for byte.
pub data Row : Type 0 where
  -- under the package the formula comes to the short form in so many steps
  short_row : List ℕ → String → String → ℕ → Row
  -- the first word is above the second
  above_row : String → String → Row
  -- the package has so many overlaps and inclusions, and this is their list
  list_row : List ℕ → ℕ → String → Row
  -- the package is accepted and has so many overlaps and inclusions
  accepted_row : List ℕ → ℕ → Row
  -- under the package the formula is a member, after so many steps
  member_row : List ℕ → String → ℕ → Row
  -- under the package the formula, with a budget and an output slice of so many bytes, is refused with number and place
  refused_row : List ℕ → String → ℕ → ℕ → ℕ → ℕ → Row
  -- under the package every formula is its own short form
  kept_row : List ℕ → Row
  -- under the package every formula comes to zero
  zero_row : List ℕ → Row

-- Under the package the formula comes to the short form N in m steps. This says all that the short form service answers and writes for them:
-- with a budget of m or more and room, success, m steps, the length of N, and N written; with a lesser budget 18 at the budget; with less
-- room 19 with the length of N.
pub record Shortens (bytes formula N : List ℕ) (m : ℕ) : Type 0 where
  pub enough : (budget : ℕ) (out : List ℕ) → m ≤ budget → length N ≤ length out
      → (shortened_as bytes formula budget (length out) ≡ record { number = 0; place = 0; steps = m; written = length N })
      × (shortened_into bytes formula budget out ≡ at_start N out)
  pub fewer : (budget : ℕ) (out : List ℕ) → budget < m
      → (shortened_as bytes formula budget (length out) ≡ refused_short 18 budget) × (shortened_into bytes formula budget out ≡ out)
  pub narrow : (budget : ℕ) (out : List ℕ) → m ≤ budget → length out < length N
      → (shortened_as bytes formula budget (length out) ≡ refused_short 19 (length N)) × (shortened_into bytes formula budget out ≡ out)

-- The texts say words, `-` the empty one, and the first word is above the second.
pub record IsAbove (u v : List ℕ) : Type 0 where
  pub first : Word
  pub second : Word
  pub says_first : word_of u ≡ word first
  pub says_second : word_of v ≡ word second
  pub greater : word_order first second ≡ Greater

-- The overlaps and inclusions of the package are so many, and this is their list. This says all that listing answers and writes: with room success, the count,
-- the length of the list, and the list written; with less room 19 with the length of the list.
pub record Lists (bytes : List ℕ) (count : ℕ) (list : List ℕ) : Type 0 where
  pub enough : (out : List ℕ) → length list ≤ length out
      → (listed_as bytes (length out) ≡ record { number = 0; place = 0; overlaps = count; written = length list })
      × (listed_into bytes out ≡ at_start list out)
  pub narrow : (out : List ℕ) → length out < length list
      → (listed_as bytes (length out) ≡ record { number = 19; place = length list; overlaps = 0; written = 0 }) × (listed_into bytes out ≡ out)

-- The check answers success and the count.
pub record IsAccepted (bytes : List ℕ) (count : ℕ) : Type 0 where
  pub answered : checked_as bytes ≡ record { number = 0; place = 0; overlaps = count }

-- Membership answers success, m steps and yes with a budget of m or more, and 18 at the budget with a lesser one.
pub record IsMember (bytes formula : List ℕ) (m : ℕ) : Type 0 where
  pub enough : (budget : ℕ) → m ≤ budget → membership_as bytes formula budget ≡ record { number = 0; place = 0; steps = m; member = 1 }
  pub fewer : (budget : ℕ) → budget < m → membership_as bytes formula budget ≡ record { number = 18; place = budget; steps = 0; member = 0 }

-- The short form service refuses with number n and place k, and leaves the output slice, of so many bytes, as it was.
pub record Refuses (bytes formula : List ℕ) (budget room n k : ℕ) : Type 0 where
  pub kept : (out : List ℕ) → length out ≡ room
      → (shortened_as bytes formula budget room ≡ refused_short n k) × (shortened_into bytes formula budget out ≡ out)

-- The package is accepted, and every formula, as bytes that read, is its own short form, with no step.
pub record Keeps (bytes : List ℕ) : Type 0 where
  pub content : Package
  pub accepted : AcceptedAs bytes content
  pub unchanged : (formula : List ℕ) (f : Poly) → ReadAs content formula f → Shortens bytes formula formula 0

-- The package is accepted, and every formula, as bytes that read, comes to zero, with a step for each of its terms.
pub record Empties (bytes : List ℕ) : Type 0 where
  pub content : Package
  pub accepted : AcceptedAs bytes content
  pub to_zero : (formula : List ℕ) (f : Poly) → ReadAs content formula f → Shortens bytes formula (ascii "coef word\n") (length f)

-- What a row states.
unfoldable pub Claim : Row → Type 0
Claim (short_row bytes f N m) = Shortens bytes (ascii f) (ascii N) m
Claim (above_row u v) = IsAbove (ascii u) (ascii v)
Claim (list_row bytes count list) = Lists bytes count (ascii list)
Claim (accepted_row bytes count) = IsAccepted bytes count
Claim (member_row bytes f m) = IsMember bytes (ascii f) m
Claim (refused_row bytes f budget room n k) = Refuses bytes (ascii f) budget room n k
Claim (kept_row bytes) = Keeps bytes
Claim (zero_row bytes) = Empties bytes

-- The rows that 01 marks †, in its order. All are about E.
unfoldable pub examples : List Row
examples =
    short_row package_e "coef word\n1 aaa\n" "coef word\n1 ba\n" 1
    ∷ short_row package_e "coef word\n1 aba\n" "coef word\n1 bb\n" 2
    ∷ short_row package_e "coef word\n1 abab\n" "coef word\n1 bbb\n" 2
    ∷ short_row package_e "coef word\n1 aba\n6 bb\n" "coef word\n" 2
    ∷ short_row package_e "coef word\n1 bba\n" "coef word\n1 bba\n" 0
    ∷ short_row package_e "coef word\n1 ab\n" "coef word\n1 ba\n" 1
    ∷ above_row "ab" "ba"
    ∷ above_row "aa" "b"
    ∷ above_row "a" "-"
    ∷ list_row package_e 2 "item first second shared at word\n1 1 1 1 1 aaa\n2 1 2 1 1 aab\n"
    ∷ accepted_row package_e 2
    ∷ []

-- No relations and no basis.
unfoldable pub package_none : List ℕ
unfolding text
package_none = text (ascii "p letters gens basis" ∷ ascii "7 2 0 0" ∷ ascii "kind item coef word" ∷ ascii "kind item coef left of right" ∷ [])

-- A nonzero constant relation, here 3, with basis 1.
unfoldable pub package_one : List ℕ
unfolding text
package_one = text (
    ascii "p letters gens basis"
    ∷ ascii "7 2 1 1"
    ∷ ascii "kind item coef word"
    ∷ ascii "G 1 3 -"
    ∷ ascii "B 1 1 -"
    ∷ ascii "kind item coef left of right"
    ∷ ascii "B 1 5 - 1 -"
    ∷ ascii "G 1 3 - 1 -"
    ∷ []
    )

-- Rows that 01 does not mark †: its inputs for 16, 18 and 19, and edges. The second says that budget 2, and every greater one, suffices for `aba`.
unfoldable pub edges : List Row
edges =
    refused_row package_e "coef word\n1 aba\n" 1 65536 18 1
    ∷ short_row package_e "coef word\n1 aba\n" "coef word\n1 bb\n" 2
    ∷ refused_row package_e "coef word\n1 ab\n" 4294967295 10 19 15
    ∷ refused_row package_e "coef word\n0 a\n" 4294967295 65536 16 2
    ∷ member_row package_e "coef word\n" 0
    ∷ member_row package_e "coef word\n1 aba\n6 bb\n" 2
    ∷ accepted_row package_none 0
    ∷ short_row package_none "coef word\n1 aba\n6 bb\n" "coef word\n1 aba\n6 bb\n" 0
    ∷ kept_row package_none
    ∷ accepted_row package_one 0
    ∷ short_row package_one "coef word\n1 aba\n6 bb\n" "coef word\n" 2
    ∷ zero_row package_one
    ∷ []

-- A package over GF(256): a a = 2 b, and a and b commute. The inverse of 2 is 142.
unfoldable pub package256 : List ℕ
unfolding text
package256 = text (
    ascii "p letters gens basis"
    ∷ ascii "256 2 1 2"
    ∷ ascii "kind item coef word"
    ∷ ascii "G 1 1 aa"
    ∷ ascii "G 1 2 b"
    ∷ ascii "B 1 1 aa"
    ∷ ascii "B 1 2 b"
    ∷ ascii "B 2 1 ab"
    ∷ ascii "B 2 1 ba"
    ∷ ascii "kind item coef left of right"
    ∷ ascii "B 1 1 - 1 -"
    ∷ ascii "B 2 142 - 1 a"
    ∷ ascii "B 2 142 a 1 -"
    ∷ ascii "G 1 1 - 1 -"
    ∷ ascii "O 1 2 - 2 -"
    ∷ ascii "O 2 1 - 2 a"
    ∷ ascii "O 2 1 b 1 -"
    ∷ []
    )

-- Rows of it: it is accepted; 2 × 128 is 29, and 255 × 2 is 227; minus is plus; 256 is no coefficient.
unfoldable pub byte_rows : List Row
byte_rows =
    accepted_row package256 2
    ∷ short_row package256 "coef word\n128 aa\n" "coef word\n29 b\n" 1
    ∷ short_row package256 "coef word\n255 aa\n1 b\n" "coef word\n226 b\n" 1
    ∷ short_row package256 "coef word\n1 ab\n1 ba\n" "coef word\n" 1
    ∷ member_row package256 "coef word\n128 aa\n29 b\n" 1
    ∷ refused_row package256 "coef word\n256 a\n" 4294967295 65536 16 2
    ∷ []

-- E with other leading coefficients: its first basis polynomial times 3, and its second times 5.
unfoldable pub package_scaled : List ℕ
unfolding text
package_scaled = text (
    ascii "p letters gens basis"
    ∷ ascii "7 2 1 2"
    ∷ ascii "kind item coef word"
    ∷ ascii "G 1 1 aa"
    ∷ ascii "G 1 6 b"
    ∷ ascii "B 1 3 aa"
    ∷ ascii "B 1 4 b"
    ∷ ascii "B 2 5 ab"
    ∷ ascii "B 2 2 ba"
    ∷ ascii "kind item coef left of right"
    ∷ ascii "B 1 3 - 1 -"
    ∷ ascii "B 2 5 - 1 a"
    ∷ ascii "B 2 2 a 1 -"
    ∷ ascii "G 1 5 - 1 -"
    ∷ ascii "O 1 3 - 2 -"
    ∷ ascii "O 2 3 - 2 a"
    ∷ ascii "O 2 5 b 1 -"
    ∷ []
    )

-- Rows of it: the sums of an overlap equal the difference of the polynomials divided by their leading coefficients, and formulas come to the short
-- forms that they have under E.
unfoldable pub scaled_rows : List Row
scaled_rows =
    accepted_row package_scaled 2
    ∷ short_row package_scaled "coef word\n1 aaa\n" "coef word\n1 ba\n" 1
    ∷ short_row package_scaled "coef word\n1 aba\n" "coef word\n1 bb\n" 2
    ∷ short_row package_scaled "coef word\n1 abab\n" "coef word\n1 bbb\n" 2
    ∷ member_row package_scaled "coef word\n1 aba\n6 bb\n" 2
    ∷ []
