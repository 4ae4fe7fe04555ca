-- A package: what its bytes are read as, with the first refusal of 1 to 7 in document 01's order.
use Rattle.std.specs.Prelude.{true, false, List, [], ℕ, ◌+◌, ltb, length}
use Rattle.package.specs.Answer.{Answer}
pub use Rattle.package.specs.Answer.{refused, read}
unfoldable pub use Rattle.package.specs.Answer.{◌then◌}
use Rattle.package.specs.Head.{HeadForm, no_head, head, head_form, field_fits, counts_fit}
use Rattle.package.specs.Names.{head_names, term_names}
use Rattle.package.specs.Sums.{SumLine, block3, sums_of}
use Rattle.package.specs.Terms.{TermLine, start, TermBlock, block2}
use Rattle.package.specs.declared.Head.{Head}
use Rattle.package.specs.declared.Limits.{Limits}
use Rattle.lists.specs.Same.{same}
use Rattle.text.specs.Pieces.{Pieces, final, piece, pieces, lines, fields}

-- A package that reads: the counts of line 2, the term lines of block 2 and the sum lines of block 3.
pub record Package : Type 0 where
  pub head : Head
  pub terms : List TermLine
  pub sums : List SumLine

-- What bytes are read as: refused with number and place, or a package.
abbrev pub Outcome : Type 0
Outcome = Answer Package

-- A package's bounds: 48 terms in a polynomial, words of 24 letters.
abbrev pub package_limits : Limits
package_limits = record { terms = 48; len = 24 }

-- Line n is a names line, these bytes and no others. It leaves the lines behind it.
unfoldable pub names_line : List ℕ → ℕ → Pieces → Answer Pieces
unfolding same
names_line names n (final x) = refused 2 n
names_line names n (piece l ls) = elim (same l names) [ false ↦ refused 2 n | true ↦ read ls ]

-- What the line of counts leaves: the counts, and the lines behind it.
pub record CountsBlock : Type 0 where
  pub head : Head
  pub rest : Pieces

-- What line 2 says: its shape, then 3 for p, then 4 for the other counts.
unfoldable pub counts_judged : HeadForm → Pieces → Answer CountsBlock
unfolding field_fits counts_fit
counts_judged no_head ls = refused 2 2
counts_judged (head h) ls = elim (field_fits h.p) [
  | false ↦ refused 3 2
  | true ↦ elim (counts_fit h) [ false ↦ refused 4 2 | true ↦ read (record { head = h; rest = ls }) ]
]

-- Line 2: the counts.
unfoldable pub counts_line : Pieces → Answer CountsBlock
unfolding counts_judged head_form pieces
counts_line (final x) = refused 2 2
counts_line (piece l ls) = counts_judged (head_form (fields l)) ls

-- What the head lines leave: the counts, the number of the first line of block 2, and the lines from there on.
pub record HeadBlock : Type 0 where
  pub head : Head
  pub line : ℕ
  pub rest : Pieces

-- The number of the first line of block 2: three lines stand above it.
abbrev pub first_term : ℕ
first_term = 4

-- The number of the first sum line behind so many terms: the names line of block 3 stands between.
abbrev pub first_sum : ℕ → ℕ
first_sum terms = first_term + 1 + terms

-- Line 3: the names of block 2.
unfoldable pub term_names_line : CountsBlock → Answer HeadBlock
unfolding names_line ◌then◌
term_names_line c = names_line term_names 3 c.rest then λ ls. read (record { head = c.head; line = first_term; rest = ls })

-- Lines 1 to 3: the names of block 1, the counts, the names of block 2.
unfoldable pub head_lines_of : Pieces → Answer HeadBlock
unfolding names_line counts_line term_names_line ◌then◌
head_lines_of ls = names_line head_names 1 ls then counts_line then term_names_line

-- Block 2, behind the head lines.
unfoldable pub term_block : Limits → HeadBlock → Answer TermBlock
unfolding block2 start
term_block m b = block2 b.head m start [] b.line b.rest

-- Block 3, behind block 2: with its sum lines the package is whole.
unfoldable pub sum_block : Limits → TermBlock → Outcome
unfolding block3 sums_of ◌then◌
sum_block m b = block3 b.head m 0 0 b.line b.rest then λ _. read (record { head = b.head; terms = b.terms; sums = sums_of b.line b.rest })

-- Refusal 1: more than 65,536 bytes. Else the lines.
unfoldable pub sized : List ℕ → Answer Pieces
unfolding pieces
sized bytes = elim (ltb 65536 (length bytes)) [ true ↦ refused 1 0 | false ↦ read (lines bytes) ]

-- The size, the head lines, the terms and the sums, each behind what the one before left.
unfoldable pub read_with : Limits → List ℕ → Outcome
unfolding sized head_lines_of term_block sum_block ◌then◌
read_with m bytes = sized bytes then head_lines_of then term_block m then sum_block m

-- A package, within its bounds.
unfoldable pub read_package : List ℕ → Outcome
unfolding read_with
read_package bytes = read_with package_limits bytes
