-- Packages and formulas as they are written: names lines, and a line for the counts, for each term and for each sum line.
use Rattle.std.specs.Prelude.{List, [], ◌∷◌, ℕ}
use Rattle.algebra.specs.Poly.{Term}
use Rattle.package.specs.Names.{head_names, term_names, sum_names, formula_names, term_kinds, sum_kinds}
use Rattle.package.specs.Package.{Package}
use Rattle.package.specs.Sums.{SumLine}
use Rattle.package.specs.Terms.{TermLine}
use Rattle.package.specs.declared.Head.{Head}
use Rattle.text.specs.Field.{write_kind}
use Rattle.text.specs.Number.{write_number}
use Rattle.text.specs.Pieces.{Pieces, final, piece, joined, write_fields, write_lines}
use Rattle.text.specs.Word.{write_word}

-- The fields of line 2.
unfoldable pub head_fields : Head → Pieces
head_fields h = piece (write_number h.p) (piece (write_number h.letters) (piece (write_number h.gens) (final (write_number h.basis))))

-- The fields of a term line: kind item coef word.
unfoldable pub term_fields : ℕ → ℕ → ℕ → List ℕ → Pieces
unfolding write_kind
term_fields k i c w = piece (write_kind term_kinds k) (piece (write_number i) (piece (write_number c) (final (write_word w))))

-- The fields of a sum line: kind item coef left of right.
unfoldable pub sum_fields : ℕ → ℕ → ℕ → List ℕ → ℕ → List ℕ → Pieces
unfolding write_kind
sum_fields k i c l o r =
    piece (write_kind sum_kinds k) (piece (write_number i) (piece (write_number c) (piece (write_word l) (piece (write_number o) (final (write_word r))))))

-- Term lines, and the lines below them.
unfoldable pub term_lines_of : List TermLine → Pieces → Pieces
unfolding term_fields joined
term_lines_of [] rest = rest
term_lines_of (t ∷ ts) rest = piece (write_fields (term_fields t.kind t.item t.coef t.word)) (term_lines_of ts rest)

-- Sum lines, and nothing below them.
unfoldable pub sum_lines_of : List SumLine → Pieces
unfolding sum_fields joined
sum_lines_of [] = final []
sum_lines_of (x ∷ xs) = piece (write_fields (sum_fields x.kind x.item x.coef x.left x.of x.right)) (sum_lines_of xs)

-- The lines of a package.
unfoldable pub package_lines : Package → Pieces
unfolding head_fields term_lines_of sum_lines_of joined
package_lines P = piece head_names (piece (write_fields (head_fields P.head)) (piece term_names (term_lines_of P.terms (piece sum_names (sum_lines_of P.sums)))))

-- The bytes of a package.
unfoldable pub write_package : Package → List ℕ
unfolding package_lines joined
write_package P = write_lines (package_lines P)

-- The fields of a line of a formula: coef word.
unfoldable pub row_fields : ℕ → List ℕ → Pieces
row_fields c w = piece (write_number c) (final (write_word w))

-- The terms of a formula, and nothing below them.
unfoldable pub row_lines : List Term → Pieces
unfolding row_fields joined
row_lines [] = final []
row_lines (t ∷ ts) = piece (write_fields (row_fields t.coef t.word)) (row_lines ts)

-- The bytes of a formula.
unfoldable pub write_formula : List Term → List ℕ
unfolding row_lines joined
write_formula ts = write_lines (piece formula_names (row_lines ts))
