-- The lines of a formula, one by one, as they are written (the whole is `write_formula` of crate `package`).
use Rattle.std.specs.Prelude.{List, [], ℕ}
use Rattle.algebra.specs.Poly.{Poly}
use Rattle.package.specs.Writing.{row_fields, row_lines}
use Rattle.text.specs.Pieces.{final, piece, joined, write_fields, write_lines}

-- The bytes of the lines of a polynomial's terms.
unfoldable pub rows_text : Poly → List ℕ
unfolding row_lines joined
rows_text f = write_lines (row_lines f)

-- The bytes of the line c × w, byte 10 included.
unfoldable pub row_text : ℕ → List ℕ → List ℕ
unfolding row_fields joined
row_text c w = write_lines (piece (write_fields (row_fields c w)) (final []))
