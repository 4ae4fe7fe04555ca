-- The line that a step takes away, as the code answers it.
use Rattle.std.specs.Prelude.{◌≡◌, List, ℕ}
use Rattle.algebra.specs.Poly.{Term}
use Rattle.algebra.specs.Steps.{line_at}
use Rattle.table.specs.Table.{field_in}
use Rattle.table.specs.Words.{line_of}
use Rattle.table.specs.Polynomials.{basis_in}
use Rattle.packedterms.specs.declared.PackedWord.{PackedWord}
use Rattle.packedterms.specs.InFormula.{SixfoldIn}

-- The line with the coefficient x and the words left and right is that of the step at term u, where the leading word of polynomial g stands in u's
-- word at place i; its words are held by their blocks.
pub record LineTaken (t : List ℕ) (u : Term) (i g x : ℕ) (left right : PackedWord 6) : Type 0 where
  pub left-held : SixfoldIn t left
  pub right-held : SixfoldIn t right
  pub line : line_of t x left.size left.blocks g right.size right.blocks ≡ line_at (field_in t) (basis_in t) u i g
