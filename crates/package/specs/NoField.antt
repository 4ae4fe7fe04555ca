-- Refusal 3, as document 02 has it: a fact about the bytes.
use Rattle.std.specs.Prelude.{◌≡◌, List, ℕ, ◌≤◌, length}
use Rattle.package.specs.Head.{MeansField, head_form, head}
use Rattle.package.specs.Names.{head_names}
use Rattle.package.specs.declared.Head.{Head}
use Rattle.text.specs.Pieces.{Pieces, piece, lines, fields}

-- At most 65,536 bytes, whose first line is that of names and whose second has four numbers, of which the first means no field. What follows is anything.
pub record NoField (bytes : List ℕ) : Type 0 where
  pub size : length bytes ≤ 65536
  pub second : List ℕ
  pub rest : Pieces
  pub cut : lines bytes ≡ piece head_names (piece second rest)
  pub counts : Head
  pub says : head_form (fields second) ≡ head counts
  pub none : MeansField counts.p → ⊥
