-- The words of sum lines, in the bytes and packed.
use Rattle.std.specs.Prelude.{List, ℕ, ◌+◌, ◌≤◌, length}
use Rattle.lists.specs.All.{All}
use Rattle.text.specs.Pieces.{part}
use Rattle.words.specs.Word.{Letter}
use Rattle.algebra.specs.Ideal.{Line}
use Rattle.package.specs.declared.SumAt.{SumAt}
use Rattle.table.specs.Words.{line_of}
use Rattle.packedterms.specs.declared.PackedWord.{PackedWord}

-- The two words of a sum line lie in the bytes, and have at most 24 letters each, from `a` to `z`.
pub record LineWords (bytes : List ℕ) (s : SumAt) : Type 0 where
  pub left-short : s.left_len ≤ 24
  pub right-short : s.right_len ≤ 24
  pub left_in : s.left + s.left_len ≤ length bytes
  pub right_in : s.right + s.right_len ≤ length bytes
  pub left-letters : All (Letter 26) (part bytes s.left s.left_len)
  pub right-letters : All (Letter 26) (part bytes s.right s.right_len)

-- The line x × left × (polynomial number g) × right, of packed words.
abbrev pub line_in : List ℕ → ℕ → PackedWord 6 → ℕ → PackedWord 6 → Line
line_in t x left g right = line_of t x left.size left.blocks g right.size right.blocks
