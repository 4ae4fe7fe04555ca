-- The overlap word of a pair, packed.
use Rattle.std.specs.Prelude.{◌≡◌, List, ℕ}
use Rattle.algebra.specs.Ideal.{family}
use Rattle.overlaps.specs.Pairs.{Pair}
use Rattle.overlaps.specs.Overlaps.{overlap_word}
use Rattle.table.specs.Polynomials.{basis_in}
use Rattle.packedterms.specs.declared.PackedWord.{PackedWord}
use Rattle.packedterms.specs.InFormula.{letters_in, BuiltIn}

-- The packed word w is the overlap word of a pair of the table's basis.
pub record LapWord (t : List ℕ) (o : Pair) (w : PackedWord 9) : Type 0 where
  pub built : BuiltIn t w
  pub word : letters_in t w ≡ overlap_word (family (basis_in t)) o
