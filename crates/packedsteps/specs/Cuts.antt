-- A word of the formula, cut where a leading word stands in it.
use Rattle.std.specs.Prelude.{◌≡◌, List, ℕ, ◌+◌, ◌%◌, ◌≤◌, length, take, drop}
use Rattle.words.specs.Word.{Word}
use Rattle.algebra.specs.Ideal.{family}
use Rattle.algebra.specs.Groebner.{lead}
use Rattle.table.specs.Table.{gens_in, basis_count_in, first_in, size_in}
use Rattle.table.specs.Polynomials.{basis_in}
use Rattle.packedterms.specs.declared.PackedWord.{PackedWord}
use Rattle.packedterms.specs.InFormula.{letters_in, SixfoldIn}

-- The word v of size z has the leading word of basis polynomial g at place i: the answer is the item that it leads, left and right are what stands
-- left and right of it, and the sizes of the three words have the letters of v.
pub record CutAt (t : List ℕ) (v : Word) (z i g answer : ℕ) (left right : PackedWord 6) : Type 0 where
  pub some : 1 ≤ g
  pub most : g ≤ basis_count_in t
  pub item : answer ≡ gens_in t + g
  pub left-held : SixfoldIn t left
  pub right-held : SixfoldIn t right
  pub left_word : letters_in t left ≡ take i v
  pub right-word : letters_in t right ≡ drop (i + length (lead (family (basis_in t) g))) v
  pub letters : left.size % 256 + size_in t (first_in t (gens_in t + g)) % 256 + right.size % 256 ≡ z % 256
