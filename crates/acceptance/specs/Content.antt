-- What a package that reads holds: the field that p means, relations and basis as polynomials, and the lines of each sum.
use Rattle.std.specs.Prelude.{true, false, List, [], ◌∷◌, ℕ, zero, suc, eqb}
use Rattle.algebra.specs.Poly.{Poly}
use Rattle.algebra.specs.Ideal.{Line}
use Rattle.package.specs.Names.{term_g, term_b}
use Rattle.package.specs.Items.{item_terms}
use Rattle.package.specs.Terms.{TermLine}
use Rattle.package.specs.Sums.{SumLine}
use Rattle.package.specs.Package.{Package}

-- What term lines say, as a polynomial.
unfoldable pub terms_of : List TermLine → Poly
terms_of [] = []
terms_of (t ∷ ts) = record { coef = t.coef; word = t.word } ∷ terms_of ts

-- The polynomial of an item of a kind: its terms, in order. An item without lines is zero.
unfoldable pub polynomial : ℕ → ℕ → List TermLine → Poly
unfolding terms_of item_terms
polynomial k i ts = terms_of (item_terms k i ts)

-- The polynomials of items i, i + 1, ..: n of them.
unfoldable pub polynomials : ℕ → List TermLine → ℕ → ℕ → List Poly
unfolding polynomial
polynomials k ts i zero = []
polynomials k ts i (suc n) = polynomial k i ts ∷ polynomials k ts (suc i) n

-- The relations: items of kind G of block 2.
unfoldable pub relations : Package → List Poly
unfolding polynomials
relations P = polynomials term_g P.terms 1 P.head.gens

-- The basis: items of kind B of block 2.
unfoldable pub basis : Package → List Poly
unfolding polynomials
basis P = polynomials term_b P.terms 1 P.head.basis

-- What a sum line adds.
abbrev pub line_of : SumLine → Line
line_of s = record { coef = s.coef; left = s.left; of = s.of; right = s.right }

-- The sum lines of an item of a kind, in order.
unfoldable pub sum_of : ℕ → ℕ → List SumLine → List SumLine
sum_of k i [] = []
sum_of k i (s ∷ ss) = elim (eqb s.kind k) [
  | false ↦ sum_of k i ss
  | true ↦ elim (eqb s.item i) [ false ↦ sum_of k i ss | true ↦ s ∷ sum_of k i ss ]
]

-- What they add.
unfoldable pub lines_of : List SumLine → List Line
lines_of [] = []
lines_of (s ∷ ss) = line_of s ∷ lines_of ss
