-- Sums over a family of polynomials (document 01, 'What demand 3 compares'): lists of lines, and the ideal.
use Rattle.std.specs.Prelude.{List, [], ◌∷◌, ◌++◌, ℕ, get_or}
use Rattle.field.specs.Field.{Operations}
use Rattle.lists.specs.All.{All}
use Rattle.words.specs.Word.{Word}
use Rattle.algebra.specs.Poly.{Poly, Same, scale, shift}

-- Polynomials by number. A number that names none has the zero polynomial.
abbrev pub Family : Type 0
Family = ℕ → Poly

-- The polynomials of a list, numbered from 1.
unfoldable pub family : List Poly → Family
family ps i = get_or ([] ∷ ps) i []

-- A line stands for coef × left × (polynomial number `of`) × right.
pub record Line : Type 0 where
  pub coef : ℕ
  pub left : Word
  pub of : ℕ
  pub right : Word

-- What a line stands for, as a polynomial.
unfoldable pub product : Operations → Family → Line → Poly
unfolding scale shift
product K G x = scale K x.coef (shift x.left x.right (G x.of))

-- The value of a list of lines adds them up; the empty list's is zero.
unfoldable pub value : Operations → Family → List Line → Poly
unfolding product
value K G [] = []
value K G (x ∷ xs) = product K G x ++ value K G xs

-- Left and right are words in the letters L.
abbrev pub Over : (ℕ → Type 0) → Line → Type 0
Over L x = All L x.left × All L x.right

-- f is a sum over the polynomials of G: the value of some list of lines, left and right any words in the letters L. Nothing is bounded.
pub record InIdeal (L : ℕ → Type 0) (K : Operations) (G : Family) (f : Poly) : Type 0 where
  pub lines : List Line
  pub words : All (Over L) lines
  pub equal : Same K f (value K G lines)
