-- Short forms under an accepted basis (document 01, 'What demand 3 compares').
use Rattle.std.specs.Prelude.{ℕ}
use Rattle.field.specs.Field.{Operations}
use Rattle.lists.specs.All.{All}
use Rattle.words.specs.Order.{Order}
use Rattle.algebra.specs.Poly.{Poly, sub}
use Rattle.algebra.specs.Written.{Written}
use Rattle.algebra.specs.Ideal.{Family, InIdeal}
use Rattle.algebra.specs.Groebner.{Inside, Certified}

-- No leading word is inside the polynomial: none stands inside one of its words (source document 002, definition 3.4.3).
abbrev pub Reduced : Operations → Order → Family → Poly → Type 0
Reduced K O G f = All (λ t. Inside K O G t.word → ⊥) f

-- Relations F and basis G: the basis is certified, each of its polynomials is a sum over the relations, and each relation a sum over it.
pub record Accepted (L : ℕ → Type 0) (K : Operations) (O : Order) (F G : Family) : Type 0 where
  pub certified : Certified K O G
  pub basis-sums : (i : ℕ) → InIdeal L K F (G i)
  pub relation_sums : (i : ℕ) → InIdeal L K G (F i)

-- N is a short form of f: in written form, with no leading word inside, and different from f by a sum over the relations.
pub record Short (L : ℕ → Type 0) (K : Operations) (O : Order) (F G : Family) (f N : Poly) : Type 0 where
  pub written : Written K O N
  pub reduced : Reduced K O G N
  pub differs : InIdeal L K F (sub K f N)
