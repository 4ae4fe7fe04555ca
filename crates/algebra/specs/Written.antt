-- The written form of a polynomial (document 01, 'Words and polynomials'): distinct words, greatest first, with coefficients that are elements other than 0.
-- It is the canonical form of a polynomial: each has exactly one (`written-written` and `written-coeff`, `written_unique`).
use Rattle.std.specs.Prelude.{true, false, ◌≢◌, [], ◌∷◌, ℕ, ◌<◌, eqb}
use Rattle.field.specs.Field.{Operations}
use Rattle.std.specs.declared.cmp.Ordering.TheVariants.{Less, Equal, Greater}
use Rattle.lists.specs.All.{All}
use Rattle.words.specs.Word.{Word}
use Rattle.words.specs.Order.{Order, Lt}
use Rattle.algebra.specs.Poly.{Term, Poly}

-- The words fall: each is above all that follow. Coefficients are elements other than 0.
pub data Written (K : Operations) (O : Order) : Poly → Type 0 where
  zero : Written K O []
  term : {t : Term} {f : Poly} → t.coef < K.size → t.coef ≢ 0 → All (λ s. Lt O s.word t.word) f → Written K O f → Written K O (t ∷ f)

-- The term c × w before f, or f alone where c is zero: terms whose coefficient becomes 0 are dropped.
unfoldable pub put : Operations → ℕ → Word → Poly → Poly
put K c w f = elim (eqb (K.red c) 0) [ true ↦ f | false ↦ record { coef = K.red c; word = w } ∷ f ]

-- A term added to a written form: at its place, or onto the term that has its word.
unfoldable pub insert : Operations → Order → Term → Poly → Poly
unfolding put
insert K O t [] = put K t.coef t.word []
insert K O t (s ∷ f) = elim (O t.word s.word) [
  | Less ↦ s ∷ insert K O t f
  | Equal ↦ put K (K.add t.coef s.coef) s.word f
  | Greater ↦ put K t.coef t.word (s ∷ f)
]

-- The sum of a written form f and the terms of g, which are added one after the other.
unfoldable pub plus : Operations → Order → Poly → Poly → Poly
unfolding insert
plus K O f [] = f
plus K O f (t ∷ g) = plus K O (insert K O t f) g

-- The written form of a formal sum.
unfoldable pub written : Operations → Order → Poly → Poly
unfolding plus
written K O f = plus K O [] f
