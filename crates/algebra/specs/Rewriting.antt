-- Rewriting with free choice (source document 002, definitions 3.4.1 to 3.4.3): a step takes any word of the polynomial, any place of a leading
-- word in it, and any polynomial that leads with that word, and takes away that word's coefficient × left × (polynomial divided by its leading
-- coefficient) × right.
use Rattle.std.specs.Prelude.{◌≡◌, ◌≢◌, ℕ, take}
use Rattle.field.specs.Field.{Operations}
use Rattle.words.specs.Word.{Word}
use Rattle.words.specs.Order.{Order}
use Rattle.algebra.specs.Poly.{Term, Poly, coeff, Same, scale, shift, sub}
use Rattle.algebra.specs.Written.{Written}
use Rattle.algebra.specs.Ideal.{Family}
use Rattle.algebra.specs.Groebner.{Inside, monic}

-- What a step at the word w takes away from f. The polynomial is divided by its leading coefficient, so that the word goes.
unfoldable pub taken : (K : Operations) (O : Order) (G : Family) (f : Poly) {w : Word} → Inside K O G w → Poly
unfolding coeff scale shift monic
taken K O G f {w} p = scale K (coeff K f w) (shift p.left p.right (monic K (G p.of)))

-- One step from f to h.
pub record Step (K : Operations) (O : Order) (G : Family) (f h : Poly) : Type 0 where
  pub word : Word
  pub has : coeff K f word ≢ 0
  pub place : Inside K O G word
  pub written : Written K O h
  pub equal : Same K h (sub K f (taken K O G f place))

-- Such a step with nothing left to choose: at the word of the term t, where the leading word of polynomial n stands behind the first i letters.
pub record StepAt (K : Operations) (O : Order) (G : Family) (f h : Poly) (t : Term) (i n : ℕ) : Type 0 where
  pub step : Step K O G f h
  pub word : step.word ≡ t.word
  pub left : step.place.left ≡ take i t.word
  pub of : step.place.of ≡ n

-- Any number of steps.
pub data Steps (K : Operations) (O : Order) (G : Family) : Poly → Poly → Type 0 where
  stay : {f : Poly} → Steps K O G f f
  next : {f g h : Poly} → Step K O G f g → Steps K O G g h → Steps K O G f h

-- No step leads on from h.
abbrev pub End : Operations → Order → Family → Poly → Type 0
End K O G h = (g : Poly) → Step K O G h g → ⊥
