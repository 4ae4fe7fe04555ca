-- Steps and sums as they are computed (document 01, 'Steps' and 'Facts of acceptance'): a line is taken away from a polynomial in written form.
use Rattle.std.specs.Prelude.{◌≡◌, true, false, List, [], ◌∷◌, ℕ, zero, suc, ◌+◌, ltb, length, take, drop}
use Rattle.field.specs.Field.{Operations}
use Rattle.words.specs.Order.{Order}
use Rattle.algebra.specs.Poly.{Term, Poly, scale, shift}
use Rattle.algebra.specs.Written.{plus}
use Rattle.algebra.specs.Ideal.{Family, family, Line}
use Rattle.algebra.specs.Groebner.{lead, lead_coef}
use Rattle.algebra.specs.Spot.{Target, reduced, reducible, target}

-- f minus coef × left × (polynomial number `of`) × right.
unfoldable pub take_away : Operations → Order → Family → Poly → Line → Poly
unfolding plus scale shift
take_away K O G f x = plus K O f (scale K (K.neg x.coef) (shift x.left x.right (G x.of)))

-- The line that a step takes away at the term t, where the leading word of polynomial n stands in t's word at place i:
-- that word's coefficient × inverse of the leading coefficient × left × polynomial × right (document 02, P4), so that the word goes.
unfoldable pub line_at : Operations → List Poly → Term → ℕ → ℕ → Line
unfolding family lead lead_coef
line_at K ps t i n = record {
  coef = K.mul t.coef (K.inv (lead_coef (family ps n)));
  left = take i t.word;
  of = n;
  right = drop (i + length (lead (family ps n))) t.word;
}

-- The polynomial after that step.
unfoldable pub stepped : Operations → Order → List Poly → Poly → Term → ℕ → ℕ → Poly
unfolding take_away line_at
stepped K O ps f t i n = take_away K O (family ps) f (line_at K ps t i n)

-- The sequence of steps from f to N, with the lines that they take away in order. It ends where no word has a leading word inside.
pub data Sequence (K : Operations) (O : Order) (ps : List Poly) : Poly → List Line → Poly → Type 0 where
  ended : {f : Poly} → target ps f ≡ reduced → Sequence K O ps f [] f
  step : {f N : Poly} {xs : List Line} {t : Term} {i n : ℕ}
      → target ps f ≡ reducible t i n → Sequence K O ps (stepped K O ps f t i n) xs N → Sequence K O ps f (line_at K ps t i n ∷ xs) N

-- How running ends: with a polynomial and the number of steps; with more terms than the limit, after so many steps; or with the budget spent.
pub data Ended : Type 0 where
  answer : Poly → ℕ → Ended
  over : ℕ → Ended
  spent : Ended

-- What follows where one step may still be made.
unfoldable pub onward : (Term → ℕ → ℕ → Ended) → Poly → ℕ → Target → Ended
onward k f used reduced = answer f used
onward k f used (reducible t i n) = k t i n

-- Running f after `used` steps, with a budget of b more: before each step, nothing reducible gives the answer, else no budget left gives 18;
-- a step that leaves over `limit` terms gives 17.
unfoldable pub run : ℕ → Operations → Order → List Poly → ℕ → ℕ → Poly → Ended
unfolding onward stepped target
run limit K O ps zero used f = onward (λ t i n. spent) f used (target ps f)
run limit K O ps (suc b) used f =
    onward
    (λ t i n. elim (ltb limit (length (stepped K O ps f t i n))) [ true ↦ over (suc used) | false ↦ run limit K O ps b (suc used) (stepped K O ps f t i n) ])
    f used (target ps f)
