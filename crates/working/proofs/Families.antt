-- Polynomials by number: each is in written form where all of the list are.
use mathlib.Core.List.{List, [], ◌∷◌}
use Prim.Native.Nat.{ℕ, zero, suc}
use Rattle.lists.specs.All.{All, ◌also◌}
use Rattle.field.specs.Field.{Operations}
use Rattle.words.specs.Order.{Order}
use Rattle.algebra.specs.Poly.{Poly}
use Rattle.algebra.specs.Ideal.{family}
use Rattle.algebra.specs.Written as Wr
use Rattle.algebra.specs.Written.{Written}

-- every polynomial by number is in written form, where those of the list are; a number that names none gives zero
pub family-written : (K : Operations) (O : Order) (ps : List Poly) → All (Written K O) ps → (i : ℕ) → Written K O (family ps i)
unfolding family
family-written K O ps h zero = Wr.zero
family-written K O [] h (suc i) = Wr.zero
family-written K O (p ∷ ps) (h also hs) (suc zero) = h
family-written K O (p ∷ ps) (h also hs) (suc (suc i)) = family-written K O ps hs (suc i)
