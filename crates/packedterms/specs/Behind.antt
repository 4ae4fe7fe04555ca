-- Words that belong behind the first terms of a polynomial.
use Rattle.std.specs.Prelude.{◌∷◌, ℕ, suc}
use Rattle.words.specs.Word.{Word}
use Rattle.words.specs.Order.{Order, Lt}
use Rattle.algebra.specs.Poly.{Term, Poly}

-- f has k terms at least, and the word u is below the words of the first k.
pub data Behind (O : Order) (u : Word) : ℕ → Poly → Type 0 where
  none : {f : Poly} → Behind O u 0 f
  past : {s : Term} {f : Poly} {k : ℕ} → Lt O u s.word → Behind O u k f → Behind O u (suc k) (s ∷ f)
