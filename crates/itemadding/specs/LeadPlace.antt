-- The term of the formula that the leading term of a multiple cancels.
use Rattle.std.specs.Prelude.{◌≡◌, ◌≢◌, [], ℕ}
use Rattle.field.specs.Field.{Operations}
use Rattle.words.specs.Word.{Word, around}
use Rattle.algebra.specs.Poly.{Term, Poly}
use Rattle.algebra.specs.Groebner.{lead, lead_coef}

-- The polynomial f is not zero, and the term u is x × left × leading term of f × right.
pub record LeadPlace (K : Operations) (x : ℕ) (left right : Word) (f : Poly) (u : Term) : Type 0 where
  pub some : f ≢ []
  pub word : around left right (lead f) ≡ u.word
  pub coef : K.mul x (lead_coef f) ≡ u.coef
