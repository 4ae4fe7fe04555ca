-- Polynomials as formal sums: lists of terms, in any order, with words repeated at will.
use Rattle.std.specs.Prelude.{◌≡◌, true, false, List, [], ◌∷◌, ◌++◌, ℕ}
use Rattle.lists.specs.Same.{same}
use Rattle.field.specs.Field.{Operations}
use Rattle.lists.specs.All.{All}
use Rattle.words.specs.Word.{Word, around}

-- coefficient × word
pub record Term : Type 0 where
  pub coef : ℕ
  pub word : Word

abbrev pub Poly : Type 0
Poly = List Term

-- c where the words are the same, 0 where not.
unfoldable pub where_same : Word → Word → ℕ → ℕ
unfolding same
where_same u w c = elim (same u w) [ true ↦ c | false ↦ 0 ]

-- The coefficient of a word in a formal sum: the sum of the coefficients of the terms that have it.
unfoldable pub coeff : Operations → Poly → Word → ℕ
unfolding where_same
coeff K [] w = 0
coeff K (t ∷ f) w = K.add (where_same t.word w t.coef) (coeff K f w)

-- Two formal sums are equal as polynomials: they have the same coefficient at every word.
abbrev pub Same : Operations → Poly → Poly → Type 0
Same K f g = (w : Word) → coeff K f w ≡ coeff K g w

-- c × f
unfoldable pub scale : Operations → ℕ → Poly → Poly
scale K c [] = []
scale K c (t ∷ f) = record { coef = K.mul c t.coef; word = t.word } ∷ scale K c f

-- left × f × right
unfoldable pub shift : Word → Word → Poly → Poly
shift left right [] = []
shift left right (t ∷ f) = record { coef = t.coef; word = around left right t.word } ∷ shift left right f

-- f - g. (f + g is f ++ g.)
unfoldable pub sub : Operations → Poly → Poly → Poly
unfolding scale
sub K f g = f ++ scale K (K.neg 1) g

-- Every word of f is in the letters L.
abbrev pub InLetters : (ℕ → Type 0) → Poly → Type 0
InLetters L f = All (λ t. All L t.word) f
