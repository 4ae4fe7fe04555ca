-- Leading words, overlaps and inclusions, and what certifies a basis (source document 002, definitions 3.5.1, 3.5.2 and theorem 4.3.4 (2)).
-- Leading coefficients are any nonzero elements, and leading words may stand inside one another.
use Rattle.std.specs.Prelude.{◌≡◌, ◌≢◌, ◌⊎◌, List, [], ◌∷◌, ◌++◌, ℕ}
use Rattle.field.specs.Field.{Operations}
use Rattle.lists.specs.All.{All}
use Rattle.words.specs.Word.{Word, around}
use Rattle.words.specs.Order.{Order, Lt}
use Rattle.algebra.specs.Poly.{Term, Poly, coeff, Same, scale, shift, sub}
use Rattle.algebra.specs.Ideal.{Family, Line, value}

-- The leading word: the first. (The zero polynomial has none, and what is said of leading words leaves it out.)
unfoldable pub lead : Poly → Word
lead [] = []
lead (t ∷ f) = t.word

-- The leading coefficient: that of the leading word.
unfoldable pub lead_coef : Poly → ℕ
lead_coef [] = 0
lead_coef (t ∷ f) = t.coef

-- The first term does lead: its coefficient is not zero, and every other word is below its word.
pub data Led (K : Operations) (O : Order) : Poly → Type 0 where
  led : {t : Term} {f : Poly} → K.red t.coef ≢ 0 → All (λ s. Lt O s.word t.word) f → Led K O (t ∷ f)

-- A leading word stands inside w: w is left × it × right, either side possibly empty.
pub record Inside (K : Operations) (O : Order) (G : Family) (w : Word) : Type 0 where
  pub of : ℕ
  pub left : Word
  pub right : Word
  pub real : Led K O (G of)
  pub fits : around left right (lead (G of)) ≡ w

-- g divided by its leading coefficient.
unfoldable pub monic : Operations → Poly → Poly
unfolding scale lead_coef
monic K g = scale K (K.inv (lead_coef g)) g

-- left × leading word × right: the greatest word that a line brings.
unfoldable pub top : Family → Line → Word
unfolding lead
top G x = around x.left x.right (lead (G x.of))

-- left × (polynomial i) × right minus left' × (polynomial j) × right', each divided by its leading coefficient, is the value of lines
-- each of which is strictly below left × (leading word of i) × right.
pub record Resolved (K : Operations) (O : Order) (G : Family) (i : ℕ) (l r : Word) (j : ℕ) (l' r' : Word) : Type 0 where
  pub lines : List Line
  pub below : All (λ x. Lt O (top G x) (around l r (lead (G i)))) lines
  pub equal : Same K (sub K (shift l r (monic K (G i))) (shift l' r' (monic K (G j)))) (value K G lines)

-- Overlaps, 3.5.1 (i): the leading words are d × s and s × q, none of the three empty; the overlap word is d × s × q. Its difference is resolved.
-- ((ii) is (i) with the pair exchanged: both orders of a pair are looked at.)
abbrev pub Overlaps : Operations → Order → Family → Type 0
Overlaps K O G =
    (i j : ℕ) → Led K O (G i) → Led K O (G j)
    → (d s q : Word) → d ≢ [] → s ≢ [] → q ≢ [] → lead (G i) ≡ d ++ s → lead (G j) ≡ s ++ q
    → Resolved K O G i [] q j d []

-- Inclusions, 3.5.1 (iii): the leading word of another polynomial stands inside the first's. Its difference is resolved.
abbrev pub Inclusions : Operations → Order → Family → Type 0
Inclusions K O G =
    (i j : ℕ) → Led K O (G i) → Led K O (G j) → i ≢ j
    → (d t : Word) → lead (G i) ≡ around d t (lead (G j))
    → Resolved K O G i [] [] j d t

-- A certified basis: each polynomial leads or is no polynomial of the basis, and overlaps and inclusions are resolved.
pub record Certified (K : Operations) (O : Order) (G : Family) : Type 0 where
  pub leads : (i : ℕ) → (G i ≡ []) ⊎ Led K O (G i)
  pub overlaps : Overlaps K O G
  pub inclusions : Inclusions K O G

-- The greatest word of f, as a polynomial, holds a leading word: f has it, f has no word above it, and a leading word stands inside it.
pub record GreatestInside (K : Operations) (O : Order) (G : Family) (f : Poly) : Type 0 where
  pub word : Word
  pub has : coeff K f word ≢ 0
  pub above : (v : Word) → Lt O word v → coeff K f v ≡ 0
  pub inside : Inside K O G word
