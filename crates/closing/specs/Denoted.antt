-- The polynomial that terms stand for, and what the laws of closing up say with it.
use Rattle.std.specs.Prelude.{List, [], ◌∷◌, ℕ, take, drop}
use Rattle.lists.specs.All.{All}
use Rattle.words.specs.Order.{Order, Lt}
use Rattle.algebra.specs.Poly as P
use Rattle.algebra.specs.Poly.{Poly}
use Rattle.closing.specs.declared.Term.{Term}

-- The term coefficient × word, where the word is the len bytes from start on.
abbrev pub denoted_term : List ℕ → Term → P.Term
denoted_term bytes t = record { coef = t.coef; word = take t.len (drop t.start bytes) }

-- The polynomial, with its words in the bytes.
unfoldable pub denoted : List ℕ → List Term → Poly
denoted bytes [] = []
denoted bytes (t ∷ ts) = denoted_term bytes t ∷ denoted bytes ts

-- The list is what is left of another when some of its entries are taken away.
pub data InOrder {A : Type 0} : List A → List A → Type 0 where
  none : InOrder [] []
  away : {x : A} {xs ys : List A} → InOrder xs ys → InOrder xs (x ∷ ys)
  left : {x : A} {xs ys : List A} → InOrder xs ys → InOrder (x ∷ xs) (x ∷ ys)

-- The words fall: each is above all that follow.
pub data Falling (O : Order) : Poly → Type 0 where
  none : Falling O []
  next : {t : P.Term} {f : Poly} → All (λ s. Lt O s.word t.word) f → Falling O f → Falling O (t ∷ f)
