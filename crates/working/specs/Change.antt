-- What one term does to a run of terms: it is added onto the term that has its word, put before a term, or left out.
use Rattle.std.specs.Prelude.{◌∷◌, ◌++◌, ℕ, ◌+◌, ◌-◌}
use Rattle.field.specs.Field.{Operations}
use Rattle.words.specs.Word.{Word}
use Rattle.algebra.specs.Poly.{Term, Poly}
use Rattle.algebra.specs.Written.{put}
use Rattle.working.specs.Working.{terms}

-- The term x × v.
abbrev pub single : ℕ → Word → Term
single x v = record { coef = x; word = v }

-- x added to the coefficient of term k of n, which is dropped where that gives 0.
abbrev pub onto : Operations → (ℕ → Term) → ℕ → ℕ → ℕ → Poly
onto K F n k x = terms F 0 k ++ put K (K.add x (F k).coef) (F k).word (terms F (k + 1) (n - (k + 1)))

-- The term x × v before term k of n.
abbrev pub before : (ℕ → Term) → ℕ → ℕ → ℕ → Word → Poly
before F n k x v = terms F 0 k ++ (single x v ∷ terms F k (n - k))

-- The n terms without term k.
abbrev pub without : (ℕ → Term) → ℕ → ℕ → Poly
without F n k = terms F 0 k ++ terms F (k + 1) (n - (k + 1))
