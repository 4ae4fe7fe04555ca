-- Terms by number, and the order of places: what the working formula is made of. The arrays that hold it are in crate `packedterms`.
use Rattle.std.specs.Prelude.{◌≡◌, List, [], ◌∷◌, ℕ, zero, suc, ◌<◌, length, get_or}
use Rattle.algebra.specs.Poly.{Term, Poly}

-- The terms F i, F (i + 1), ..: k of them.
unfoldable pub terms : (ℕ → Term) → ℕ → ℕ → Poly
terms F i zero = []
terms F i (suc k) = F i ∷ terms F (suc i) k

-- The entries of o are the places below its length, each once.
pub record Arranged (o : List ℕ) : Type 0 where
  pub inside : (i : ℕ) → i < length o → get_or o i 0 < length o
  pub apart : (i j : ℕ) → i < length o → j < length o → get_or o i 0 ≡ get_or o j 0 → i ≡ j
