-- Terms of a polynomial in whose words no leading word stands.
use Rattle.std.specs.Prelude.{◌≡◌, List, [], ℕ, get_or, take}
use Rattle.lists.specs.All.{All}
use Rattle.algebra.specs.Poly.{Term, Poly}
use Rattle.algebra.specs.Spot.{spot, nowhere}
use Rattle.working.specs.Change.{single}

-- Term k of a polynomial.
abbrev pub term_of_of : Poly → ℕ → Term
term_of_of f k = get_or f k (single 0 [])

-- No word of the first k terms has a leading word inside.
abbrev pub NoSpots : List Poly → Poly → ℕ → Type 0
NoSpots ps f k = All (λ t. spot ps t.word ≡ nowhere) (take k f)
