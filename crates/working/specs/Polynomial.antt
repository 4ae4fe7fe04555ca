-- A polynomial that lies in a package: its coefficients, and where in the bytes each of its words starts and how long it is.
use Rattle.std.specs.Prelude.{◌≡◌, List, ℕ, ◌+◌, ◌≤◌, ◌<◌, length, get_or}
use Rattle.words.specs.Laid.{laid_word}
use Rattle.algebra.specs.Poly.{Term, Poly}
use Rattle.working.specs.Working.{terms}

-- Term i: coefficient gc[i], and the gl[i] bytes from gs[i] on.
abbrev pub poly_term : List ℕ → List ℕ → List ℕ → List ℕ → ℕ → Term
poly_term gc gs gl bytes i = record { coef = get_or gc i 0; word = laid_word gs gl bytes i }

-- The polynomial.
abbrev pub poly_at : List ℕ → List ℕ → List ℕ → List ℕ → Poly
poly_at gc gs gl bytes = terms (poly_term gc gs gl bytes) 0 (length gc)

-- Its slices are equally long, its coefficients are elements, and its words lie within the bytes and have at most 24 letters.
pub record Given (p : ℕ) (gc gs gl bytes : List ℕ) : Type 0 where
  pub starts : length gs ≡ length gc
  pub lens : length gl ≡ length gc
  pub small : (i : ℕ) → i < length gc → get_or gc i 0 < p
  pub inside : (i : ℕ) → i < length gc → get_or gs i 0 + get_or gl i 0 ≤ length bytes
  pub short : (i : ℕ) → i < length gc → get_or gl i 0 ≤ 24
