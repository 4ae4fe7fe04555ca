-- Leading coefficients of polynomials that lie in slices, and their inverses.
use Rattle.std.specs.Prelude.{List, ℕ, ◌+◌, ◌<◌, length, get_or}
use Rattle.field.specs.Field.{field_of}

-- The coefficient of the first term of polynomial g, from 0, where the polynomials start from entry base of firsts on.
abbrev pub lead_at : List ℕ → List ℕ → ℕ → ℕ → ℕ
lead_at coefs firsts base g = get_or coefs (get_or firsts (base + g) 0) 0

-- The inverse of that coefficient.
abbrev pub inverse_entry : ℕ → List ℕ → List ℕ → ℕ → ℕ → ℕ
inverse_entry p coefs firsts base g = (field_of p).inv (lead_at coefs firsts base g)

-- For each of the n polynomials that coefficient lies in the slice, and is an element other than 0.
pub record Leading (p : ℕ) (coefs firsts : List ℕ) (base n : ℕ) : Type 0 where
  pub inside : (g : ℕ) → g < n → get_or firsts (base + g) 0 < length coefs
  pub some : (g : ℕ) → g < n → 0 < lead_at coefs firsts base g
  pub small : (g : ℕ) → g < n → lead_at coefs firsts base g < p
