-- A basis polynomial of a table divided by its leading coefficient.
use Rattle.std.specs.Prelude.{◌≡◌, ◌≢◌, List, ℕ, suc, ◌+◌, ◌*◌, ◌≤◌, ◌<◌, length, get_or}
use Rattle.algebra.specs.Groebner.{monic}
use Rattle.table.specs.Table.{prime_in, letters_in, gens_in, basis_count_in, field_in, coef_in, size_in}
use Rattle.table.specs.Polynomials.{polynomial_in, relations_in}
use Rattle.table.specs.Tabled.{Tabled}

-- The rows of the terms from `first` on, before `end`, have y times the coefficients that they have in t; all other entries of u are those of t.
pub record RowsScaled (t : List ℕ) (y first end : ℕ) (u : List ℕ) : Type 0 where
  pub size : length u ≡ length t
  pub scaled : (i : ℕ) → first ≤ i → i < end → get_or u (352 + 3 * i) 0 ≡ (field_in t).mul y (coef_in t i) * 4294967296 + size_in t i
  pub others : (k : ℕ) → ((i : ℕ) → first ≤ i → i < end → k ≢ 352 + 3 * i) → get_or u k 0 ≡ get_or t k 0

-- u is a table with the numbers and relations of t, and with its basis polynomials, of which number g, from 0, is divided by its leading coefficient.
pub record ItemDivided (t : List ℕ) (g : ℕ) (u : List ℕ) : Type 0 where
  pub tabled : Tabled u
  pub prime : prime_in u ≡ prime_in t
  pub letters : letters_in u ≡ letters_in t
  pub gens : gens_in u ≡ gens_in t
  pub count : basis_count_in u ≡ basis_count_in t
  pub relations : relations_in u ≡ relations_in t
  pub divided : polynomial_in u (gens_in t + suc g) ≡ monic (field_in t) (polynomial_in t (gens_in t + suc g))
  pub others : (k : ℕ) → k < basis_count_in t → k ≢ g → polynomial_in u (gens_in t + suc k) ≡ polynomial_in t (gens_in t + suc k)
