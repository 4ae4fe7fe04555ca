-- What holds of the table of a package that was read.
use Rattle.std.specs.Prelude.{◌≡◌, List, ℕ, suc, ◌+◌, ◌%◌, ◌≤◌, ◌<◌, length}
use Rattle.field.specs.Field.{Field}
use Rattle.lists.specs.All.{All}
use Rattle.algebra.specs.Written.{Written}
use Rattle.algebra.specs.Ideal.{family}
use Rattle.algebra.specs.Groebner.{lead_coef}
use Rattle.packedwords.specs.Packed.{Nonzero, unpacked}
use Rattle.table.specs.Table.{table_size, prime_in, letters_in, gens_in, basis_count_in, terms_in, items_in, field_in, order_in, inverse_in, first_in, coef_in, size_in, blocks_in}
use Rattle.table.specs.Words.{Held, Suits, Keys}
use Rattle.table.specs.Polynomials.{relations_in, basis_in, NoneZero}

-- The counts are within document 01's bounds; the coefficients are a field's, in which they are elements; the order is that of the numbers, and letters
-- and codes have each other's keys; each word has at most 24 letters, none with the code 0, and is held by its blocks; the terms of an item, at most 48,
-- lie behind those of the item before it; the polynomials are in written form; no polynomial of the basis is zero, and each has the inverse of its
-- leading coefficient.
pub record Tabled (t : List ℕ) : Type 0 where
  pub size : length t ≡ table_size
  pub prime : prime_in t ≤ 65536
  pub letters : letters_in t ≤ 26
  pub gens : gens_in t ≤ 32
  pub basis : basis_count_in t ≤ 64
  pub terms : terms_in t ≤ 1024
  pub field : Field (field_in t)
  pub suits : Suits t
  pub keys : Keys t
  pub small : (i : ℕ) → i < terms_in t → coef_in t i < prime_in t
  pub short : (i : ℕ) → i < terms_in t → size_in t i % 256 ≤ 24
  pub held : (i : ℕ) → i < terms_in t → Held t (size_in t i) (blocks_in t i)
  pub coded : (i : ℕ) → i < terms_in t → Nonzero (unpacked (size_in t i % 256) (blocks_in t i))
  pub rising : (j : ℕ) → 1 ≤ j → j ≤ items_in t → first_in t j ≤ first_in t (suc j)
  pub most : (j : ℕ) → 1 ≤ j → j ≤ items_in t → first_in t (suc j) ≤ terms_in t
  pub few : (j : ℕ) → 1 ≤ j → j ≤ items_in t → first_in t (suc j) ≤ first_in t j + 48
  pub relations-written : All (Written (field_in t) (order_in t)) (relations_in t)
  pub basis-written : All (Written (field_in t) (order_in t)) (basis_in t)
  pub nonzero : NoneZero (basis_in t)
  pub inverses : (g : ℕ) → g < basis_count_in t → inverse_in t g ≡ (field_in t).inv (lead_coef (family (basis_in t) (suc g)))
