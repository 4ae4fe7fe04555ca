-- The leading words of a table's basis, as words of codes.
use Rattle.std.specs.Prelude.{List, [], ◌∷◌, ℕ, zero, suc, ◌+◌, ◌%◌}
use Rattle.words.specs.Word.{Word}
use Rattle.packedwords.specs.Packed.{unpacked}
use Rattle.table.specs.Table.{gens_in, basis_count_in, first_in, size_in, blocks_in}

-- The codes of the word of term i.
abbrev pub codes_in : List ℕ → ℕ → Word
codes_in t i = unpacked (size_in t i % 256) (blocks_in t i)

-- The leading words of n items, from item j on: the words of their first terms.
unfoldable pub lead_codes_from : List ℕ → ℕ → ℕ → List Word
lead_codes_from t j zero = []
lead_codes_from t j (suc n) = codes_in t (first_in t j) ∷ lead_codes_from t (suc j) n

-- The leading words of the basis.
abbrev pub lead_codes_in : List ℕ → List Word
lead_codes_in t = lead_codes_from t (gens_in t + 1) (basis_count_in t)
