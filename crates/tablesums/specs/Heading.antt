-- The head that a table has.
use Rattle.std.specs.Prelude.{List, ℕ}
use Rattle.package.specs.declared.Head.{Head}
use Rattle.table.specs.Table.{prime_in, letters_in, gens_in, basis_count_in}

-- The head of the package that a table is of.
abbrev pub head_in : List ℕ → Head
head_in t = record { p = prime_in t; letters = letters_in t; gens = gens_in t; basis = basis_count_in t }
