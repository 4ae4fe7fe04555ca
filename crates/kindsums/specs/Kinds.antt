-- The kinds of sums of a package, on its table.
use Rattle.std.specs.Prelude.{true, false, List, ℕ, eqb}
use Rattle.package.specs.Names.{sum_b, sum_g}
use Rattle.acceptance.specs.Check.{Side}
use Rattle.table.specs.Table.{gens_in, basis_count_in}
use Rattle.table.specs.Polynomials.{polynomials_in, relations_in, basis_in}
use Rattle.kindsums.specs.declared.KindNumbers.{KindNumbers}

-- The sums of a kind: B sums equal the basis, over the relations (11); those of another kind, G, equal the relations, over the basis (12).
unfoldable pub side_in : List ℕ → ℕ → Side
unfolding polynomials_in
side_in t kind = elim (eqb kind sum_b) [
  | true ↦ record { kind = sum_b; number = 11; targets = basis_in t; others = relations_in t }
  | false ↦ record { kind = sum_g; number = 12; targets = relations_in t; others = basis_in t }
]

-- Their numbers: relations are the items from 1 on, and the basis follows them.
unfoldable pub numbers_in : List ℕ → ℕ → KindNumbers
numbers_in t kind = elim (eqb kind sum_b) [
  | true ↦ record { number = 11; count = basis_count_in t; targets = gens_in t; others = 0 }
  | false ↦ record { number = 12; count = gens_in t; targets = 0; others = gens_in t }
]
