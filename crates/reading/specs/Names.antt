-- Which names line stands where, of the two above the terms.
use Rattle.std.specs.Prelude.{true, false, List, ℕ, eqb}
use Rattle.package.specs.Names.{head_names, term_names}

-- The names line with the number: line 1 has the names of block 1, line 3 those of block 2.
unfoldable pub names_at : ℕ → List ℕ
names_at line = elim (eqb line 1) [ true ↦ head_names | false ↦ term_names ]
