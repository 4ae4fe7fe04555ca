use mathlib.Core.Path.{◌≡◌}
use Rattle.table.specs.Table.{basis_count_in}
use Rattle.tabulating.proofs.DividedBasis.{DividedBelow}
use Rattle.tabulating.proofs.dividing.divide_basis.Given as goal

abbrev pub invariant-loop-g : goal.invariant-loop-g
invariant-loop-g l = (l.n ≡ basis_count_in l.initial.t) × DividedBelow l.initial.t l.g l.t
