use Prim.Native.Nat.{◌-◌}
use Rattle.algebra.specs.Steps.{run}
use Rattle.table.specs.Table.{field_in, order_in}
use Rattle.table.specs.Polynomials.{basis_in}
use Rattle.packedterms.specs.InFormula.{formula_in}
use Rattle.packedsteps.proofs.Progress.{Progress}
use Rattle.packedsteps.proofs.run.run.Given as goal

abbrev pub invariant-loop-made : goal.invariant-loop-made
invariant-loop-made l =
    Progress l.t l.budget l.f l.from l.used (run 512 (field_in l.t) (order_in l.t) (basis_in l.t) l.budget 0 (formula_in l.t l.initial.f))

abbrev pub decreases-loop-made : goal.decreases-loop-made
decreases-loop-made l = l.budget - l.used
