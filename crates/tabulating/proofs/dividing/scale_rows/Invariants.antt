use Rattle.tabulating.specs.Divided.{RowsScaled}
use Rattle.tabulating.proofs.dividing.scale_rows.Given as goal

abbrev pub invariant-loop-i : goal.invariant-loop-i
invariant-loop-i l = RowsScaled l.initial.t l.y l.first l.i l.t
