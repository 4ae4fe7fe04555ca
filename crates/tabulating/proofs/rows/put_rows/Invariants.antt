use Prim.Native.Nat.{◌*◌}
use Rattle.table.specs.Table.{key_in}
use Rattle.tabulating.specs.Filled.{Filled}
use Rattle.tabulating.specs.Rows.{row_entry}
use Rattle.tabulating.proofs.rows.put_rows.Given as goal

abbrev pub invariant-loop-i : goal.invariant-loop-i
invariant-loop-i l = Filled 352 (3 * l.i) (row_entry (key_in l.initial.t) l.coefs l.starts l.lens l.bytes) l.initial.t l.t
