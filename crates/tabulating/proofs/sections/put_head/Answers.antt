-- `put_head` stores six entries.
use native.Mathlib.Omega.{arith}
use Rattle.tabulating.specs.Rows.{head_entry}
use Rattle.tabulating.proofs.Stores.{filled_six}
use Rattle.tabulating.proofs.sections.put_head.Goals as goal

pub returns : goal.returns
returns c =
    let size = c.requires in
    rw (c.from.ensures, c.from-2.ensures, c.from-3.ensures, c.from-4.ensures) (filled_six (head_entry c.args.h c.args.m) c.args.t.now (omega arith))
