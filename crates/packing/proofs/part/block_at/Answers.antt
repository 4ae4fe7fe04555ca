-- `block_at` is block j, or 0 behind the last.
use mathlib.Core.Path.{refl, sym}
use native.Mathlib.Omega.{arith}
use lib.ListN.{get_or-eq_default}
use Rattle.packing.proofs.part.block_at.Goals as goal

pub returns-then-w-j : goal.returns-then-w-j
returns-then-w-j c = (sym (get_or-eq_default c.args.w.now 0 c.if-w-j.true), omega arith)

pub returns : goal.returns
returns c = (refl, c.requires c.args.j)
