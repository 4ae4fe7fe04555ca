-- `put_block`: letter i is in front of the block moved up by i letters; storing what is left gives what storing all gives.
use mathlib.Core.Path.{refl}
use Prim.Native.Nat.{◌+◌}
use native.Mathlib.Nat.{add-zero}
use lib.ListN.{length-set}
use Rattle.table.specs.Table.{letter_in}
use Rattle.packedtexts.proofs.BlockTexts.{moved_start, moved_next, moved_code, letter-stored, letters-stored}
use Rattle.packedtexts.proofs.writing.put_block.Goals as goal

pub loop-i-init : goal.loop-i-init
loop-i-init c = (refl, moved_start ((letter_in c.args.t.now)) c.args.x c.args.r c.requires.0, rw add-zero)

pub letter_in-requires : goal.letter_in-requires
letter_in-requires c =
    moved_code ((letter_in c.args.t.now)) c.args.x c.args.r c.requires.0 c.loop-i.i c.loop-i.y c.loop-i.invariant.1

pub loop-i-preserved : goal.loop-i-preserved
loop-i-preserved c =
    let (size, e, s) = c.loop-i.invariant in
    let p = c.requires.0 in (
      rw length-set size,
      moved_next ((letter_in c.args.t.now)) c.args.x c.args.r p c.loop-i.i c.loop-i.y _ e c.up-y.ensures.0,
      letter-stored ((letter_in c.args.t.now)) c.args.x c.args.r p c.loop-i.out _ c.args.at c.loop-i.i c.loop-i.y _ c.loop-i-test.true e c.letter_in.ensures s,
    )

pub returns : goal.returns
returns c =
    letters-stored ((letter_in c.args.t.now)) c.args.x c.args.r c.requires.0 c.loop-i.out _ (c.args.at + c.loop-i.i) c.loop-i.i c.loop-i-test.false c.loop-i.invariant.2
