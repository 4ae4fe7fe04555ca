-- `rotate_left` moves entry k to m. The loop's invariant: the entries before i have moved.
use Rattle.working.proofs.RotationLeft.{shift-left-turn, shift-left-start, moved_left}
use mathlib.Core.Path.{refl}
use borrow.Author.Rules.{rules}
use Rattle.working.proofs.entries.rotate_left.Goals as goal

pub loop-i-init : goal.loop-i-init
loop-i-init c = shift-left-start c.args.a.now c.args.k

pub loop-i-preserved : goal.loop-i-preserved
loop-i-preserved c = shift-left-turn c.args.a.now c.loop-i.a c.args.k c.loop-i.i (search rules) (search rules) c.loop-i.invariant

pub returns : goal.returns
returns c =
    let z = c.args in
    moved_left z.a.now c.loop-i.a z.k z.m c.loop-i.i _ (search rules) (search rules) (search rules) refl c.loop-i.invariant
