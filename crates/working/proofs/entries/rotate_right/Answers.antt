-- `rotate_right` moves entry n to k. The loop's invariant: the entries behind i have moved.
use Rattle.working.proofs.RotationRight.{shift-right-turn, shift-right-start, moved_right}
use mathlib.Core.Path.{◌≡◌, refl}
use Prim.Native.Nat.{◌+◌, ◌-◌}
use native.Mathlib.Omega.{arith}
use borrow.Author.Rules.{rules}
use Rattle.working.proofs.entries.rotate_right.Goals as goal

pub loop-i-init : goal.loop-i-init
loop-i-init c = (c.requires.0, shift-right-start c.args.a.now c.args.n)

pub loop-i-preserved : goal.loop-i-preserved
loop-i-preserved c =
    let z = c.args in
    let i = c.loop-i.i in
    let e : i - 1 + 1 ≡ i = omega arith in
    (search rules, rw e (shift-right-turn z.a.now c.loop-i.a i z.n (search rules) (search rules) (search rules) c.loop-i.invariant.1))

pub returns : goal.returns
returns c =
    let z = c.args in
    moved_right z.a.now c.loop-i.a z.k z.n c.loop-i.i _ (search rules) (search rules) (search rules) refl c.loop-i.invariant.1
