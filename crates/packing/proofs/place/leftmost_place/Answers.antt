-- `leftmost_place` is `leftmost`. The invariant: the leftmost place from `at` on is the leftmost of all.
use mathlib.Core.Path.{sym, ◌∙◌}
use Prim.Native.Nat.{◌+◌, ◌≤◌}
use native.Mathlib.Omega.{arith}
use lib.ListN.{length}
use Rattle.wordplaces.proofs.PlaceTurns.{leftmost-start, leftmost_long, leftmost_here, leftmost-later, leftmost-none, stands_not_last}
use Rattle.packedwords.specs.Packed.{unpacked}
use Rattle.packedwords.proofs.Packing.{unpacked-length}
use Rattle.packing.proofs.place.leftmost_place.Goals as goal

pub returns-then-m-n : goal.returns-then-m-n
returns-then-m-n c =
    let p = unpacked-length c.args.n c.args.b.now in
    let q = unpacked-length c.args.m c.args.w.now in
    sym (leftmost_long _ _ (omega (arith, p, q, c.if-m-n.true)))

pub loop-at-init : goal.loop-at-init
loop-at-init c = (omega (arith, c.if-m-n.false), omega arith, leftmost-start _ _)

pub returns-then-stands_at : goal.returns-then-stands_at
returns-then-stands_at c =
    let q = unpacked-length c.args.m c.args.w.now in
    let yes = sym c.stands_at.ensures ∙ c.if-stands_at.true in
    sym (sym c.loop-at.invariant.2 ∙ leftmost_here _ _ c.loop-at.at (omega (arith, q, c.loop-at.invariant.1)) yes)

pub loop-at-preserved : goal.loop-at-preserved
loop-at-preserved c =
    let b = unpacked c.args.n c.args.b.now in
    let w = unpacked c.args.m c.args.w.now in
    let p = unpacked-length c.args.n c.args.b.now in
    let q = unpacked-length c.args.m c.args.w.now in
    let not = sym c.stands_at.ensures ∙ c.if-stands_at.false in
    let fits : c.loop-at.at + length b ≤ length w = omega (arith, p, q, c.loop-at.invariant.0, c.loop-at-test.true) in
    let inside = stands_not_last b w c.loop-at.at fits not in
    (c.loop-at.invariant.0, omega (arith, q, inside), leftmost-later b w c.loop-at.at fits not ∙ c.loop-at.invariant.2)

pub returns : goal.returns
returns c =
    let p = unpacked-length c.args.n c.args.b.now in
    let q = unpacked-length c.args.m c.args.w.now in
    let i = c.loop-at.invariant in
    sym (sym i.2 ∙ leftmost-none _ _ c.loop-at.at (omega (arith, q, i.1)) (omega (arith, p, q, c.if-m-n.false, c.loop-at-test.false)))
