-- `inverse_mod` is the definition's recursion as a loop. The invariant: the factor, times the inverse of what is left, is the inverse of a.
use mathlib.Core.Path.{sym, ◌∙◌}
use Prim.Native.Nat.{◌-◌, ◌/◌, ◌%◌, ◌≤◌, ◌<◌}
use native.Mathlib.Nat.{mod-lt, mul-le-mul, div-le_self}
use native.Mathlib.Omega.{arith}
use Rattle.field.proofs.Inverse.{inverse-turn, inverse-start, inverse-end}
use Rattle.field.proofs.arithmetic.inverse_mod.Goals as goal

pub loop-left-init : goal.loop-left-init
loop-left-init c = (omega arith, omega arith, inverse-start _ _ (omega arith))

pub overflow_sub-factor : goal.overflow_sub-factor
overflow_sub-factor c = omega (arith, div-le_self c.args.p c.loop-left.left)

pub overflow_mul-factor : goal.overflow_mul-factor
overflow_mul-factor c =
    let x : c.loop-left.factor ≤ 65535 = omega arith in
    let y : c.args.p - c.args.p / c.loop-left.left ≤ 65536 = omega arith in
    omega (arith, mul-le-mul x y)

pub loop-left-smaller : goal.loop-left-smaller
loop-left-smaller c = mod-lt _ (omega arith)

pub loop-left-preserved : goal.loop-left-preserved
loop-left-preserved c =
    let l : c.args.p % c.loop-left.left < c.loop-left.left = mod-lt _ (omega arith) in
    (mod-lt _ (omega arith), omega arith, inverse-turn _ _ _ (omega arith) ∙ c.loop-left.invariant.2)

pub returns : goal.returns
returns c = (sym (inverse-end _ _ _ c.loop-left.invariant.0 (omega arith)) ∙ c.loop-left.invariant.2, c.loop-left.invariant.0)
