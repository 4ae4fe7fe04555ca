-- `opposite_coef` is the product of the opposite and the coefficient.
use mathlib.Core.Path.{sym, ◌∙◌}
use native.Mathlib.Omega.{arith}
use Rattle.itemadding.proofs.Sums.{opposite_one, opposite_times}
use Rattle.itemadding.proofs.coefficients.opposite_coef.Goals as goal

pub neg-y-requires : goal.neg-y-requires
neg-y-requires c =
    rw c.prime_in-p.ensures (c.requires.0.prime, c.requires.1)

pub returns-then-z-eq1 : goal.returns-then-z-eq1
returns-then-z-eq1 c =
    let p = c.prime_in-p.ensures in
    let one = sym c.coef_in-z.ensures ∙ c.if-z-eq1.true in
    (opposite_one c.args.t.now c.requires.0.field c.args.i _ c.args.x _ p c.neg-y.ensures.0 one, omega (arith, p, c.neg-y.ensures.1))

pub mul-requires : goal.mul-requires
mul-requires c =
    let p = c.prime_in-p.ensures in
    let t = c.requires.0 in
    (omega (arith, p, t.prime), c.neg-y.ensures.1, omega (arith, p, c.coef_in-z.ensures, t.small c.args.i c.requires.2))

pub returns : goal.returns
returns c =
    let p = c.prime_in-p.ensures in
    let a = c.args in (
      opposite_times a.t.now a.i _ a.x _ _ _ p c.neg-y.ensures.0 c.coef_in-z.ensures c.mul.ensures.0,
      omega (arith, p, c.mul.ensures.1),
    )
