-- `scaled_coef` is the product of x and the coefficient.
use native.Mathlib.Omega.{arith}
use Rattle.itemadding.proofs.Sums.{times_coef, times_one}
use Rattle.itemadding.proofs.coefficients.scaled_coef.Goals as goal

pub returns-then-x-eq1 : goal.returns-then-x-eq1
returns-then-x-eq1 c =
    let e = c.coef_in-z.ensures in
    (times_one _ c.requires.0 _ _ _ c.requires.2 c.if-x-eq1.true e, omega (arith, e, c.requires.0.small c.args.i c.requires.2))

pub mul-requires : goal.mul-requires
mul-requires c =
    let p = c.prime_in.ensures in
    let t = c.requires.0 in
    (omega (arith, p, t.prime), omega (arith, p, c.requires.1), omega (arith, p, c.coef_in-z.ensures, t.small c.args.i c.requires.2))

pub returns : goal.returns
returns c =
    let a = c.args in
    let p = c.prime_in.ensures in
    (times_coef a.t.now a.i _ a.x _ _ p c.coef_in-z.ensures c.mul.ensures.0, omega (arith, p, c.mul.ensures.1))
