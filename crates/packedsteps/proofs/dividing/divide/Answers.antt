-- `divide` multiplies with the inverse.
use mathlib.Core.Path.{sym, ◌∙◌}
use native.Mathlib.Omega.{arith}
use Rattle.packedsteps.proofs.StepLaws.{divided_one, divided_is}
use Rattle.packedsteps.proofs.dividing.divide.Goals as goal

pub returns-then-y-eq1 : goal.returns-then-y-eq1
returns-then-y-eq1 c =
    let (tabled, small, some, most) = c.requires in
    (divided_one c.args.t.now tabled c.args.x c.args.of small some most (sym c.inverse_in-y.ensures.0 ∙ c.if-y-eq1.true), small)

pub mul-requires : goal.mul-requires
mul-requires c =
    let p = c.prime_in.ensures in
    let (tabled, small, some, most) = c.requires in
    (omega (arith, p, tabled.prime), omega (arith, p), omega (arith, p, c.inverse_in-y.ensures.1))

pub returns : goal.returns
returns c =
    let (tabled, small, some, most) = c.requires in
    let p = c.prime_in.ensures in
    (divided_is c.args.t.now tabled c.args.x c.args.of _ _ _ some most p c.inverse_in-y.ensures.0 c.mul.ensures.0, omega (arith, p, c.mul.ensures.1))
