-- `inverse_in` reads the entry, which is below the field's number.
use mathlib.Core.Path.{refl}
use native.Mathlib.Omega.{arith}
use Rattle.table.proofs.Inverses.{inverse-small}
use Rattle.table.proofs.numbers.inverse_in.Goals as goal

pub overflow_cast-result : goal.overflow_cast-result
overflow_cast-result c =
    let p = c.requires.0.prime in
    let q = inverse-small c.args.t.now c.requires.0 c.args.g c.requires.1 in
    record { fits = omega arith }

pub returns : goal.returns
returns c =
    (refl, inverse-small c.args.t.now c.requires.0 c.args.g c.requires.1)
