-- `logarithm_sum` reads the table of logarithms twice.
use mathlib.Core.Path.{ap₂}
use Prim.Native.Nat.{◌+◌}
use native.Mathlib.Omega.{arith}
use Rattle.field.proofs.ByteField.{logarithm-lt}
use Rattle.field.proofs.byte_field.logarithm_sum.Goals as goal

pub overflow_add-result : goal.overflow_add-result
overflow_add-result c =
    let x = logarithm-lt c.args.a c.requires.0 c.requires.1 in
    let y = logarithm-lt c.args.b c.requires.2 c.requires.3 in
    record { fits = omega (arith, x, y, c.from.ensures, c.from-2.ensures) }

pub returns : goal.returns
returns c =
    let x = logarithm-lt c.args.a c.requires.0 c.requires.1 in
    let y = logarithm-lt c.args.b c.requires.2 c.requires.3 in
    (ap₂ ◌+◌ c.from.ensures c.from-2.ensures, omega (arith, x, y, c.from.ensures, c.from-2.ensures))
