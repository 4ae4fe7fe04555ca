-- `inverse` is the power of x whose logarithm completes that of a to 255; where that of a is 0, a is 1.
use mathlib.Core.Path.{sym, ◌∙◌}
use native.Mathlib.Omega.{arith}
use Rattle.field.proofs.ByteField.{inverse_of_one, inverse_by_logarithm}
use Rattle.field.proofs.byte_field.inverse.Goals as goal

pub returns-then-i-eq0 : goal.returns-then-i-eq0
returns-then-i-eq0 c = (inverse_of_one _ (omega arith) (omega arith) (sym c.logarithm-i.ensures.0 ∙ c.if-i-eq0.true), omega arith)

pub returns : goal.returns
returns c =
    (inverse_by_logarithm _ (omega arith) (omega arith) c.logarithm-i.ensures.0 (omega arith) c.power.ensures.0, c.power.ensures.1)
