-- `inv` is the field's inverse: in GF(256) through the tables, else modulo p.
use mathlib.Core.Path.{◌∙◌}
use native.Mathlib.Omega.{arith}
use Rattle.field.proofs.Inverse.{inverse-mod}
use Rattle.field.proofs.Reduced.{byte_inverse}
use Rattle.field.proofs.arithmetic.inv.Goals as goal

pub returns-then-p-eq256 : goal.returns-then-p-eq256
returns-then-p-eq256 c = (byte_inverse c.if-p-eq256.true _ c.inverse.ensures.0, omega arith)

pub returns : goal.returns
returns c = (c.inverse_mod.ensures.0 ∙ inverse-mod _ _ c.if-p-eq256.false (omega arith), c.inverse_mod.ensures.1)
