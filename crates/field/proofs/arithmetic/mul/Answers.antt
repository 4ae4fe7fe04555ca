-- `mul` is the field's product: in GF(256) through the tables, and modulo p of two numbers below 65,536, whose product fits 32 bits.
use native.Mathlib.Nat.{mod-lt}
use native.Mathlib.Omega.{arith}
use Rattle.field.proofs.Reduced.{product-fits, product-mod, byte_product}
use Rattle.field.proofs.arithmetic.mul.Goals as goal

pub returns-then-p-eq256 : goal.returns-then-p-eq256
returns-then-p-eq256 c = (byte_product c.if-p-eq256.true _ _ c.product.ensures.0, omega arith)

pub overflow_mul-result : goal.overflow_mul-result
overflow_mul-result c = record { fits = product-fits _ _ (omega arith) (omega arith) }

pub returns : goal.returns
returns c = (product-mod _ c.if-p-eq256.false _ _, mod-lt _ (omega arith))
