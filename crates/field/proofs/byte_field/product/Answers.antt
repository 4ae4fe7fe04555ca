-- `product` adds logarithms: below 255 the sum is that of the product, and from 255 on it is 255 too much.
use native.Mathlib.Omega.{arith}
use Rattle.field.proofs.ByteField.{product-zero-left, product-zero-right, product-low, product_high}
use Rattle.field.proofs.byte_field.product.Goals as goal
use Rattle.field.proofs.byte_field.product.Goals.{then-a-eq0-via-then-a-eq0, then-a-eq0-via-else-a-eq0+then-b-eq0}

pub returns-then-a-eq0 : goal.returns-then-a-eq0
returns-then-a-eq0 c = elim c.then-a-eq0.branch [
  | then-a-eq0-via-then-a-eq0 z ↦ (product-zero-left _ _ (omega arith) (omega arith) z.if-a-eq0.true, omega arith)
  | then-a-eq0-via-else-a-eq0+then-b-eq0 z ↦ (product-zero-right _ _ (omega arith) (omega arith) z.if-b-eq0.true, omega arith)
]

pub returns-then-i-lt255 : goal.returns-then-i-lt255
returns-then-i-lt255 c =
    let sum = c.logarithm_sum-i.ensures in (
      product-low _ _ (omega arith) (omega arith) (omega arith) (omega arith) sum.0 c.if-i-lt255.true c.power.ensures.0,
      c.power.ensures.1,
    )

pub returns : goal.returns
returns c =
    let sum = c.logarithm_sum-i.ensures in (
      product_high _ _ (omega arith) (omega arith) (omega arith) (omega arith) sum.0 c.if-i-lt255.false (omega (arith, sum.1)) c.power-2.ensures.0,
      c.power-2.ensures.1,
    )
