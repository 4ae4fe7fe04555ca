-- `add` is the field's sum: in GF(256) bit by bit, and modulo p one subtraction of p brings the sum of two elements below p.
use native.Mathlib.Omega.{arith}
use Rattle.field.proofs.Reduced.{sum-small, sum_large, byte_sum_lem, byte_sum-lt}
use Rattle.field.proofs.arithmetic.add.Goals as goal

pub returns-then-p-eq256 : goal.returns-then-p-eq256
returns-then-p-eq256 c =
    let (_, a, b) = c.requires in
    (byte_sum_lem c.if-p-eq256.true _ _ a b, byte_sum-lt c.if-p-eq256.true _ _ a b)

pub returns-then-sum-p : goal.returns-then-sum-p
returns-then-sum-p c = (sum-small _ c.if-p-eq256.false _ _ c.if-sum-p.true, c.if-sum-p.true)

pub returns : goal.returns
returns c = (sum_large _ c.if-p-eq256.false _ _ c.if-sum-p.false (omega arith), omega arith)
