-- `neg` is the field's opposite: in GF(256) every element is its own.
use native.Mathlib.Omega.{arith}
use Rattle.field.proofs.Reduced.{neg-zero, neg-some, byte_neg}
use Rattle.field.proofs.arithmetic.neg.Goals as goal

pub returns-then-p-eq256 : goal.returns-then-p-eq256
returns-then-p-eq256 c = (byte_neg c.if-p-eq256.true _ c.requires.1, c.requires.1)

pub returns-then-a-eq0 : goal.returns-then-a-eq0
returns-then-a-eq0 c = (neg-zero _ c.if-p-eq256.false _ c.if-a-eq0.true (omega arith), omega arith)

pub returns : goal.returns
returns c = (neg-some _ c.if-p-eq256.false _ (omega arith) (omega arith), omega arith)
