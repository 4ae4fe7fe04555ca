-- `number_len`: the digits counted and those of what is left of the number are all.
use native.Mathlib.Omega.{arith}
use borrow.Author.Rules.{rules}
use Rattle.text.proofs.Decimal.{length_more, length-digit}
use Rattle.textwriting.proofs.write.number_len.Goals as goal

pub loop-m-preserved : goal.loop-m-preserved
loop-m-preserved c = (search rules, omega (arith, length_more c.loop-m.m (search rules), c.loop-m.invariant.1))

pub returns : goal.returns
returns c = omega (arith, length-digit c.loop-m.m (search rules), c.loop-m.invariant.1)
