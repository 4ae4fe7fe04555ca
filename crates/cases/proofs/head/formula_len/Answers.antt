-- `formula_len`: five digits say at most 99,999.
use native.Mathlib.Omega.{arith}
use Rattle.cases.specs.HeadLine.{formula_said}
use Rattle.cases.proofs.SaidNumbers.{five_said}
use Rattle.cases.proofs.head.formula_len.Goals as goal

pub returns : goal.returns
unfolding formula_said
returns c = (c.number_said.ensures, omega (arith, c.number_said.ensures, five_said c.args.head.now 64))
