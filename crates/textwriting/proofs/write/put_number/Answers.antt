-- `put_number`: storing the digits of what is left of the number gives what storing all gives; the digits behind them are stored.
use mathlib.Core.Path.{◌∙◌}
use native.Mathlib.Omega.{arith}
use borrow.Author.Rules.{rules}
use Rattle.text.proofs.Decimal.{length_more, length_some, digit-stored, one_digit-stored}
use Rattle.textwriting.proofs.write.put_number.Goals as goal

pub overflow_sub-o : goal.overflow_sub-o
overflow_sub-o c = omega (arith, length_some c.loop-m.m)

pub bounds-out-o : goal.bounds-out-o
bounds-out-o c = omega (arith, length_some c.loop-m.m)

pub loop-m-preserved : goal.loop-m-preserved
loop-m-preserved c = (
  search rules,
  omega (arith, length_more c.loop-m.m (search rules)),
  search rules,
  omega (arith, length_some c.loop-m.m),
  digit-stored c.loop-m.out _ c.loop-m.o c.loop-m.m _ (search rules) c.loop-m.invariant.1 c.last_digit.ensures ∙ c.loop-m.invariant.4,
)

pub bounds-out-at : goal.bounds-out-at
bounds-out-at c = omega (arith, length_some c.loop-m.m)

pub returns : goal.returns
returns c =
    record {
      value = c.loop-m.invariant.2;
      out_after = one_digit-stored c.loop-m.out _ c.loop-m.m _ (search rules) c.last_digit-2.ensures ∙ c.loop-m.invariant.4;
    }
