-- `is_same`: what is left of the two slices is the same or not as the whole.
use mathlib.Core.Path.{sym, ◌∙◌}
use native.Mathlib.Omega.{arith}
use Rattle.text.proofs.Bytewise.{same_here, same_not, same_end, same-lengths}
use Rattle.text.proofs.bytes.is_same.Goals as goal

pub returns-then-a-b : goal.returns-then-a-b
returns-then-a-b c = sym (same-lengths _ _ c.if-a-b.true)

pub returns-then-a-i : goal.returns-then-a-i
returns-then-a-i c =
    sym (sym c.loop-i.invariant.1 ∙ same_not _ _ c.loop-i.i (omega arith) (omega arith) c.if-a-i.true)

pub loop-i-preserved : goal.loop-i-preserved
loop-i-preserved c =
    (omega arith, same_here _ _ c.loop-i.i (omega arith) (omega arith) c.if-a-i.false ∙ c.loop-i.invariant.1)

pub returns : goal.returns
returns c =
    sym (sym c.loop-i.invariant.1 ∙ same_end _ _ c.loop-i.i (omega arith) (omega arith))
