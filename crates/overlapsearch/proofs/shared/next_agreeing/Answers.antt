-- `next_agreeing` is `next_agreeing`. The loop's invariant: the numbers from k on say what those from n on say.
use mathlib.Core.Path.{sym, ◌∙◌}
use native.Mathlib.Omega.{arith}
use Rattle.overlapsearch.proofs.PassedOver.{agreeing_here, agreeing_later, agreeing_end}
use Rattle.overlapsearch.proofs.shared.next_agreeing.Goals as goal

pub returns-then-two_same : goal.returns-then-two_same
returns-then-two_same c =
    sym (agreeing_here _ _ _ c.loop-k.k (omega arith) (sym c.two_same.ensures ∙ c.if-two_same.true)) ∙ c.loop-k.invariant

pub loop-k-preserved : goal.loop-k-preserved
loop-k-preserved c =
    agreeing_later _ _ _ c.loop-k.k (omega arith) (sym c.two_same.ensures ∙ c.if-two_same.false) ∙ c.loop-k.invariant

pub returns : goal.returns
returns c =
    sym (agreeing_end _ _ _ c.loop-k.k (omega arith)) ∙ c.loop-k.invariant
