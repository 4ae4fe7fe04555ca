-- `judge_items` judges refusal 15. The loop's invariant: the lines left to look at give the verdict.
use mathlib.Core.Path.{refl, sym, ◌∙◌}
use Rattle.basis.specs.Answer.{verdict_of}
use Rattle.sumlines.proofs.AboveCount.{counted-first, left-above, left-next, left_end}
use Rattle.sumlines.proofs.item_lines.judge_items.Goals as goal

pub loop-next-init : goal.loop-next-init
loop-next-init c =
    let a = c.requires.from_in_bounds in
    record {
      some = a.2;
      low = a.0;
      small = a.1;
      inside = c.line_at-next.ensures.inside;
      held = c.line_at-next.ensures.by_index c.args.first (counted-first _ _ c.requires.counted);
      numbers = c.requires.counted;
      same = refl;
    }

pub returns-then-is_above : goal.returns-then-is_above
unfolding verdict_of
returns-then-is_above c =
    left-above _ _ _ _ _ _ (rw c.in-Some.is at c.loop-next.invariant) (sym c.is_above.ensures ∙ c.if-is_above.true)

pub loop-next-preserved : goal.loop-next-preserved
loop-next-preserved c =
    let read = c.line_at-next-in-Some.ensures in
    left-next _ _ _ _ _ _ (rw c.in-Some.is at c.loop-next.invariant) (sym c.is_above.ensures ∙ c.if-is_above.false) _ read.inside read.by_index

pub returns : goal.returns
unfolding verdict_of
returns c = left_end _ _ _ _ _ (rw c.in_default.is at c.loop-next.invariant)
