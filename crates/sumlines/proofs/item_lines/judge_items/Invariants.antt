use Prim.Native.Nat.{◌-◌}
use lib.ListN.{length}
use Rattle.acceptance.specs.Check.{items_judged}
use Rattle.sumlines.specs.Lines.{sums_at}
use Rattle.sumlines.proofs.AboveCount.{ItemsLeft}
use Rattle.sumlines.proofs.item_lines.judge_items.Given as goal

abbrev pub invariant-loop-next : goal.invariant-loop-next
invariant-loop-next l = ItemsLeft l.bytes l.count (items_judged l.count (sums_at l.bytes l.from l.first)) l.at l.line l.next

abbrev pub decreases-loop-next : goal.decreases-loop-next
decreases-loop-next l = length l.bytes - l.at
