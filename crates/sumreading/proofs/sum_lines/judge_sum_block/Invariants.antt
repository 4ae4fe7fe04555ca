use mathlib.Core.Path.{◌≡◌}
use Prim.Native.Nat.{◌+◌, ◌-◌, ◌≤◌}
use lib.ListN.{length, drop}
use Rattle.package.specs.Sums.{block3}
use Rattle.text.specs.Pieces.{lines}
use Rattle.sumreading.proofs.sum_lines.judge_sum_block.Given as goal

abbrev pub invariant-loop-at : goal.invariant-loop-at
invariant-loop-at l = record {
  in_text : l.at ≤ length l.s;
  line_bound : l.line ≤ l.at + 4;
  block : block3 l.h l.m l.kind l.item l.line (lines (drop l.at l.s)) ≡ block3 l.h l.m 0 0 l.first (lines (drop l.from l.s));
}

abbrev pub decreases-loop-at : goal.decreases-loop-at
decreases-loop-at l = length l.s - l.at
