use mathlib.Core.Path.{◌≡◌}
use mathlib.Core.List.{[]}
use Prim.Native.Nat.{◌+◌, ◌-◌, ◌≤◌}
use lib.ListN.{length, drop}
use Rattle.package.specs.Held.{above_of, held_terms, WordsInside}
use Rattle.package.specs.Terms.{start, block2}
use Rattle.text.specs.Pieces.{lines}
use Rattle.termreading.proofs.term_lines.read_terms.Given as goal

abbrev pub invariant-loop-h : goal.invariant-loop-h
invariant-loop-h l = record {
  in_text : l.at ≤ length l.s;
  line_bound : l.line ≤ l.at + 4;
  n_bound : l.n ≤ 1024;
  count_bound : l.last.count ≤ l.m.terms;
  last_inside : l.last.start + l.last.len ≤ length l.s;
  block : block2 l.h l.m (above_of l.s l.last) (held_terms l.s l.kinds l.items l.coefs l.starts l.lens l.n) l.line (lines (drop l.at l.s)) ≡ block2 l.h l.m start [] l.first (lines (drop l.from l.s));
  words : WordsInside l.s l.starts l.lens l.n;
}

abbrev pub decreases-loop-h : goal.decreases-loop-h
decreases-loop-h l = length l.s - l.at
