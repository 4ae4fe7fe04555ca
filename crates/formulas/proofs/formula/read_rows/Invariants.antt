use mathlib.Core.Path.{◌≡◌}
use mathlib.Core.List.{[]}
use Prim.Native.Nat.{◌+◌, ◌-◌, ◌≤◌}
use lib.ListN.{length, drop}
use Rattle.package.specs.Formula.{rows}
use Rattle.package.specs.Held.{rows_held, WordsInside}
use Rattle.text.specs.Pieces.{lines, part}
use Rattle.formulas.proofs.formula.read_rows.Given as goal

abbrev pub invariant-loop-at : goal.invariant-loop-at
invariant-loop-at l = record {
  in_text : l.at ≤ length l.s;
  line_bound : l.line ≤ l.at + 1;
  n_bound : l.n ≤ l.m.terms;
  last_inside : l.start + l.len ≤ length l.s;
  rest : rows l.p l.letters l.m (part l.s l.start l.len) (rows_held l.s l.coefs l.starts l.lens l.n) l.line (lines (drop l.at l.s)) ≡ rows l.p l.letters l.m [] [] 2 (lines (drop l.from l.s));
  words : WordsInside l.s l.starts l.lens l.n;
}

abbrev pub decreases-loop-at : goal.decreases-loop-at
decreases-loop-at l = length l.s - l.at
