use mathlib.Core.List.{map}
use lib.ListN.{take, drop}
use Rattle.table.specs.Table.{code_in}
use Rattle.packing.proofs.Filling.{FirstBlocks}
use Rattle.wordpacking.proofs.pack.pack_long.Given as goal

abbrev pub invariant-loop-j : goal.invariant-loop-j
invariant-loop-j l = FirstBlocks (map (code_in l.t) (take l.n (drop l.from l.text))) l.j l.dst
