use lib.ListN.{drop}
use Rattle.packedwords.specs.Packed.{unpacked}
use Rattle.packing.proofs.Filling.{Filled}
use Rattle.packing.proofs.part.right_part.Given as goal

abbrev pub invariant-loop-j : goal.invariant-loop-j
invariant-loop-j l = Filled (drop l.i (unpacked l.m l.src)) l.j l.dst
