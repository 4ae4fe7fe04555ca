use lib.ListN.{take}
use Rattle.packedwords.specs.Packed.{unpacked}
use Rattle.packing.proofs.Filling.{Filled}
use Rattle.packing.proofs.part.left_part.Given as goal

abbrev pub invariant-loop-j : goal.invariant-loop-j
invariant-loop-j l = Filled (take l.i (unpacked l.m l.src)) l.j l.dst
