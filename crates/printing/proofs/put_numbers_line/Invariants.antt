use mathlib.Core.Path.{◌≡◌}
use Prim.Native.Nat.{◌+◌}
use lib.ListN.{length, drop}
use lib.Seq.{sets}
use Rattle.printing.specs.Printed.{numbers_line}
use Rattle.printing.proofs.put_numbers_line.Given as goal

abbrev pub invariant-loop-n : goal.invariant-loop-n
invariant-loop-n l =
    (l.o + length (numbers_line (drop l.n-index l.ns)) ≡ l.at + length (numbers_line l.ns)) × (sets l.out l.o (numbers_line (drop l.n-index l.ns)) ≡ sets l.initial.out l.at (numbers_line l.ns)) × (length l.out ≡ length l.initial.out)
