use mathlib.Core.Path.{◌≡◌}
use Prim.Native.Nat.{◌+◌, ◌≤◌}
use lib.ListN.{length}
use lib.Seq.{sets}
use Rattle.text.specs.Number.{write_number}
use Rattle.textwriting.proofs.write.put_number.Given as goal

abbrev pub invariant-loop-m : goal.invariant-loop-m
invariant-loop-m l =
    (length l.out ≡ length l.initial.out)
    × (l.o ≡ l.at + length (write_number l.m))
    × (l.end ≡ l.at + length (write_number l.n))
    × (l.o ≤ l.end)
    × (sets l.out l.at (write_number l.m) ≡ sets l.initial.out l.at (write_number l.n))

abbrev pub decreases-loop-m : goal.decreases-loop-m
decreases-loop-m l = l.m
