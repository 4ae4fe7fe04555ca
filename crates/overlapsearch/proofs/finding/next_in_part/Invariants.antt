use Prim.Native.Nat.{◌+◌, ◌-◌, ◌*◌}
use Rattle.overlapsearch.proofs.Searching.{Searching}
use Rattle.overlapsearch.proofs.finding.next_in_part.Given as goal

abbrev pub invariant-loop-c : goal.invariant-loop-c
invariant-loop-c g l = Searching l.words.starts.now l.words.lens.now l.words.bytes.now l.words.count l.initial.c l.c

abbrev pub decreases-loop-c : goal.decreases-loop-c
decreases-loop-c g l = 4096 - (l.c.first * 64 + l.c.second)
