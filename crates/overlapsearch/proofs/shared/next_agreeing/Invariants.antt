use mathlib.Core.Path.{◌≡◌}
use Prim.Native.Nat.{◌-◌}
use Rattle.overlapsearch.specs.Position.{next_agreeing}
use Rattle.overlapsearch.proofs.shared.next_agreeing.Given as goal

abbrev pub invariant-loop-k : goal.invariant-loop-k
invariant-loop-k l = next_agreeing l.u l.v l.k (l.most - l.k) ≡ next_agreeing l.u l.v l.n (l.most - l.n)
