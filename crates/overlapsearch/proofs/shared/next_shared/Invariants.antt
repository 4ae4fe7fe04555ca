use mathlib.Core.Path.{◌≡◌}
use Prim.Native.Nat.{◌-◌}
use Rattle.overlaps.specs.Overlaps.{shares}
use Rattle.overlapsearch.specs.Position.{next_passing}
use Rattle.overlapsearch.proofs.shared.next_shared.Given as goal

abbrev pub invariant-loop-n : goal.invariant-loop-n
invariant-loop-n l = next_passing (shares l.u l.v) l.n (l.most - l.n) ≡ next_passing (shares l.u l.v) l.s (l.most - l.s)

abbrev pub decreases-loop-n : goal.decreases-loop-n
decreases-loop-n l = l.most - l.n
