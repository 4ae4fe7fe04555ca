use mathlib.Core.Path.{◌≡◌}
use Prim.Native.Nat.{◌-◌}
use Rattle.overlaps.specs.Overlaps.{placing}
use Rattle.overlapsearch.specs.Position.{next_passing}
use Rattle.overlapsearch.proofs.inside.next_inside.Given as goal

abbrev pub invariant-loop-n : goal.invariant-loop-n
invariant-loop-n l = next_passing (placing.passes l.u l.v) l.n (l.most - l.n) ≡ next_passing (placing.passes l.u l.v) l.s (l.most - l.s)
