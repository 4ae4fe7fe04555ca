use Prim.Native.Nat.{◌-◌}
use Rattle.tabulating.specs.Filled.{Filled}
use Rattle.tabulating.proofs.sections.put_falling.Given as goal

abbrev pub invariant-loop-k : goal.invariant-loop-k
invariant-loop-k l = Filled l.a l.k (λ i. l.x - i) l.initial.t l.t
