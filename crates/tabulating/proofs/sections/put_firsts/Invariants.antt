use lib.ListN.{get_or}
use Rattle.tabulating.specs.Filled.{Filled}
use Rattle.tabulating.proofs.sections.put_firsts.Given as goal

abbrev pub invariant-loop-j : goal.invariant-loop-j
invariant-loop-j l = Filled 208 l.j (λ i. get_or l.firsts i 0) l.initial.t l.t
