use Rattle.tabulating.specs.Filled.{Filled}
use Rattle.tabulating.specs.Leading.{inverse_entry}
use Rattle.tabulating.proofs.sections.put_inverses.Given as goal

abbrev pub invariant-loop-g : goal.invariant-loop-g
invariant-loop-g l = Filled 80 l.g (inverse_entry l.p l.coefs l.firsts l.base) l.initial.t l.t
