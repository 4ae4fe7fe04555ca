use mathlib.Core.List.{List}
use Rattle.words.specs.Word.{Word}
use Rattle.leads.specs.CodeIndex.{CodeIndexed}
use Rattle.packedsteps.specs.Search.{codes_at, NoneBetween}
use Rattle.packedsteps.proofs.search.find_target.Given as goal

abbrev pub invariant-loop-k : goal.invariant-loop-k
invariant-loop-k l = (ls : List Word) → CodeIndexed ls l.index → NoneBetween ls (codes_at l.f) l.from l.k
