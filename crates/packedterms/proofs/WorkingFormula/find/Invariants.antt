use mathlib.Core.Path.{◌≡◌}
use Prim.Native.Nat.{ℕ, ◌-◌, ◌≤◌, ◌<◌}
use Rattle.std.specs.declared.cmp.Ordering.TheVariants.{Less, Greater}
use Rattle.packedterms.specs.Finding.{standing}
use Rattle.packedterms.proofs.WorkingFormula.find.Given as goal

abbrev pub invariant-loop-lo : goal.invariant-loop-lo
invariant-loop-lo l =
    (l.lo ≤ l.hi)
    × (l.hi ≤ l.self.terms)
    × ((i : ℕ) → i < l.lo → standing l.word.blocks l.word.size l.self.sizes l.self.blocks l.self.places i ≡ Less)
    × (l.hi < l.self.terms → standing l.word.blocks l.word.size l.self.sizes l.self.blocks l.self.places l.hi ≡ Greater)

abbrev pub decreases-loop-lo : goal.decreases-loop-lo
decreases-loop-lo l = l.hi - l.lo
