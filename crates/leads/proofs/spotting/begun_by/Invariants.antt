use mathlib.Core.List.{List}
use Prim.Native.Nat.{◌+◌, ◌^◌, ◌<◌}
use Rattle.words.specs.Word.{Word}
use Rattle.packedwords.specs.Packed.{window_of}
use Rattle.leads.specs.CodeIndex.{CodeIndexed}
use Rattle.leads.specs.CodeSearch.{Fronted}
use Rattle.leads.proofs.Sliding.{Ahead}
use Rattle.leads.proofs.CodeSieve.{CodeSieve}
use Rattle.leads.proofs.spotting.begun_by.Given as goal

abbrev pub invariant-loop-k : goal.invariant-loop-k
invariant-loop-k l =
    (l.v < 2 ^ 60)
    × ((u : Word) → Fronted u l.x (window_of l.word (l.i + 12)) → Ahead u l.k l.v)
    × ((ls : List Word) (u : Word) → CodeIndexed ls l.index → Fronted u l.x (window_of l.word (l.i + 12)) → CodeSieve ls u l.k l.left l.begun)
