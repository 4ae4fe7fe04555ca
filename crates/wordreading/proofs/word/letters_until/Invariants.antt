use mathlib.Core.Path.{◌≡◌}
use Prim.Native.Nat.{◌+◌}
use lib.ListN.{drop}
use Rattle.text.specs.Bytes.{all_within}
use Rattle.text.specs.Pieces.{stop}
use Rattle.fieldreading.proofs.Fronts.{front}
use Rattle.wordreading.proofs.word.letters_until.Given as goal

abbrev pub invariant-loop-i : goal.invariant-loop-i
invariant-loop-i g l =
    (l.i + stop g.row.END (drop l.i l.s) ≡ l.at + stop g.row.END (drop l.at l.s)) ×
    (all_within 97 122 (front g.row.END (drop l.i l.s)) ≡ all_within 97 122 (front g.row.END (drop l.at l.s)))
