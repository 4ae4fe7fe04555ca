use mathlib.Core.Path.{◌≡◌}
use Rattle.packedwords.specs.Packed.{value}
use Rattle.table.specs.Table.{code_in}
use Rattle.wordpacking.proofs.Letters.{spelt}
use Rattle.wordpacking.proofs.pack.pack_letters.Given as goal

abbrev pub invariant-loop-b : goal.invariant-loop-b
invariant-loop-b l = l.x ≡ value (spelt (code_in l.t) l.text l.at) l.b-index
