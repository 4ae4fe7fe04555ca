-- `pack_some` packs r letters, or twelve letters and cuts off those behind the r.
use mathlib.Core.Path.{◌∙◌, ap}
use Prim.Native.Nat.{ℕ}
use lib.ListN.{take, drop}
use Rattle.packedwords.specs.Packed.{front}
use Rattle.table.specs.Table.{code_in}
use Rattle.wordpacking.proofs.KeyedWords.{codes-low}
use Rattle.wordpacking.proofs.Letters.{block_of_front}
use Rattle.wordpacking.proofs.pack.pack_some.Goals as goal

pub returns : goal.returns
returns c =
    let a = c.args in
    let twelve = take 12 (drop a.at a.text.now) in
    c.front.ensures ∙ ap (λ (x : ℕ). front x a.r) c.pack_letters-2.ensures
    ∙ block_of_front (code_in a.t.now) a.text.now a.at a.r (codes-low a.t.now twelve) c.requires.1
