-- `pack_short` packs two blocks: twelve letters, and those behind them.
use mathlib.Core.Path.{sym, ◌∙◌, ap}
use mathlib.Core.List.{map}
use Prim.Native.Nat.{ℕ, ◌-◌}
use native.Mathlib.Nat.{add-zero}
use native.Mathlib.Omega.{arith}
use lib.ListN.{take, drop, length-map}
use Rattle.lists.proofs.Parts.{part_length}
use Rattle.packedwords.specs.Packed.{window}
use Rattle.table.specs.Table.{code_in}
use Rattle.wordpacking.proofs.KeyedWords.{size-even}
use Rattle.wordpacking.proofs.Letters.{block_of_text}
use Rattle.wordpacking.proofs.WordBlocks.{short-packed}
use Rattle.wordpacking.proofs.pack.pack_short.Goals as goal

pub returns : goal.returns
returns c =
    let a = c.args in
    let f = code_in a.t.now in
    let x = a.text.now in
    let w = take a.n (drop a.from x) in
    let r = c.min-r.result in
    let m = c.min-r.ensures in
    let size = length-map w f ∙ part_length a.from a.n x c.requires.keys.1 in
    let u = c.pack_block-first.ensures ∙ ap (λ (k : ℕ). window (map f (take r (drop k x))) 0) (sym (add-zero a.from))
    ∙ block_of_text f x a.from a.n 0 0 r c.requires.keys.1 (omega arith) (omega arith) in
    let v = c.pack_block-second.ensures
    ∙ block_of_text f x a.from a.n 12 r (a.n - r) c.requires.keys.1 (omega arith) (omega arith) in record {
      value = c.even_size.ensures ∙ size-even a.t.now c.requires.keys.0 x a.from a.n c.requires.keys.1 c.requires.all.0;
      dst_after = short-packed (map f w) _ _ (omega arith) u v;
    }
