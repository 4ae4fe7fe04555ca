-- `pack_long` packs block after block. The invariant: the first j blocks are those of the word.
use mathlib.Core.Path.{◌≡◌, ◌∙◌}
use Prim.Native.Nat.{◌-◌, ◌*◌, min}
use Rattle.table.specs.Table.{code_in}
use Rattle.wordpacking.proofs.KeyedWords.{size-even}
use Rattle.wordpacking.proofs.Letters.{block_of_text}
use Rattle.packing.proofs.Filling.{first-none, first_more, first-packed}
use borrow.Author.Rules.{rules}
use Rattle.wordpacking.proofs.pack.pack_long.Goals as goal

pub loop-j-init : goal.loop-j-init
loop-j-init c = first-none _ c.args.dst.now c.requires.all.1

pub loop-j-preserved : goal.loop-j-preserved
loop-j-preserved c =
    let a = c.args in
    let f = code_in a.t.now in
    let j = c.loop-j.j in
    let first : c.min-i.result ≡ min (12 * j) a.n = search rules in
    let many : c.min-r.result ≡ min (a.n - c.min-i.result) 12 = search rules in
    let block = c.pack_block.ensures
    ∙ block_of_text f a.text.now a.from a.n (12 * j) _ _ c.requires.keys.1 first many in
    first_more _ j _ _ c.loop-j.invariant c.loop-j-test.true block

pub returns : goal.returns
returns c =
    let a = c.args in
    let six : c.loop-j.j ≡ 6 = search rules in record {
      value = c.even_size.ensures ∙ size-even a.t.now c.requires.keys.0 a.text.now a.from a.n c.requires.keys.1 c.requires.all.0;
      dst_after = first-packed _ c.loop-j.j _ c.loop-j.invariant six;
    }
