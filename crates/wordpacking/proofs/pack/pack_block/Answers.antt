-- `pack_block` is 0 where there is no letter, and else what `pack_some` packs.
use Rattle.table.specs.Table.{code_in}
use Rattle.wordpacking.proofs.Letters.{block_of_none}
use Rattle.wordpacking.proofs.pack.pack_block.Goals as goal

pub returns-then-r-eq0 : goal.returns-then-r-eq0
returns-then-r-eq0 c =
    let a = c.args in
    block_of_none (code_in a.t.now) a.text.now a.at a.r c.requires.0 c.if-r-eq0.true
