-- `mark_pairs` marks the pairs that a word may open.
use native.Mathlib.Omega.{arith}
use Rattle.packedwords.specs.Packed.{unpacked}
use Rattle.table.specs.Table.{blocks_in}
use Rattle.leads.proofs.Pairs.{pairs_one, pairs_two}
use Rattle.leads.proofs.indexing.mark_pairs.Goals as goal

pub returns-then-n-eq0 : goal.returns-then-n-eq0
returns-then-n-eq0 c =
    c.mark_all_pairs.ensures (unpacked c.args.n (blocks_in c.args.t.now c.args.i))

pub returns-then-n-eq1 : goal.returns-then-n-eq1
returns-then-n-eq1 c =
    let x = c.code_in-c.ensures in
    pairs_one c.args.index.now (blocks_in c.args.t.now c.args.i) c.args.n c.requires.index_len x.0 x.1 c.if-n-eq1.true

pub returns : goal.returns
returns c =
    let x = c.code_in-c.ensures in
    let y = c.code_in-d.ensures in
    let a = c.if-n-eq1.false in
    let b = c.if-n-eq0.false in
    rw c.mark.ensures
    (pairs_two c.args.index.now (blocks_in c.args.t.now c.args.i) c.args.n c.requires.index_len x.0 x.1 (omega arith) y.0)
