-- `mark_rows` does the rows of one word. The invariant: its first k rows are done.
use mathlib.Core.Path.{◌≡◌, refl}
use Prim.Native.Nat.{◌*◌}
use native.Mathlib.Nat.{add-zero}
use native.Mathlib.Omega.{arith}
use lib.ListN.{length-set}
use Rattle.table.specs.Table.{blocks_in}
use Rattle.leads.proofs.CodeMarks.{code_marked, code-ended}
use Rattle.leads.proofs.indexing.mark_rows.Goals as goal

pub loop-k-init : goal.loop-k-init
loop-k-init c = (c.requires.index_len, λ ls p e h. rw (add-zero (c.args.g * 25)) h)

pub loop-k-preserved : goal.loop-k-preserved
loop-k-preserved c =
    let m = c.loop-k in
    let t = c.loop-k-test.true in
    let x = c.code_in-x.ensures in
    let bs = blocks_in c.args.t.now c.args.i in (
      rw (c.mark.ensures, length-set) m.invariant.0,
      λ ls p e h.
          rw c.mark.ensures (code_marked bs c.args.n c.args.g m.k e c.requires.i_bound.1 (m.invariant.1 ls p e h) t x.0 x.1),
    )

pub returns : goal.returns
returns c =
    let m = c.loop-k in
    let bs = blocks_in c.args.t.now c.args.i in
    let l : m.k ≡ c.args.n = omega arith in record {
      index_len_2 = rw (c.mark-2.ensures, length-set) m.invariant.0;
      code_rows_done = λ ls p e h.
          rw c.mark-2.ensures (code-ended bs c.args.n c.args.g c.args.n e c.requires.i_bound.1 (rw l at (m.invariant.1 ls p e h)) refl);
    }
