-- `put_row` packs the word and stores three entries.
use Prim.Native.Nat.{◌+◌, ◌*◌}
use native.Mathlib.Omega.{arith}
use lib.ListN.{take, drop}
use Rattle.lists.proofs.Parts.{part_length}
use Rattle.table.specs.Table.{key_in}
use Rattle.tabulating.proofs.RowEntries.{row-stored}
use Rattle.tabulating.proofs.rows.put_row.Goals as goal

pub returns : goal.returns
returns c =
    let a = c.args in
    let size = c.requires.t_len.0 in
    let few = c.requires.t_len.2 in
    row-stored (key_in a.t.now) a.c a.n (take a.n (drop a.from a.text.now)) (352 + 3 * a.i) a.t.now _ _ _ (omega arith)
    (part_length a.from a.n a.text.now c.requires.n_in_bounds.0) c.joined-x.ensures c.pack_word-z.ensures.value.0 c.pack_word-z.ensures.dst_after
