-- `put_output`: the line of five numbers, and behind it the bytes written.
use Prim.Native.Nat.{◌≤◌}
use native.Mathlib.Omega.{arith}
use lib.ListN.{length}
use Rattle.cases.proofs.AnswerStores.{five_numbers_length, output-stored}
use Rattle.cases.proofs.outputs.put_output.Goals as goal

pub put_numbers_line-end-requires : goal.put_numbers_line-end-requires
put_numbers_line-end-requires c =
    let t = c.ranges in
    omega (arith, five_numbers_length c.args.count c.args.written c.count_kept-kept.result t.count.fits t.written.fits c.count_kept-kept.type_inv c.args.number c.args.place t.number.fits t.place.fits, c.requires)

pub put_first-requires : goal.put_first-requires
put_first-requires c =
    let t = c.ranges in
    omega (arith, five_numbers_length c.args.count c.args.written c.count_kept-kept.result t.count.fits t.written.fits c.count_kept-kept.type_inv c.args.number c.args.place t.number.fits t.place.fits, c.requires, c.put_numbers_line-end.ensures.value)

pub returns : goal.returns
returns c =
    let b : c.put_first.result ≤ length c.args.text.now = omega (arith, c.put_first.ensures.value.1) in
    let o = output-stored _ _ _ _ _ _ c.args.number c.args.place c.args.count c.args.written _ c.args.out.now c.count_kept-kept.ensures (c.put_numbers_line-end.ensures.value, c.put_numbers_line-end.ensures.out_after) (c.put_first.ensures.value.0, c.put_first.ensures.text_after) in
    record {
      value = (o.0, b);
      text_after = o.1;
    }
