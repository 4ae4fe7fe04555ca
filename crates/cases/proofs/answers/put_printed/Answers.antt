-- `put_printed`: the line, and behind it what the program prints.
use Prim.Native.Nat.{◌≤◌}
use native.Mathlib.Omega.{arith}
use lib.ListN.{length, length-take}
use Rattle.cases.proofs.AnswerStores.{printed_stored}
use borrow.Author.Rules.{rules}
use Rattle.cases.proofs.answers.put_printed.Goals as goal

pub put_bytes-requires : goal.put_bytes-requires
put_bytes-requires c =
    omega (arith, length-take c.print_into-n.result c.print_into-n.new.out, c.print_into-n.ensures.value)

pub returns : goal.returns
returns c =
    let n = c.print_into-n.result in
    let b : c.put_bytes.result ≤ length c.args.text.now = omega (arith, length-take n c.print_into-n.new.out, c.print_into-n.ensures.value.1, c.put_bytes-end.ensures.value, c.put_bytes.ensures.value, c.requires) in
    let e = printed_stored c.args.text.now _ _ c.args.at _ _ n _ _ c.args.«package».now c.print_into-n.ensures.value.0 c.print_into-n.ensures.value.1 (search rules) c.print_into-n.ensures.out_after (c.put_bytes-end.ensures.value, c.put_bytes-end.ensures.out_after) (c.put_bytes.ensures.value, c.put_bytes.ensures.out_after) in
    record {
      value = (e.0, b);
      text_after = e.1;
    }
