-- `put_first`: the part lent lies within the bytes.
use mathlib.Core.Path.{◌∙◌, ap, sym}
use native.Mathlib.Omega.{arith}
use lib.ListN.{length, length-take}
use lib.Seq.{sets, length-take-le, take_all}
use borrow.Author.Rules.{rules}
use Rattle.cases.proofs.outputs.put_first.Goals as goal

pub returns-then-b-n : goal.returns-then-b-n
returns-then-b-n c =
    let e = take_all c.args.n c.args.b.now (search rules) in
    record {
      value = (omega (arith, ap length e, c.put_bytes.ensures.value), omega (arith, c.put_bytes.ensures.value, c.requires));
      text_after = c.put_bytes.ensures.out_after ∙ ap (sets c.args.text.now c.args.at) (sym e);
    }

pub slice_bounds-put_bytes-end : goal.slice_bounds-put_bytes-end
slice_bounds-put_bytes-end c = sym (length-take-le _ _ (search rules))

pub put_bytes-requires-2 : goal.put_bytes-requires-2
put_bytes-requires-2 c =
    omega (arith, length-take c.args.n c.args.b.now, c.requires)

pub returns : goal.returns
returns c =
    record {
      value = (c.put_bytes-2.ensures.value, omega (arith, length-take c.args.n c.args.b.now, c.put_bytes-2.ensures.value, c.requires));
      text_after = c.put_bytes-2.ensures.out_after;
    }
