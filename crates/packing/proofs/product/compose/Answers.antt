-- `compose` is left × word × right: the third word is put behind the product of the first two, in the way that its letters ask.
use mathlib.Core.Path.{sym, ◌∙◌, ap}
use native.Mathlib.Omega.{arith}
use lib.ListN.{take, drop}
use Rattle.words.specs.Word.{Word, around}
use Rattle.packedwords.specs.Packed.{unpacked}
use Rattle.packedwords.proofs.Blocks.{packs-narrow}
use Rattle.packing.proofs.LongProducts.{append-none, product_of_three}
use Rattle.packing.proofs.product.compose.Goals as goal

pub returns-then-b-eq0 : goal.returns-then-b-eq0
returns-then-b-eq0 c =
    let two = c.begin_with-e.ensures in
    let l = unpacked c.args.a c.args.left.now in
    let w = unpacked c.args.n (take 2 (drop c.args.from c.args.word.now)) in
    let r = unpacked c.args.b c.args.right.now in record {
      value = (omega (arith, two.value.0, c.if-b-eq0.true), two.value.1, two.value.2);
      dst_after = product_of_three l w r _ _ two.dst_after (sym (append-none _ c.args.b c.args.right.now c.if-b-eq0.true));
    }

pub append-requires : goal.append-requires
append-requires c =
    let two = c.begin_with-e.ensures in
    let short = packs-narrow c.args.b c.args.right.now c.requires.packs.2 2 (omega arith) (omega (arith, c.if-b-le24.true)) in
    record {
      n_bound = (omega (arith, two.value.0), omega (arith, c.if-b-le24.true), two.value.1, omega arith);
      packs = (two.value.2, short.0);
    }

pub returns-then-b-le24 : goal.returns-then-b-le24
returns-then-b-le24 c =
    let two = c.begin_with-e.ensures in
    let three = c.append.ensures in
    let short = packs-narrow c.args.b c.args.right.now c.requires.packs.2 2 (omega arith) (omega (arith, c.if-b-le24.true)) in
    let l = unpacked c.args.a c.args.left.now in
    let w = unpacked c.args.n (take 2 (drop c.args.from c.args.word.now)) in
    let r = unpacked c.args.b (take 2 c.args.right.now) in record {
      value = (omega (arith, two.value.0, three.value.0), three.value.1, three.value.2);
      dst_after = product_of_three l w r _ _ two.dst_after three.dst_after ∙ ap (λ (x : Word). around l x w) short.1;
    }

pub returns : goal.returns
returns c =
    let two = c.begin_with-e.ensures in
    let three = c.append_long.ensures in
    let l = unpacked c.args.a c.args.left.now in
    let w = unpacked c.args.n (take 2 (drop c.args.from c.args.word.now)) in
    let r = unpacked c.args.b c.args.right.now in record {
      value = (omega (arith, two.value.0, three.value.0), three.value.1, three.value.2);
      dst_after = product_of_three l w r _ _ two.dst_after three.dst_after;
    }
