-- `append_long` puts a word behind another. The invariant: 12 * j letters are there, and the two blocks from block j on come next.
use mathlib.Core.Path.{refl, sym, ◌∙◌, ap}
use mathlib.Core.Logic.{inl, inr}
use mathlib.Core.List.{◌++◌, append-nil}
use Prim.Native.Nat.{◌+◌, ◌*◌, ◌/◌, ◌≤◌, ◌<◌}
use native.Mathlib.Omega.{arith}
use lib.ListN.{length}
use lib.Seq.{take_all}
use Rattle.words.specs.Word.{Word}
use Rattle.packedwords.specs.Packed.{unpacked}
use Rattle.packedwords.proofs.Packing.{unpacked-length}
use Rattle.packing.proofs.LongProducts.{two_blocks, long_more}
use Rattle.packing.proofs.product.append_long.Goals as goal

pub loop-left-init : goal.loop-left-init
loop-left-init c =
    (omega arith, omega arith, refl, omega arith, c.requires.n_bound.1, c.requires.packs.0, sym (append-nil (unpacked c.args.m c.args.dst.now)))

pub append-e-requires : goal.append-e-requires
append-e-requires c =
    let i = c.loop-left.invariant in
    let more = c.loop-left-test.true in
    let room : c.loop-left.j + 2 ≤ length c.args.src.now = omega (arith, i.1, i.2, i.3, more) in
    let t = two_blocks c.args.src.now c.args.n c.requires.packs.1 c.loop-left.j 24 room (omega arith) (omega (arith, i.1, more)) (inl refl) in
    record {
      n_bound = (omega (arith, i.0, i.1, more), omega arith, i.4, room);
      packs = (i.5, t.0);
    }

pub loop-left-preserved : goal.loop-left-preserved
loop-left-preserved c =
    let i = c.loop-left.invariant in
    let more = c.loop-left-test.true in
    let S = c.args.src.now in
    let room : c.loop-left.j + 2 ≤ length S = omega (arith, i.1, i.2, i.3, more) in
    let t = two_blocks S c.args.n c.requires.packs.1 c.loop-left.j 24 room (omega arith) (omega (arith, i.1, more)) (inl refl) in
    let a = c.append-e.ensures in
    let four : c.loop-left.j < 4 = omega (arith, i.1, more) in
    let half : c.loop-left.j / 2 ≤ 1 = omega arith in (
      omega (arith, a.value.0, i.0),
      omega (arith, i.1, more),
      omega (arith, i.2),
      omega (arith, i.2, half),
      a.value.1,
      a.value.2,
      long_more (unpacked c.args.m c.args.dst.now) (unpacked c.args.n S) c.loop-left.j _ _ _ i.6 a.dst_after t.1,
    )

pub append-requires : goal.append-requires
append-requires c =
    let i = c.loop-left.invariant in
    let end = c.loop-left-test.false in
    let room : c.loop-left.j + 2 ≤ length c.args.src.now = omega (arith, i.3) in
    let inside : 12 * c.loop-left.j + c.loop-left.left ≤ c.args.n = omega (arith, i.1) in
    let t = two_blocks c.args.src.now c.args.n c.requires.packs.1 c.loop-left.j c.loop-left.left room (omega (arith, end)) inside (inr i.1) in
    record {
      n_bound = (omega (arith, i.0, i.1), omega (arith, end), i.4, room);
      packs = (i.5, t.0);
    }

pub returns : goal.returns
returns c =
    let i = c.loop-left.invariant in
    let end = c.loop-left-test.false in
    let S = c.args.src.now in
    let u = unpacked c.args.m c.args.dst.now in
    let v = unpacked c.args.n S in
    let inside : 12 * c.loop-left.j + c.loop-left.left ≤ c.args.n = omega (arith, i.1) in
    let room : c.loop-left.j + 2 ≤ length S = omega (arith, i.3) in
    let t = two_blocks S c.args.n c.requires.packs.1 c.loop-left.j c.loop-left.left room (omega (arith, end)) inside (inr i.1) in
    let a = c.append.ensures in
    let size = unpacked-length c.args.n S in
    let whole = take_all (12 * (c.loop-left.j + 2)) v (omega (arith, size, i.1, end)) in record {
      value = (omega (arith, a.value.0, i.0, i.1), a.value.1, a.value.2);
      dst_after = long_more u v c.loop-left.j _ _ _ i.6 a.dst_after t.1 ∙ ap (λ (x : Word). u ++ x) whole;
    }
