-- `left_part` puts the first letters. The loop's invariant: the first j blocks are those of the part, and zeros follow.
use mathlib.Core.Path.{◌≡◌, refl, ◌∙◌, ap}
use Prim.Native.Nat.{◌-◌, ◌*◌, ◌≤◌}
use native.Mathlib.Omega.{arith}
use lib.ListN.{get_or, take, replicate}
use lib.Seq.{length-take-le}
use Rattle.packedwords.specs.Packed.{front, unpacked}
use Rattle.packedwords.proofs.Packing.{unpacked-codes, unpacked-length}
use Rattle.packedwords.proofs.Parts.{codes-take, left-block}
use Rattle.packing.proofs.Filling.{filled_none, filled_more, filled_packs, two_filled}
use Rattle.packing.proofs.part.left_part.Goals as goal

pub returns-then-m-le24 : goal.returns-then-m-le24
returns-then-m-le24 c =
    let m = c.args.m in
    let i = c.args.i in
    let S = c.args.src.now in
    let w = unpacked m S in
    let short : i ≤ 24 = omega (arith, c.if-m-le24.true) in
    let size = length-take-le i w (omega (arith, unpacked-length m S)) in
    let none : i ≡ i - 12 * 0 = omega arith in
    let first = c.front.ensures ∙ ap (front (get_or S 0 0)) none ∙ left-block m S c.requires.packs i 0 in
    let second = c.front-then-m-le24.ensures ∙ ap (front (get_or S 1 0)) c.saturating_sub.ensures ∙ left-block m S c.requires.packs i 1 in
    let p = two_filled (take i w) i _ _ (replicate 6 0) refl (codes-take i w (unpacked-codes m S)) size short first second in
    record {
      dst_len = (p.0, p.1);
      dst_after = p.2;
    }

pub loop-j-init : goal.loop-j-init
loop-j-init c = filled_none _ _ refl

pub loop-j-preserved : goal.loop-j-preserved
loop-j-preserved c =
    let j = c.loop-j.j in
    let block = c.front-in-loop-j.ensures ∙ left-block c.args.m c.args.src.now c.requires.packs c.args.i j in
    filled_more _ j _ _ c.loop-j.invariant (omega (arith, c.div_ceil-j-end.ensures, c.loop-j-test.true)) block

pub returns : goal.returns
returns c =
    let m = c.args.m in
    let i = c.args.i in
    let S = c.args.src.now in
    let w = unpacked m S in
    let f = c.loop-j.invariant in
    let codes = codes-take i w (unpacked-codes m S) in
    let size = length-take-le i w (omega (arith, unpacked-length m S)) in
    let end : i ≤ 12 * c.loop-j.j = omega (arith, c.div_ceil-j-end.ensures, c.loop-j-test.false) in
    let p = filled_packs (take i w) c.loop-j.j i _ f codes size (omega arith) end in
    record {
      dst_len = (f.first.size, p.0);
      dst_after = p.1;
    }
