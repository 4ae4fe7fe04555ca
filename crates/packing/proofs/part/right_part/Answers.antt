-- `right_part` puts the letters from a place on. The loop's invariant: the first j blocks are those of the part, and zeros follow.
use mathlib.Core.Path.{◌≡◌, refl, ◌∙◌, ap}
use Prim.Native.Nat.{ℕ, ◌+◌, ◌-◌, ◌*◌, ◌≤◌}
use native.Mathlib.Omega.{arith}
use lib.ListN.{drop, replicate, length-drop}
use Rattle.packedwords.specs.Packed.{window_of, unpacked}
use Rattle.packedwords.proofs.Packing.{unpacked-codes, unpacked-length}
use Rattle.packedwords.proofs.Blocks.{packs-blocks}
use Rattle.packedwords.proofs.Parts.{codes-drop, right-block}
use Rattle.packing.proofs.Filling.{filled_none, filled_more, filled_packs, two_filled}
use Rattle.packing.proofs.part.right_part.Goals as goal

pub two_windows-requires : goal.two_windows-requires
two_windows-requires c =
    let l = c.requires.i_le_m.0 in
    let m = c.if-m-le24.true in
    (omega arith, packs-blocks c.args.m c.args.src.now c.requires.packs, c.requires.i_le_m.3, refl)

pub returns-then-m-le24 : goal.returns-then-m-le24
returns-then-m-le24 c =
    let m = c.args.m in
    let i = c.args.i in
    let S = c.args.src.now in
    let w = unpacked m S in
    let short : m - i ≤ 24 = omega (arith, c.if-m-le24.true) in
    let size = length-drop i w ∙ ap (λ (x : ℕ). x - i) (unpacked-length m S) in
    let none : i ≡ i + 0 = omega arith in
    let first = ap (window_of S) none ∙ right-block m S c.requires.packs i 0 in
    let second = right-block m S c.requires.packs i 12 in
    let p = two_filled (drop i w) (m - i) _ _ (replicate 6 0) refl (codes-drop i w (unpacked-codes m S)) size short first second in
    record {
      dst_len = rw c.two_windows.ensures (p.0, p.1);
      dst_after = rw c.two_windows.ensures p.2;
    }

pub loop-j-init : goal.loop-j-init
loop-j-init c = filled_none _ _ refl

pub window_at-requires : goal.window_at-requires
window_at-requires c =
    packs-blocks c.args.m c.args.src.now c.requires.packs

pub loop-j-preserved : goal.loop-j-preserved
loop-j-preserved c =
    let j = c.loop-j.j in
    let block = c.window_at.ensures ∙ right-block c.args.m c.args.src.now c.requires.packs c.args.i (12 * j) in
    filled_more _ j _ _ c.loop-j.invariant (omega (arith, c.div_ceil-j-end.ensures, c.loop-j-test.true)) block

pub returns : goal.returns
returns c =
    let m = c.args.m in
    let i = c.args.i in
    let S = c.args.src.now in
    let w = unpacked m S in
    let f = c.loop-j.invariant in
    let codes = codes-drop i w (unpacked-codes m S) in
    let size = length-drop i w ∙ ap (λ (x : ℕ). x - i) (unpacked-length m S) in
    let end : m - i ≤ 12 * c.loop-j.j = omega (arith, c.div_ceil-j-end.ensures, c.loop-j-test.false) in
    let p = filled_packs (drop i w) c.loop-j.j (m - i) _ f codes size (omega arith) end in
    record {
      dst_len = (f.first.size, p.0);
      dst_after = p.1;
    }
