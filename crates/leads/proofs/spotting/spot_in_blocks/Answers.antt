-- `spot_in_blocks` is `spot_of_words`. The invariant: the leftmost place from the first of block j on, or from the end on, is the leftmost of all.
use mathlib.Core.Path.{◌≡◌, sym, ◌∙◌}
use Prim.Native.Nat.{◌+◌, ◌*◌, min}
use native.Mathlib.Omega.{arith}
use Rattle.packedwords.specs.Packed.{unpacked}
use Rattle.packedwords.proofs.Packing.{unpacked-length}
use Rattle.leads.specs.CodeSearch.{spot_or}
use Rattle.leads.specs.SpotOfWords.{seen}
use Rattle.leads.proofs.BlockTurns.{packs_windowed, end_begun}
use Rattle.leads.proofs.Places.{spot-start, spot_here, spot-end}
use Rattle.leads.proofs.spotting.spot_in_blocks.Goals as goal

pub loop-j-init : goal.loop-j-init
loop-j-init c =
    let z : min 0 c.args.n ≡ 0 = omega arith in
    λ ls i. rw z (spot-start ls (unpacked c.args.n c.args.word.now))

pub spot_in_block-requires-clause-word_len : goal.spot_in_block-requires-clause-word_len
spot_in_block-requires-clause-word_len c = (c.requires.0, packs_windowed c.args.n c.args.word.now c.requires.1)

pub returns-in-Some : goal.returns-in-Some
unfolding seen spot_or
returns-in-Some c =
    let e : min (12 * c.loop-j.j) c.args.n ≡ 12 * c.loop-j.j = omega arith in
    λ ls i.
    let found = rw c.in-Some.is at (c.spot_in_block.ensures ls c.args.n i c.requires.1 (omega (arith, c.min-end.ensures))) in
    found ∙ rw e at (c.loop-j.invariant ls i)

pub loop-j-preserved : goal.loop-j-preserved
unfolding seen spot_or
loop-j-preserved c =
    let e : min (12 * c.loop-j.j) c.args.n ≡ 12 * c.loop-j.j = omega arith in
    let f : min (12 * (c.loop-j.j + 1)) c.args.n ≡ c.min-end.result = omega (arith, c.min-end.ensures) in
    λ ls i.
    let none = rw c.in_default.is at (c.spot_in_block.ensures ls c.args.n i c.requires.1 (omega (arith, c.min-end.ensures))) in
    rw f none ∙ rw e at (c.loop-j.invariant ls i)

pub returns-then-begun-ne0 : goal.returns-then-begun-ne0
unfolding seen
returns-then-begun-ne0 c =
    let n = c.args.n in
    let bs = c.args.word.now in
    let e : min (12 * c.loop-j.j) n ≡ n = omega (arith, c.div_ceil-j-end.ensures) in
    λ ls i. sym (spot_here ls (unpacked n bs) n _ (end_begun n bs c.requires.1 i) _ c.lowest-number.ensures.1) ∙ rw e at (c.loop-j.invariant ls i)

pub returns : goal.returns
unfolding seen
returns c =
    let n = c.args.n in
    let bs = c.args.word.now in
    let l = unpacked-length n bs in
    let e : min (12 * c.loop-j.j) n ≡ n = omega (arith, c.div_ceil-j-end.ensures) in
    λ ls i. sym (spot-end ls (unpacked n bs) n _ (end_begun n bs c.requires.1 i) c.if-begun-ne0.false (omega arith)) ∙ rw e at (c.loop-j.invariant ls i)
