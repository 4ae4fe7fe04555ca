-- `spot_in_block` is the search before place `end`. The invariant: the leftmost place from place i on is the leftmost from the block's first on, and x and y
-- have the letters from i on, moved up.
use mathlib.Core.Path.{◌≡◌, refl, sym, ◌∙◌}
use Prim.Native.Nat.{◌/◌}
use native.Mathlib.Omega.{arith}
use lib.ListN.{drop}
use Rattle.packedwords.specs.Packed.{unpacked}
use Rattle.packedwords.proofs.Packing.{unpacked-length}
use Rattle.leads.specs.CodeSearch.{spot_or}
use Rattle.leads.specs.SpotOfWords.{seen}
use Rattle.leads.proofs.BlockTurns.{moved_back, moved_up, next-lt, block-starts, block_fronted, block_moves}
use Rattle.leads.proofs.Places.{spot_here, spot-later}
use Rattle.leads.proofs.spotting.spot_in_block.Goals as goal

pub high-x-requires : goal.high-x-requires
high-x-requires c =
    c.requires.word_len.1.blocks c.args.j

pub block_at-requires : goal.block_at-requires
block_at-requires c =
    c.requires.word_len.1.blocks

pub high-y-requires : goal.high-y-requires
high-y-requires c =
    c.block_at.ensures.1

pub loop-i-init : goal.loop-i-init
loop-i-init c =
    let b = c.block_at.ensures in
    let x = c.high-x.ensures in
    let y = c.high-y.ensures in (
      moved_up _ _ (c.requires.word_len.1.blocks c.args.j) x,
      moved_up _ _ b.1 y,
      (λ n h. rw (moved_back _ _ x, moved_back _ _ y) (block-starts n c.args.word.now h c.args.j b.0)),
      λ ls n i h l. refl,
    )

pub begun_at-begun-requires : goal.begun_at-begun-requires
begun_at-begun-requires c =
    let m = c.loop-i in
    (m.invariant.0.low, omega arith, c.requires.word_len.1)

pub returns-then-begun-ne0 : goal.returns-then-begun-ne0
unfolding seen spot_or
returns-then-begun-ne0 c =
    let m = c.loop-i in
    let word = c.args.word.now in
    λ ls n i h l.
    let w = unpacked n word in
    let b = c.begun_at-begun.ensures ls (drop m.i w) i (block_fronted n word h m.i (m.x / 16) (m.invariant.2 n h).here) in
    sym (spot_here ls w m.i _ b _ c.lowest-number.ensures.1) ∙ m.invariant.3 ls n i h l

pub next_high-x-requires : goal.next_high-x-requires
next_high-x-requires c =
    let m = c.loop-i in
    (m.invariant.0.whole, m.invariant.1.low)

pub without_first-y-requires : goal.without_first-y-requires
without_first-y-requires c =
    c.loop-i.invariant.1.whole

pub loop-i-preserved : goal.loop-i-preserved
loop-i-preserved c =
    let word = c.args.word.now in
    let m = c.loop-i in
    let t = c.loop-i-test.true in
    let x = c.next_high-x.ensures in
    let y = c.without_first-y.ensures in (
      moved_up _ _ (next-lt (m.x / 16) (m.y / 16) m.invariant.1.low) x,
      moved_up _ _ (omega arith) y,
      (λ n h. block_moves n word h c.args.j m.i (m.invariant.2 n h) (omega arith) (omega arith) (moved_back _ _ x) (moved_back _ _ y)),
      λ ls n i h l.
          let w = unpacked n word in
          let b = c.begun_at-begun.ensures ls (drop m.i w) i (block_fronted n word h m.i (m.x / 16) (m.invariant.2 n h).here) in
          spot-later ls w m.i _ b c.if-begun-ne0.false (omega (arith, unpacked-length n word)) ∙ m.invariant.3 ls n i h l,
    )

pub returns : goal.returns
unfolding seen spot_or
returns c =
    let m = c.loop-i in
    let e : m.i ≡ c.args.end = omega (arith, c.requires.j_bound) in
    λ ls n i h l. rw e at (m.invariant.3 ls n i h l)
