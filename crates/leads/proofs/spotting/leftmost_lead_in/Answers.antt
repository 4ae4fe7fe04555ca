-- `leftmost_lead_in` is the search in the six blocks from entry `at` on.
use mathlib.Core.Path.{◌≡◌}
use Prim.Native.Nat.{◌+◌, ◌-◌}
use native.Mathlib.Omega.{arith}
use Rattle.lists.proofs.Parts.{part_length}
use Rattle.leads.proofs.spotting.leftmost_lead_in.Goals as goal

pub spot_in_blocks-requires : goal.spot_in_blocks-requires
spot_in_blocks-requires c =
    let a = c.args.at in
    let e : a + 6 - a ≡ 6 = omega arith in
    (rw e (part_length a 6 c.args.w.now (omega arith)), rw e c.requires.packs)

pub returns : goal.returns
returns c =
    let a = c.args.at in
    let e : a + 6 - a ≡ 6 = omega arith in
    λ ls i. rw e at (c.spot_in_blocks.ensures ls i)
