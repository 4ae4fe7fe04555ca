-- `next_letters` is the second window behind twelve letters, and else the block moved up by one.
use Prim.Native.Nat.{◌+◌}
use Rattle.leads.proofs.spotting.next_letters.Goals as goal

pub window_at-requires : goal.window_at-requires
window_at-requires c = c.requires.1.blocks

pub returns-then-k-eq12 : goal.returns-then-k-eq12
returns-then-k-eq12 c =
    let e = c.window_at.ensures in
    ((λ k. e), (λ n. absurd (n c.if-k-eq12.true)), rw e (c.requires.1.windows (c.args.i + 12)))
