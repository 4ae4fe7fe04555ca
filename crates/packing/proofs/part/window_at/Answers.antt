-- `window_at` is `window_of`.
use mathlib.Core.Path.{◌∙◌, ap, ap₂}
use Prim.Native.Nat.{ℕ, ◌+◌, ◌-◌, ◌*◌, ◌/◌, ◌%◌, ◌^◌}
use Rattle.packing.proofs.part.window_at.Goals as goal

pub returns : goal.returns
returns c =
    let r = c.args.i % 12 in
    ap₂ (λ (x y : ℕ). x + y)
    (c.up.ensures.0 ∙ ap (λ (x : ℕ). x * 2 ^ (r * 5) % 2 ^ 60) c.block_at-x.ensures.0)
    (c.down.ensures.0 ∙ ap (λ (y : ℕ). y / 2 ^ (60 - r * 5)) c.block_at-y.ensures.0)
