-- `put_eights`: storing what is left from here on gives what storing all gives.
use mathlib.Core.Path.{◌≡◌, ◌∙◌}
use Prim.Native.Nat.{◌+◌, ◌*◌}
use native.Mathlib.Omega.{arith}
use Rattle.textwriting.proofs.EightStores.{eight_less}
use borrow.Author.Rules.{rules}
use Rattle.textwriting.proofs.write.put_eights.Goals as goal

pub loop-k-preserved : goal.loop-k-preserved
loop-k-preserved c =
    let k = c.loop-k.k in
    let e : 8 * (k + 1) ≡ 8 * k + 8 = omega arith in
    rw e (eight_less _ c.loop-k.out _ _ (8 * k) (search rules) c.put_eight.ensures ∙ c.loop-k.invariant)
