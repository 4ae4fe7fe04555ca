-- `next_shared` is `shared_by`. The loop's invariant: the numbers from n on say what those from s on say.
use mathlib.Core.Path.{◌≡◌, sym, ◌∙◌}
use Prim.Native.Nat.{◌+◌, ◌-◌}
use native.Mathlib.Omega.{arith}
use Rattle.overlaps.specs.Overlaps.{shares}
use Rattle.overlapsearch.specs.Position.{next_passing}
use Rattle.overlapsearch.proofs.Passing.{passing_here, passing_later, passing_end}
use Rattle.overlapsearch.proofs.PassedOver.{shares-some, agreeing_from, passed_over}
use Rattle.overlapsearch.proofs.shared.next_shared.Goals as goal

pub returns-then-is_shared : goal.returns-then-is_shared
returns-then-is_shared c =
    rw (← c.min-most.ensures) (sym (passing_here _ _ c.loop-n.n (omega arith) (sym c.is_shared.ensures ∙ c.if-is_shared.true)) ∙ c.loop-n.invariant)

pub next_agreeing-n-requires : goal.next_agreeing-n-requires
next_agreeing-n-requires c =
    let some = shares-some _ _ c.loop-n.n (sym c.is_shared.ensures ∙ c.if-is_shared.false) in
    (omega arith, omega arith, omega arith, omega arith)

pub loop-n-smaller : goal.loop-n-smaller
loop-n-smaller c =
    let some = shares-some _ _ c.loop-n.n (sym c.is_shared.ensures ∙ c.if-is_shared.false) in
    omega (arith, c.next_agreeing-n.ensures, agreeing_from c.args.u.now c.args.v.now c.min-most.result (c.loop-n.n + 1) (omega arith) (omega arith) (omega arith) (omega arith))

pub loop-n-preserved : goal.loop-n-preserved
loop-n-preserved c =
    let u = c.args.u.now in
    let v = c.args.v.now in
    let most = c.min-most.result in
    let r = c.next_agreeing-n.result in
    let some = shares-some _ _ c.loop-n.n (sym c.is_shared.ensures ∙ c.if-is_shared.false) in
    let p : next_passing (shares u v) r (most - r) ≡ next_passing (shares u v) (c.loop-n.n + 1) (most - (c.loop-n.n + 1)) =
    rw c.next_agreeing-n.ensures (passed_over u v most (c.loop-n.n + 1) (omega arith) (omega arith) (omega arith) (omega arith)) in
    p ∙ passing_later (shares u v) _ c.loop-n.n (omega arith) (sym c.is_shared.ensures ∙ c.if-is_shared.false) ∙ c.loop-n.invariant

pub returns : goal.returns
returns c = rw (← c.min-most.ensures) (sym (passing_end _ _ c.loop-n.n (omega arith)) ∙ c.loop-n.invariant)
