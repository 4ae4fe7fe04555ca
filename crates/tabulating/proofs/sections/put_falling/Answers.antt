-- `put_falling` stores entry by entry.
use mathlib.Core.Path.{◌≡◌, refl}
use Prim.Native.Nat.{◌-◌}
use Rattle.tabulating.proofs.Stores.{filled_none, filled_more}
use borrow.Author.Rules.{rules}
use Rattle.tabulating.proofs.sections.put_falling.Goals as goal

pub loop-k-init : goal.loop-k-init
loop-k-init c = filled_none c.args.a _ c.args.t.now

pub loop-k-preserved : goal.loop-k-preserved
loop-k-preserved c =
    let l = c.loop-k in
    let a = c.args in
    let size = c.requires.0 in
    filled_more a.a l.k (λ i. a.x - i) a.t.now l.t (a.x - l.k) l.invariant (search rules) refl

pub returns : goal.returns
returns c =
    let l = c.loop-k in
    let e : l.k ≡ c.args.n = search rules in
    rw e at l.invariant
