-- `put_firsts` stores entry by entry.
use mathlib.Core.Path.{◌≡◌, refl}
use lib.ListN.{get_or}
use Rattle.tabulating.proofs.Stores.{filled_none, filled_more}
use borrow.Author.Rules.{rules}
use Rattle.tabulating.proofs.sections.put_firsts.Goals as goal

pub loop-j-init : goal.loop-j-init
loop-j-init c = filled_none 208 _ c.args.t.now

pub loop-j-preserved : goal.loop-j-preserved
loop-j-preserved c =
    let l = c.loop-j in
    let size = c.requires.0 in
    filled_more 208 l.j (λ i. get_or c.args.firsts.now i 0) c.args.t.now l.t _ l.invariant (search rules) refl

pub returns : goal.returns
returns c =
    let l = c.loop-j in
    let e : l.j ≡ c.args.n = search rules in
    rw e at l.invariant
