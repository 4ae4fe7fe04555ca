-- `put_inverses` stores entry by entry. The loop's invariant: the entries before g are the inverses.
use mathlib.Core.Path.{◌≡◌, ◌∙◌}
use Prim.Native.Nat.{◌+◌, ◌<◌}
use native.Mathlib.Omega.{arith}
use lib.ListN.{length, get_or}
use Rattle.tabulating.proofs.Stores.{filled_none, filled_more}
use borrow.Author.Rules.{rules}
use Rattle.tabulating.proofs.sections.put_inverses.Goals as goal

pub loop-g-init : goal.loop-g-init
loop-g-init c = filled_none 80 _ c.args.t.now

pub offset_bounds-coefs-a : goal.offset_bounds-coefs-a
offset_bounds-coefs-a c =
    let low : let a = c.args in get_or a.firsts.now (a.base + c.loop-g.g) 0 < length a.coefs.now = c.requires.leading.inside c.loop-g.g c.loop-g-test.true in
    omega (arith, low)

pub bounds-coefs-a : goal.bounds-coefs-a
bounds-coefs-a c =
    let low : let a = c.args in get_or a.firsts.now (a.base + c.loop-g.g) 0 < length a.coefs.now = c.requires.leading.inside c.loop-g.g c.loop-g-test.true in
    low

pub inv-requires : goal.inv-requires
inv-requires c =
    (c.requires.t_len.3, c.requires.leading.some c.loop-g.g c.loop-g-test.true, c.requires.leading.small c.loop-g.g c.loop-g-test.true)

pub loop-g-preserved : goal.loop-g-preserved
loop-g-preserved c =
    filled_more 80 c.loop-g.g _ c.args.t.now c.loop-g.t c.from.result c.loop-g.invariant (search rules) (c.from.ensures ∙ c.inv.ensures.0)

pub returns : goal.returns
returns c =
    let l = c.loop-g in
    let e : l.g ≡ c.args.n = search rules in
    rw e at l.invariant
