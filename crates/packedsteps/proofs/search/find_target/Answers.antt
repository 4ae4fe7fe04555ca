-- `find_target` tells the first term. The invariant: in no word before term k, from `from` on, a leading word stands.
use mathlib.Core.Path.{sym}
use native.Mathlib.Omega.{arith}
use Rattle.leads.specs.SpotOfWords.{seen}
use Rattle.packedsteps.specs.Search.{codes_at}
use Rattle.packedsteps.proofs.NoneFound.{none-next, none_left, found_here}
use Rattle.packedsteps.proofs.search.find_target.Goals as goal

pub spot_term-requires : goal.spot_term-requires
spot_term-requires c =
    let P = c.requires in
    let inside = c.loop-k-test.true in
    let count = P.count in
    record {
      term = (omega arith, P.place c.loop-k.k inside);
      packs = P.packs c.loop-k.k inside;
    }

pub returns-in-Some : goal.returns-in-Some
unfolding seen
returns-in-Some c =
    let a = c.args in
    let e = rw (c.in-Some.is, c.in-Some.field-0-is) at c.spot_term.ensures in
    λ ls h. found_here ls (codes_at a.f.now) a.from c.loop-k.k (c.loop-k.invariant ls h) a.f.now.terms _ _ (omega arith) c.loop-k-test.true (sym (e ls h))

pub loop-k-preserved : goal.loop-k-preserved
unfolding seen
loop-k-preserved c =
    let a = c.args in
    let e = rw c.in_default.is at c.spot_term.ensures in
    λ ls h. none-next ls (codes_at a.f.now) a.from c.loop-k.k (c.loop-k.invariant ls h) (sym (e ls h))

pub returns : goal.returns
returns c =
    let a = c.args in
    λ ls h. none_left ls (codes_at a.f.now) a.from c.loop-k.k (c.loop-k.invariant ls h) a.f.now.terms c.loop-k-test.false
