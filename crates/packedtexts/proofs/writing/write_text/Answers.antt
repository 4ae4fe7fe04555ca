-- `write_text`: what is written, with the lines from term k on stored behind it, is the whole.
use mathlib.Core.Path.{refl, ◌∙◌}
use mathlib.Core.List.{[]}
use Prim.Native.Nat.{ℕ, ◌<◌}
use native.Mathlib.Omega.{arith}
use lib.ListN.{get_or}
use Rattle.algebra.specs.Poly.{Term}
use Rattle.working.specs.Change.{single}
use Rattle.working.proofs.Terms.{terms_at}
use Rattle.packedtexts.proofs.Texts.{text-start-length, counted_next, counted-end, stored-start, stored_next, stored-end}
use Rattle.packedterms.specs.Formula.{word_at}
use Rattle.packedterms.specs.InFormula.{term_in}
use Rattle.packedterms.proofs.Places.{term-place}
use Rattle.packedtexts.proofs.writing.write_text.Goals as goal

pub put_bytes-at-requires : goal.put_bytes-at-requires
put_bytes-at-requires c = omega (arith, text-start-length (term_in c.args.t.now c.args.f.now) c.args.f.now.terms, c.requires.fits)

pub loop-k-init : goal.loop-k-init
loop-k-init c =
    let e = c.put_bytes-at.ensures.value in
    (refl, omega (arith, text-start-length (term_in c.args.t.now c.args.f.now) c.args.f.now.terms), rw e)

pub put_row-at-requires : goal.put_row-at-requires
put_row-at-requires c =
    let f = c.args.f.now in
    let k = c.loop-k.k in
    let s = get_or f.places k 0 in
    let F : ℕ → Term = term_in c.args.t.now f in
    let place : s < 560 = term-place _ _ _ _ _ _ c.requires.holds k c.loop-k-test.true in
    let next = counted_next F f.terms k (get_or f.coefs s 0) c.loop-k.at _ (word_at c.args.t.now f.sizes f.blocks s) c.loop-k-test.true
    (terms_at F f.terms k (single 0 []) c.loop-k-test.true) c.loop-k.invariant.1 in
    rw c.from.ensures record {
      held = (place, (c.requires.holds.held k c.loop-k-test.true).packs);
      fits = omega (arith, next, c.loop-k.invariant.0, c.put_bytes-at.auto.out, c.requires.fits);
    }

pub loop-k-preserved : goal.loop-k-preserved
loop-k-preserved c =
    let f = c.args.f.now in
    let k = c.loop-k.k in
    let s = get_or f.places k 0 in
    let F : ℕ → Term = term_in c.args.t.now f in
    let v = word_at c.args.t.now f.sizes f.blocks s in
    let term_is = terms_at F f.terms k (single 0 []) c.loop-k-test.true in
    let e = rw c.from.ensures at c.put_row-at.ensures.value in
    let d = rw c.from.ensures at c.put_row-at.ensures.out_after in (
      c.put_row-at.auto.out ∙ c.loop-k.invariant.0,
      rw e (counted_next F f.terms k (get_or f.coefs s 0) c.loop-k.at _ v c.loop-k-test.true term_is c.loop-k.invariant.1),
      rw e (stored_next F f.terms c.loop-k.out _ _ c.loop-k.at k (get_or f.coefs s 0) v c.loop-k-test.true term_is c.loop-k.invariant.2 d),
    )

pub returns : goal.returns
returns c =
    let f = c.args.f.now in
    let F : ℕ → Term = term_in c.args.t.now f in
    record {
      value = counted-end F f.terms c.loop-k.k c.loop-k.at _ c.loop-k-test.false c.loop-k.invariant.1;
      out_after = stored-end F f.terms c.loop-k.out _ c.loop-k.at c.loop-k.k c.loop-k-test.false c.loop-k.invariant.2
          ∙ rw c.put_bytes-at.ensures.out_after (stored-start F f.terms c.args.out.now);
    }
