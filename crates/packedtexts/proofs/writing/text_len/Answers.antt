-- `text_len`: what is counted, with the lines from term k on, is the whole, whatever the table and the blocks are.
use mathlib.Core.List.{[]}
use Prim.Native.Nat.{ℕ}
use native.Mathlib.Omega.{arith}
use lib.ListN.{get_or}
use Rattle.algebra.specs.Poly.{Term}
use Rattle.working.specs.Change.{single}
use Rattle.working.proofs.Terms.{terms_at}
use Rattle.packedtexts.proofs.Texts.{text-start-length, counted_next, counted-end}
use Rattle.packedterms.specs.Formula.{word_at, term_at}
use Rattle.packedtexts.proofs.writing.text_len.Goals as goal

pub loop-k-init : goal.loop-k-init
loop-k-init c =
    let f = c.args.f.now in
    (omega arith, λ t w. text-start-length (term_at t f.coefs f.sizes w f.places) f.terms)

pub loop-k-preserved : goal.loop-k-preserved
loop-k-preserved c =
    let f = c.args.f.now in
    let k = c.loop-k.k in
    let s = get_or f.places k 0 in
    let e = rw c.from.ensures at c.row_len-r.ensures.value in (
      omega (arith, c.loop-k.invariant.0, c.row_len-r.ensures.bound),
      λ t w.
          let F : ℕ → Term = term_at t f.coefs f.sizes w f.places in
          rw (e t w) (counted_next F f.terms k (get_or f.coefs s 0) c.loop-k.r _ (word_at t f.sizes w s) c.loop-k-test.true
          (terms_at F f.terms k (single 0 []) c.loop-k-test.true) (c.loop-k.invariant.1 t w)),
    )

pub returns : goal.returns
returns c =
    let f = c.args.f.now in
    λ t w. counted-end (term_at t f.coefs f.sizes w f.places) f.terms c.loop-k.k c.loop-k.r _ c.loop-k-test.false (c.loop-k.invariant.1 t w)
