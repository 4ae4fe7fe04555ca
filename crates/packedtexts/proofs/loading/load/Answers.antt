-- `load`: the first j terms of the polynomial are held.
use mathlib.Core.Path.{◌≡◌, refl, sym, ap, ◌∙◌}
use mathlib.Core.List.{[], ◌∷◌, ◌++◌}
use Prim.Native.Nat.{ℕ}
use native.Mathlib.Omega.{arith}
use borrow.Author.Rules.{rules}
use lib.ListN.{length}
use Rattle.algebra.specs.Poly.{Term, Poly}
use Rattle.working.specs.Working.{terms}
use Rattle.working.specs.Polynomial.{poly_term}
use Rattle.working.proofs.Terms.{terms-none, terms-last}
use Rattle.packedterms.proofs.Places.{holds-none}
use Rattle.packedtexts.proofs.loading.load.Goals as goal

pub loop-j-init : goal.loop-j-init
loop-j-init c =
    let F : ℕ → Term = poly_term c.args.fc.now c.args.fs.now c.args.fl.now c.args.text.now in
    (refl, holds-none _ _ _ _ _ c.start.ensures (record { coefs = search rules; sizes = search rules; blocks = search rules; places = search rules }), terms-none _ 0 refl ∙ sym (terms-none F 0 refl))

pub loop-j-preserved : goal.loop-j-preserved
loop-j-preserved c =
    let F : ℕ → Term = poly_term c.args.fc.now c.args.fs.now c.args.fl.now c.args.text.now in
    let e = c.append_term.ensures in (
      omega (arith, e.terms, c.loop-j.invariant.0),
      e.holds_2,
      e.appended ∙ ap (λ (f : Poly). f ++ (F c.loop-j.j ∷ [])) c.loop-j.invariant.2 ∙ sym (terms-last F c.loop-j.j),
    )

pub returns : goal.returns
returns c =
    let (count, held, same) = c.loop-j.invariant in
    let all : c.loop-j.j ≡ length c.args.fc.now = omega (arith, c.loop-j-test.false) in
    let whole = same ∙ ap (terms (poly_term c.args.fc.now c.args.fs.now c.args.fl.now c.args.text.now) 0) all in
    record {
      value = count ∙ all;
      working = record { holds = held; written = rw whole c.requires.written };
      loaded = whole;
    }
