-- `place_item` is the multiple. The loop's invariant: what is held, and behind it the multiple of the terms that are left, is the whole.
use mathlib.Core.Path.{◌≡◌, ap, ap₂, ◌∙◌}
use Prim.Native.Nat.{ℕ, suc, ◌-◌, ◌<◌}
use native.Mathlib.Numerals.{add-one}
use native.Mathlib.Omega.{arith}
use mathlib.Core.List.{[], ◌∷◌, ◌++◌}
use Rattle.words.specs.Word.{Word}
use Rattle.working.specs.Change.{single}
use Rattle.algebra.specs.Poly.{scale, shift}
use Rattle.working.specs.Working.{terms}
use Rattle.table.specs.Polynomials.{term_in}
use Rattle.table.specs.Table.{field_in, first_in}
use Rattle.packedterms.specs.InFormula.{formula_in, HoldsIn, letters_in}
use Rattle.packedterms.proofs.Places.{entry_place, holds-none}
use Rattle.packedterms.proofs.BuiltWords.{built-six, built-held, built-word}
use Rattle.packedterms.proofs.NewTerm.{last-holds, last-formula}
use Rattle.itemadding.proofs.Products.{placed-none, placed-next, placed_end}
use borrow.Author.Rules.{rules}
use Rattle.itemadding.proofs.placing.place_item.Goals as goal

pub loop-i-init : goal.loop-i-init
loop-i-init c =
    let a = c.args in
    let t' = a.t.now in
    let (t, small, some, item) = c.requires.tabled in
    let x = t.rising c.args.item some item in
    let y = t.most c.args.item some item in
    let w = t.few c.args.item some item in
    let u = c.first_in-first.ensures in
    let v : c.first_in-end.result ≡ first_in c.args.t.now (suc c.args.item) = c.first_in-end.ensures ∙ ap (first_in c.args.t.now) (add-one c.args.item) in (
      record { most = omega arith; few = omega arith; low = omega arith; count = omega arith },
      holds-none _ _ _ _ _ c.requires.arranged (record { coefs = search rules; sizes = search rules; blocks = search rules; places = search rules }),
      placed-none t' a.x (letters_in t' a.left.now) (letters_in t' a.right.now) c.first_in-end.result _ c.first_in-first.result,
    )

pub scaled_coef-z-requires : goal.scaled_coef-z-requires
scaled_coef-z-requires c =
    (c.requires.tabled.0, c.requires.tabled.1, omega (arith, c.loop-i-test.true, c.loop-i.invariant.0.most))

pub build-requires : goal.build-requires
build-requires c =
    let end_is : c.first_in-end.result ≡ first_in c.args.t.now (suc c.args.item) = c.first_in-end.ensures ∙ ap (first_in c.args.t.now) (add-one c.args.item) in
    let g = c.loop-i.invariant.0 in
    let t = c.loop-i-test.true in
    let (l, r, fits) = c.requires.sixfold in
    record {
      tabled = (c.requires.tabled.0, omega (arith, t, g.most));
      sixfold = (l, r, fits.short _ (omega (arith, g.count, c.first_in-first.ensures)) (omega (arith, t, end_is)));
    }

pub put_last-requires : goal.put_last-requires
put_last-requires c =
    let (g, held, _) = c.loop-i.invariant in
    let free : c.loop-i.f.terms < 560 = omega (arith, c.loop-i-test.true, g.few, g.count) in
    (omega arith, (free, entry_place _ _ _ _ _ _ held _ free, c.build.ensures.built.low, omega arith))

pub loop-i-preserved : goal.loop-i-preserved
loop-i-preserved c =
    let m = c.loop-i in
    let a = c.args in
    let t' = a.t.now in
    let left = letters_in t' a.left.now in
    let right = letters_in t' a.right.now in
    let (g, held, sum) = m.invariant in
    let t = c.loop-i-test.true in
    let built = c.build.ensures.built in
    let free : m.f.terms < 560 = omega (arith, t, g.few, g.count) in
    let put = c.put_last.ensures.stored in
    let six = built-six _ _ _ built in
    let own = built-held _ _ _ built in
    let more = last-formula _ _ _ _ _ _ _ _ _ _ _ _ held free six own put ∙ ap (λ (u : Word). formula_in t' m.f ++ (single c.scaled_coef-z.result u ∷ [])) (built-word _ _ _ built) in
    let next : HoldsIn t' c.put_last.new.self = rw (c.put_last.ensures.entries.0, c.put_last.ensures.entries.1) (last-holds _ _ _ _ _ _ _ _ _ _ _ _ held free six own put) in (
      record { most = g.most; few = g.few; low = omega arith; count = search rules },
      next,
      rw (c.put_last.ensures.entries.0, c.put_last.ensures.entries.1) (placed-next t' a.x left right c.first_in-end.result _ _ _ m.i _ _ _ t sum c.scaled_coef-z.ensures.0 c.build.ensures.word (omega arith) more),
    )

pub returns : goal.returns
returns c =
    let end_is : c.first_in-end.result ≡ first_in c.args.t.now (suc c.args.item) = c.first_in-end.ensures ∙ ap (first_in c.args.t.now) (add-one c.args.item) in
    let a = c.args in
    let t = a.t.now in
    let g = c.loop-i.invariant.0 in
    let left = letters_in t a.left.now in
    let right = letters_in t a.right.now in
    let whole = placed_end t a.x left right c.first_in-end.result
    (formula_in t c.loop-i.f) _ c.loop-i.i c.loop-i-test.false c.loop-i.invariant.2 in
    let range = ap₂ (λ (i j : ℕ). scale (field_in t) a.x (shift left right (terms (term_in t) i (j - i)))) c.first_in-first.ensures (end_is) in
    record {
      upper_bound = omega (arith, g.few, g.low, g.count);
      holds = c.loop-i.invariant.1;
      placed = whole ∙ range;
    }
