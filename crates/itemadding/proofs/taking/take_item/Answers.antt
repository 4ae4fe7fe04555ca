-- `take_item` is the sum with the multiple by the opposite. The loop's invariant: what is held, with the terms that are left added to it, is that sum;
-- and the products that are left are below the words of the first `low` terms.
use mathlib.Core.Path.{◌≡◌, sym, ap, ◌∙◌}
use Prim.Native.Nat.{ℕ, suc, ◌+◌, ◌≤◌, ◌<◌}
use native.Mathlib.Numerals.{add-one}
use native.Mathlib.Omega.{arith}
use Rattle.algebra.specs.Poly.{Poly}
use Rattle.algebra.specs.Written.{plus}
use Rattle.table.specs.Table.{field_in, order_in, terms_in, first_in}
use Rattle.packedterms.specs.InFormula.{formula_in, letters_in}
use Rattle.itemadding.proofs.Lowering.{lower_next}
use Rattle.itemadding.proofs.Sums.{rest, rest-next, rest_end, rest_skip, adding_next, adding_end}
use Rattle.itemadding.proofs.taking.take_item.Goals as goal

pub overflow_add-first : goal.overflow_add-first
overflow_add-first c =
    let q = c.requires.tabled.0.terms in
    let s = c.requires.tabled.4 in
    let most = c.requires.tabled.0.most c.args.item c.requires.tabled.2 c.requires.tabled.3 in
    let rises = c.requires.tabled.0.rising c.args.item c.requires.tabled.2 c.requires.tabled.3 in
    record { fits = omega (arith, c.first_in.ensures, most, rises) }

pub loop-i-init : goal.loop-i-init
loop-i-init c =
    let a = c.args in
    let t = a.t.now in
    let e = c.first_in.ensures in
    let few = c.requires.tabled.4 in
    let all : ℕ → Poly = λ (j : ℕ). plus (field_in t) (order_in t) (formula_in t a.f.now)
    (rest t ((field_in t).neg a.x) (letters_in t a.left.now) (letters_in t a.right.now) (first_in t (suc a.item)) (j + a.skip)) in (
      record { from = omega arith; low = omega arith; less = omega arith },
      rw e c.requires.working.1,
      record { working = c.requires.working.0; sum = ap all e },
    )

pub opposite_coef-z-requires : goal.opposite_coef-z-requires
opposite_coef-z-requires c =
    let most : let a = c.args in first_in a.t.now (suc a.item) ≤ terms_in a.t.now = c.requires.tabled.0.most c.args.item c.requires.tabled.2 c.requires.tabled.3 in
    let end_is : c.first_in-end.result ≡ first_in c.args.t.now (suc c.args.item) = c.first_in-end.ensures ∙ ap (first_in c.args.t.now) (add-one c.args.item) in
    (c.requires.tabled.0, c.requires.tabled.1, omega (arith, c.loop-i-test.true, end_is, most))

pub build-requires : goal.build-requires
build-requires c =
    let end_is : c.first_in-end.result ≡ first_in c.args.t.now (suc c.args.item) = c.first_in-end.ensures ∙ ap (first_in c.args.t.now) (add-one c.args.item) in
    let more : let a = c.args in c.loop-i.i < first_in a.t.now (suc a.item) = omega (arith, c.loop-i-test.true, end_is) in
    let most : let a = c.args in first_in a.t.now (suc a.item) ≤ terms_in a.t.now = c.requires.tabled.0.most c.args.item c.requires.tabled.2 c.requires.tabled.3 in
    let m = c.loop-i in
    let g = m.invariant.0 in
    let (l, r, fits) = c.requires.sixfold in
    record {
      tabled = (c.requires.tabled.0, omega (arith, more, most));
      sixfold = (l, r, fits.short m.i g.from (more));
    }

pub add_term-low-requires : goal.add_term-low-requires
add_term-low-requires c =
    let end_is : c.first_in-end.result ≡ first_in c.args.t.now (suc c.args.item) = c.first_in-end.ensures ∙ ap (first_in c.args.t.now) (add-one c.args.item) in
    let more : let a = c.args in c.loop-i.i < first_in a.t.now (suc a.item) = omega (arith, c.loop-i-test.true, end_is) in
    let few : let a = c.args in first_in a.t.now (suc a.item) ≤ first_in a.t.now a.item + 48 = c.requires.tabled.0.few c.args.item c.requires.tabled.2 c.requires.tabled.3 in
    let m = c.loop-i in
    let g = m.invariant.0 in
    let room = c.requires.tabled.5 in record {
      tabled = (c.requires.tabled.0, c.opposite_coef-z.ensures.1, omega (arith, more, few, g.less), c.build.ensures.built);
      working = m.invariant.2.working;
      behind = rw c.build.ensures.word (m.invariant.1.behind m.i (omega arith) (more));
    }

pub loop-i-preserved : goal.loop-i-preserved
loop-i-preserved c =
    let end_is : c.first_in-end.result ≡ first_in c.args.t.now (suc c.args.item) = c.first_in-end.ensures ∙ ap (first_in c.args.t.now) (add-one c.args.item) in
    let more : let a = c.args in c.loop-i.i < first_in a.t.now (suc a.item) = omega (arith, c.loop-i-test.true, end_is) in
    let few : let a = c.args in first_in a.t.now (suc a.item) ≤ first_in a.t.now a.item + 48 = c.requires.tabled.0.few c.args.item c.requires.tabled.2 c.requires.tabled.3 in
    let m = c.loop-i in
    let g = m.invariant.0 in
    let a = c.args in
    let t = a.t.now in
    let e = c.add_term-low.ensures in
    let next = rest-next t ((field_in t).neg a.x) (letters_in t a.left.now) (letters_in t a.right.now) (first_in t (suc a.item))
    m.i c.opposite_coef-z.result _ (more) c.opposite_coef-z.ensures.0 c.build.ensures.word in (
      record { from = omega (arith, g.from); low = omega (arith, more, few); less = omega (arith, g.less, e.holds.0) },
      lower_next t c.requires.tabled.0 a.item c.requires.tabled.2 c.requires.tabled.3 _ _ m.i g.from _ _ c.build.ensures.word e.behind_2,
      adding_next _ c.requires.tabled.0 _ _ _ _ _ _ _ m.invariant.2 _ _ _ _ _ _ _ next e.holds.1 e.inserted,
    )

pub returns : goal.returns
returns c =
    let end_is : c.first_in-end.result ≡ first_in c.args.t.now (suc c.args.item) = c.first_in-end.ensures ∙ ap (first_in c.args.t.now) (add-one c.args.item) in
    let a = c.args in
    let t = a.t.now in
    let g = c.loop-i.invariant.0 in
    let adding = c.loop-i.invariant.2 in
    let left = letters_in t a.left.now in
    let right = letters_in t a.right.now in
    let first = first_in t a.item in
    let end = first_in t (suc a.item) in
    let whole = plus (field_in t) (order_in t) (formula_in t a.f.now) in
    let all = rest_end t ((field_in t).neg a.x) left right end c.loop-i.i (omega (arith, c.loop-i-test.false, end_is)) in
    let skipped = rest_skip t ((field_in t).neg a.x) left right end first a.skip in
    record {
      upper_bound = omega (arith, g.less, g.low);
      working_2 = adding.working;
      taken = adding_end _ _ _ _ _ _ _ _ adding all ∙ ap whole (sym skipped);
    }
