-- `divide_item` multiplies the rows of the polynomial by the inverse, which then is 1; where it was 1, nothing is changed.
use mathlib.Core.Path.{◌≡◌, sym, ap, ◌∙◌, subst}
use Prim.Native.Nat.{ℕ, suc, ◌+◌}
use native.Mathlib.Omega.{arith}
use Rattle.table.specs.Table.{gens_in, first_in}
use Rattle.tabulating.specs.Divided.{RowsScaled}
use Rattle.tabulating.proofs.DividedItem.{item-divided, item-kept}
use Rattle.tabulating.proofs.dividing.divide_item.Goals as goal

pub returns-then-y-eq1 : goal.returns-then-y-eq1
returns-then-y-eq1 c =
    item-kept c.args.t.now c.requires.0 c.args.g c.requires.1 (sym c.inverse_in-y.ensures.0 ∙ c.if-y-eq1.true)

pub scale_rows-requires : goal.scale_rows-requires
scale_rows-requires c =
    let item_is : let a = c.args in c.gens_in.result + 1 + a.g ≡ gens_in a.t.now + suc a.g = let e = c.gens_in.ensures in omega arith in
    let first_is_lem : let a = c.args in c.first_in-first.result ≡ first_in a.t.now (gens_in a.t.now + suc a.g) = c.first_in-first.ensures ∙ ap (first_in c.args.t.now) (item_is) in
    let end_is : let a = c.args in c.first_in-end.result ≡ first_in a.t.now (suc (gens_in a.t.now + suc a.g)) = let e = item_is in
    let next : c.gens_in.result + 1 + c.args.g + 1 ≡ suc (gens_in c.args.t.now + suc c.args.g) = omega arith in
    c.first_in-end.ensures ∙ ap (first_in c.args.t.now) next in
    let T = c.requires.0 in
    let h = c.requires.1 in
    let item = gens_in c.args.t.now + suc c.args.g in
    let up = T.rising item (omega arith) (omega arith) in
    let most = T.most item (omega arith) (omega arith) in
    (T, c.inverse_in-y.ensures.1, omega (arith, first_is_lem, end_is), omega (arith, end_is))

pub returns : goal.returns
returns c =
    let item_is : let a = c.args in c.gens_in.result + 1 + a.g ≡ gens_in a.t.now + suc a.g = let e = c.gens_in.ensures in omega arith in
    let end_is : let a = c.args in c.first_in-end.result ≡ first_in a.t.now (suc (gens_in a.t.now + suc a.g)) = let e = item_is in
    let next : c.gens_in.result + 1 + c.args.g + 1 ≡ suc (gens_in c.args.t.now + suc c.args.g) = omega arith in
    c.first_in-end.ensures ∙ ap (first_in c.args.t.now) next in
    let first_is_lem : let a = c.args in c.first_in-first.result ≡ first_in a.t.now (gens_in a.t.now + suc a.g) = c.first_in-first.ensures ∙ ap (first_in c.args.t.now) (item_is) in
    let t = c.args.t.now in
    let u = c.scale_rows.new.t in
    let y = c.inverse_in-y.ensures.0 in
    let rows = subst (λ (x : ℕ). RowsScaled t x (first_in t (gens_in t + suc c.args.g)) (first_in t (suc (gens_in t + suc c.args.g))) u) y
    (subst (λ (b : ℕ). RowsScaled t c.inverse_in-y.result (first_in t (gens_in t + suc c.args.g)) b u) (end_is)
    (subst (λ (a : ℕ). RowsScaled t c.inverse_in-y.result a c.first_in-end.result u) (first_is_lem) c.scale_rows.ensures)) in
    item-divided t u c.requires.0 c.args.g c.requires.1 rows
