-- `scale_rows` multiplies row by row. The loop's invariant: the rows before i are multiplied, and nothing else is changed.
use mathlib.Core.Path.{◌≡◌, ◌∙◌, ap, ap₂}
use Prim.Native.Nat.{ℕ, ◌+◌, ◌*◌, ◌/◌, ◌%◌}
use native.Mathlib.Omega.{arith}
use Rattle.field.specs.Field.{field_of}
use Rattle.table.specs.Table.{field_in, coef_in}
use Rattle.tabulating.proofs.ScaledRows.{scaled-none, row_before, scaled-more}
use borrow.Author.Rules.{rules}
use Rattle.tabulating.proofs.dividing.scale_rows.Goals as goal

-- the coefficient that is read is that of the table at the start
coef_is : (f : goal.After-coef_in) → f.coef_in.result ≡ coef_in f.args.t.now f.loop-i.i
coef_is f =
    let a = f.args in
    f.coef_in.ensures ∙ ap (λ (x : ℕ). x / 4294967296) (row_before a.t.now a.y a.first f.loop-i.i f.loop-i.t (omega arith) f.loop-i.invariant)

pub loop-i-init : goal.loop-i-init
loop-i-init c = let a = c.args in scaled-none a.t.now a.y a.first

pub mul-z-requires : goal.mul-z-requires
mul-z-requires c =
    let e = c.prime_in-p.ensures in
    let T = c.requires.0 in (
      omega (arith, e, T.prime),
      omega (arith, e, c.requires.1),
      omega (arith, e, coef_is c, T.small c.loop-i.i (let k = c.requires.3 in let l = c.loop-i-test.true in omega arith)),
    )

pub loop-i-preserved : goal.loop-i-preserved
loop-i-preserved c =
    let coef_is : c.coef_in.result ≡ coef_in c.args.t.now c.loop-i.i = let a = c.args in
    c.coef_in.ensures ∙ ap (λ (x : ℕ). x / 4294967296) (row_before a.t.now a.y a.first c.loop-i.i c.loop-i.t (omega arith) c.loop-i.invariant) in
    let a = c.args in
    let t = a.t.now in
    let T = c.requires.0 in
    let row = ap (λ (y : ℕ). y % 4294967296) (row_before t a.y a.first c.loop-i.i c.loop-i.t (omega arith) c.loop-i.invariant) in
    let product : c.mul-z.result ≡ (field_in t).mul a.y (coef_in t c.loop-i.i) =
    c.mul-z.ensures.0 ∙ ap₂ (λ (q e : ℕ). (field_of q).mul a.y e) c.prime_in-p.ensures (coef_is) in
    let number = c.joined.ensures ∙ ap₂ (λ (y e : ℕ). y * 4294967296 + e) product (c.size_in-e.ensures ∙ row) in
    scaled-more t a.y a.first c.loop-i.i c.loop-i.t (omega arith) c.loop-i.invariant _ (search rules) number

pub returns : goal.returns
returns c =
    let e : c.loop-i.i ≡ c.args.end = search rules in
    rw e at c.loop-i.invariant
