use Prim.Native.Nat.{suc, ◌+◌}
use Rattle.algebra.specs.Written.{plus}
use Rattle.table.specs.Table.{field_in, order_in, first_in}
use Rattle.packedterms.specs.InFormula.{formula_in, letters_in}
use Rattle.itemadding.specs.Lower.{Lower}
use Rattle.itemadding.proofs.Sums.{Adding, Going, rest}
use Rattle.itemadding.proofs.taking.take_item.Given as goal

abbrev pub invariant-loop-i : goal.invariant-loop-i
invariant-loop-i l =
    Going (first_in l.t l.item) l.skip l.initial.f.terms l.i l.f.terms
    × Lower l.t (letters_in l.t l.left) (letters_in l.t l.right) l.i (first_in l.t (suc l.item)) l.low (formula_in l.t l.f)
    × Adding l.t l.f.coefs l.f.sizes l.f.blocks l.f.places l.f.terms
    (rest l.t ((field_in l.t).neg l.x) (letters_in l.t l.left) (letters_in l.t l.right) (first_in l.t (suc l.item)) l.i)
    (plus (field_in l.t) (order_in l.t) (formula_in l.t l.initial.f)
    (rest l.t ((field_in l.t).neg l.x) (letters_in l.t l.left) (letters_in l.t l.right) (first_in l.t (suc l.item)) (first_in l.t l.item + l.skip)))
