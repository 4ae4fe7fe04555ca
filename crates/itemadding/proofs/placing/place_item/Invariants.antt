use mathlib.Core.Path.{◌≡◌}
use mathlib.Core.List.{◌++◌}
use Rattle.packedterms.specs.InFormula.{formula_in, HoldsIn, letters_in}
use Rattle.itemadding.proofs.Products.{Placing}
use Rattle.itemadding.proofs.Sums.{rest}
use Rattle.itemadding.proofs.placing.place_item.Given as goal

abbrev pub invariant-loop-i : goal.invariant-loop-i
invariant-loop-i l =
    Placing l.t l.first l.end l.i l.f.terms
    × HoldsIn l.t l.f
    × (formula_in l.t l.f ++ rest l.t l.x (letters_in l.t l.left) (letters_in l.t l.right) l.end l.i
    ≡ rest l.t l.x (letters_in l.t l.left) (letters_in l.t l.right) l.end l.first)
