-- The check's row from some kind of sums on.
use Rattle.std.specs.Prelude.{List, length}
use Rattle.field.specs.Field.{Operations}
use Rattle.words.specs.Order.{Order}
use Rattle.algebra.specs.Poly.{Poly}
use Rattle.algebra.specs.Ideal.{family}
use Rattle.overlaps.specs.Overlaps.{leads, overlaps}
use Rattle.package.specs.Sums.{SumLine}
use Rattle.acceptance.specs.Check.{Verdict, then_judge, Side, kinds_judged, items_judged, overlaps_judged}

-- The kinds that are left, then 15, then the overlaps and inclusions of the basis ps.
unfoldable pub row_verdict : Operations → Order → List Side → List Poly → List SumLine → Verdict
unfolding then_judge kinds_judged items_judged overlaps_judged leads overlaps family
row_verdict K O kinds ps ss =
    then_judge (kinds_judged K O ss kinds)
    (then_judge (items_judged (length (overlaps (leads ps))) ss) (overlaps_judged K O (family ps) ss (overlaps (leads ps)) 1))
