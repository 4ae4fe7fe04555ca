use Prim.Native.Nat.{◌-◌, ◌≤◌}
use lib.ListN.{length}
use Rattle.algebra.specs.Ideal.{family}
use Rattle.working.specs.Working.{Arranged}
use Rattle.sumlines.specs.Lines.{sums_at}
use Rattle.table.specs.Table.{field_in, order_in}
use Rattle.packedterms.specs.InFormula.{formula_in, WorkingIn}
use Rattle.tablesums.specs.Heading.{head_in}
use Rattle.kindsums.specs.Kinds.{side_in}
use Rattle.kindsums.proofs.SumsJudging.{ItemsDone, LinesDone}
use Rattle.kindsums.proofs.judging.judge_sums.Given as goal

abbrev pub invariant-loop-s : goal.invariant-loop-s
invariant-loop-s l =
    (l.f.terms ≤ 512)
    × WorkingIn l.t l.f
    × LinesDone (head_in l.t) (side_in l.t l.kind).number l.kind (field_in l.t) (order_in l.t) (family (side_in l.t l.kind).others) l.bytes (sums_at l.bytes l.from l.first)
    (side_in l.t l.kind).targets l.at l.line l.g (formula_in l.t l.f) l.next

abbrev pub decreases-loop-s : goal.decreases-loop-s
decreases-loop-s l =
    length l.bytes - l.at

abbrev pub invariant-items : goal.invariant-items
invariant-items l =
    Arranged l.f.places
    × ItemsDone (head_in l.t) (side_in l.t l.kind).number l.kind (field_in l.t) (order_in l.t) (family (side_in l.t l.kind).others) l.bytes (sums_at l.bytes l.from l.first)
    (side_in l.t l.kind).targets l.at l.line l.g l.next
