use mathlib.Core.Path.{◌≡◌}
use mathlib.Core.Bool.{true}
use Prim.Native.Nat.{◌+◌, ◌-◌, ◌≤◌}
use lib.ListN.{length}
use Rattle.algebra.specs.Ideal.{family}
use Rattle.package.specs.Names.{sum_o}
use Rattle.overlaps.specs.Overlaps.{leads, overlaps}
use Rattle.overlapsearch.specs.Leading.{words_in}
use Rattle.overlapsearch.specs.Position.{seen_pairs}
use Rattle.overlapsearch.proofs.SeenPairs.{Walked}
use Rattle.working.specs.Working.{Arranged}
use Rattle.acceptance.specs.Check.{overlaps_judged, items_judged}
use Rattle.sumlines.specs.Lines.{sums_at, held_from, first_is}
use Rattle.table.specs.Polynomials.{basis_in}
use Rattle.table.specs.Table.{field_in, order_in}
use Rattle.packedterms.specs.InFormula.{formula_in, WorkingIn}
use Rattle.lapsums.proofs.OverlapsJudging.{OverlapsDone, LapDone}
use Rattle.lapsums.proofs.overlap_sums.judge_overlaps.Given as goal

abbrev pub invariant-loop-s : goal.invariant-loop-s
invariant-loop-s l =
    (l.f.terms ≤ 512)
    × WorkingIn l.t l.f
    × LapDone l.t l.words.bytes.now (leads (basis_in l.t))
    (overlaps_judged (field_in l.t) (order_in l.t) (family (basis_in l.t)) (sums_at l.words.bytes.now l.from l.first) (overlaps (leads (basis_in l.t))) 1)
    (length (overlaps (leads (basis_in l.t)))) (items_judged (length (overlaps (leads (basis_in l.t)))) (sums_at l.words.bytes.now l.from l.first))
    l.at l.line l.i l.pair (formula_in l.t l.f) l.next
    × (first_is sum_o (l.i + 1) (held_from l.words.bytes.now l.line l.next) ≡ true → l.lined ≡ true)

abbrev pub decreases-loop-s : goal.decreases-loop-s
decreases-loop-s l =
    length l.words.bytes.now - l.at

abbrev pub invariant-items : goal.invariant-items
invariant-items l =
    Walked l.words.starts.now l.words.lens.now l.words.bytes.now l.words.count l.i l.found
    × OverlapsDone l.t l.words.bytes.now (leads (basis_in l.t))
    (overlaps_judged (field_in l.t) (order_in l.t) (family (basis_in l.t)) (sums_at l.words.bytes.now l.from l.first) (overlaps (leads (basis_in l.t))) 1)
    (length (overlaps (leads (basis_in l.t)))) (items_judged (length (overlaps (leads (basis_in l.t)))) (sums_at l.words.bytes.now l.from l.first))
    l.at l.line l.i l.found l.next
    × Arranged l.f.places

abbrev pub decreases-items : goal.decreases-items
decreases-items l =
    length (seen_pairs (words_in l.words) l.found)
