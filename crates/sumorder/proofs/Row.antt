-- The check's row, kind by kind: the sums of the first kind and then what follows, by the lines that are left behind them.
use mathlib.Core.Path.{◌≡◌, refl, sym, ◌∙◌}
use mathlib.Core.Logic.{◌≢◌}
use mathlib.Core.List.{List, [], ◌∷◌}
use Prim.Native.Nat.{ℕ}
use lib.ListN.{length}
use borrow.Author.Tests.{ne_eqb}
use Rattle.lists.specs.All.{All, done, ◌also◌}
use Rattle.field.specs.Field.{Operations}
use Rattle.words.specs.Order.{Order}
use Rattle.algebra.specs.Poly.{Poly}
use Rattle.algebra.specs.Ideal.{Family, family}
use Rattle.overlaps.specs.Pairs.{Pair}
use Rattle.overlaps.specs.Overlaps.{leads, overlaps}
use Rattle.package.specs.Names.{sum_o}
use Rattle.package.specs.Sums.{SumLine}
use Rattle.acceptance.specs.Check.{Verdict, refusal, fine, then_judge, sums_judged, Side, sides, kinds_judged, items_judged, overlaps_judged, sums_verdict}
use Rattle.sumorder.specs.Reached.{Past, all_left, one_past}
use Rattle.sumorder.specs.Row.{row_verdict}
use Rattle.sumorder.proofs.LineOrder.{sums_skip, overlaps_skip}

then_assoc : (u v w : Verdict) → then_judge (then_judge u v) w ≡ then_judge u (then_judge v w)
unfolding then_judge
then_assoc (refusal n k) v w = refl
then_assoc fine v w = refl

-- A refusal is the verdict, and where there is none the next is.
pub then-refused : (u v : Verdict) (n k : ℕ) → u ≡ refusal n k → then_judge u v ≡ refusal n k
unfolding then_judge
then-refused u v n k e = rw e

pub then-fine : (u v : Verdict) → u ≡ fine → then_judge u v ≡ v
unfolding then_judge
then-fine u v e = rw e

module _ (K : Operations) (O : Order) where
  -- The sums of a package are the row from its first kind on.
  pub sums_are : (rs ps : List Poly) (ss : List SumLine) → sums_verdict K O rs ps ss ≡ row_verdict K O (sides rs ps) ps ss
  unfolding sums_verdict row_verdict
  sums_are rs ps ss = refl

  -- The first kind, then the row behind it.
  pub row_first : (s : Side) (kinds : List Side) (ps : List Poly) (ss : List SumLine)
      → row_verdict K O (s ∷ kinds) ps ss ≡ then_judge (sums_judged s.number s.kind K O (family s.others) ss s.targets 1) (row_verdict K O kinds ps ss)
  unfolding row_verdict kinds_judged
  row_first s kinds ps ss = then_assoc (sums_judged s.number s.kind K O (family s.others) ss s.targets 1) (kinds_judged K O ss kinds) _

  -- No kind left: 15, then the overlaps and inclusions.
  pub row-none : (ps : List Poly) (ss : List SumLine)
      → row_verdict K O [] ps ss ≡ then_judge (items_judged (length (overlaps (leads ps))) ss) (overlaps_judged K O (family ps) ss (overlaps (leads ps)) 1)
  unfolding row_verdict kinds_judged then_judge
  row-none ps ss = refl

  -- Lines of one kind are none of another's.
  module _ (k : ℕ) where
    past-sums : (n k' : ℕ) (G : Family) (fs : List Poly) → k ≢ k' → {ss rest : List SumLine} → Past k ss rest → sums_judged n k' K O G ss fs 1 ≡ sums_judged n k' K O G rest fs 1
    past-sums n k' G fs d all_left = refl
    past-sums n k' G fs d (one_past {s} {ss} {rest} e p) = sums_skip n k' K O G s ss fs 1 (λ q. absurd (d (sym e ∙ q))) ∙ past-sums n k' G fs d p

    past-items : (count : ℕ) → k ≢ sum_o → {ss rest : List SumLine} → Past k ss rest → items_judged count ss ≡ items_judged count rest
    unfolding items_judged
    past-items count d all_left = refl
    past-items count d (one_past {s} {ss} {rest} e p) =
        let n : s.kind ≢ sum_o = λ q. d (sym e ∙ q) in
        rw (items_judged, ne_eqb s.kind sum_o n) (past-items count d p)

    past-overlaps : (G : Family) (os : List Pair) → k ≢ sum_o → {ss rest : List SumLine} → Past k ss rest → overlaps_judged K O G ss os 1 ≡ overlaps_judged K O G rest os 1
    past-overlaps G os d all_left = refl
    past-overlaps G os d (one_past {s} {ss} {rest} e p) = overlaps_skip K O G s ss os 1 (λ q. absurd (d (sym e ∙ q))) ∙ past-overlaps G os d p

    pub past_kinds : (kinds : List Side) → All (λ s. k ≢ s.kind) kinds → {ss rest : List SumLine} → Past k ss rest → kinds_judged K O ss kinds ≡ kinds_judged K O rest kinds
    unfolding kinds_judged
    past_kinds [] done p = refl
    past_kinds (s ∷ kinds) (d also ds) p = rw (past-sums s.number s.kind (family s.others) s.targets d p, past_kinds kinds ds p)

    -- The lines of kind k may be left out of a row that judges none of kind k.
    pub row-past : (kinds : List Side) (ps : List Poly) → k ≢ sum_o → All (λ s. k ≢ s.kind) kinds → {ss rest : List SumLine} → Past k ss rest
        → row_verdict K O kinds ps ss ≡ row_verdict K O kinds ps rest
    unfolding row_verdict
    row-past kinds ps d ds p = rw (past_kinds kinds ds p, past-items (length (overlaps (leads ps))) d p, past-overlaps (family ps) (overlaps (leads ps)) d p)
