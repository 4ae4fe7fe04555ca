-- The check's answer by the answer on the pairs and by what 15 says.
use mathlib.Core.Path.{◌≡◌, sym, ap, ◌∙◌}
use mathlib.Core.Bool.{false}
use mathlib.Core.List.{List, []}
use Prim.Native.Nat.{ℕ}
use lib.ListN.{length}
use Rattle.std.specs.Prelude.{Ok, Err}
use Rattle.field.specs.Field.{Operations}
use Rattle.words.specs.Order.{Order}
use Rattle.algebra.specs.Poly.{Poly}
use Rattle.algebra.specs.Ideal.{family}
use Rattle.package.specs.declared.Refusal.{Refusal}
use Rattle.package.specs.Sums.{SumLine}
use Rattle.overlaps.specs.Overlaps.{leads, overlaps}
use Rattle.acceptance.specs.Check.{Verdict, refusal, fine, items_judged, overlaps_judged}
use Rattle.basis.specs.Answer.{verdict_of}
use Rattle.sumorder.specs.Row.{row_verdict}
use Rattle.sumorder.proofs.Row.{row-none, then-refused, then-fine}
use Rattle.lapsums.specs.declared.PairsPassed.{PairsPassed}
use Rattle.lapsums.specs.Judged.{LapsBehind}
use Rattle.lapsums.specs.Answer.{answer_of}

-- A verdict's answer.
pub refused-answer : (v : Verdict) (r : Refusal) (count : ℕ) → v ≡ refusal r.number r.place → Err r ≡ answer_of v count
unfolding answer_of
refused-answer v r count e = rw e

fine-answer : (v : Verdict) (count : ℕ) → v ≡ fine → Ok count ≡ answer_of v count
unfolding answer_of
fine-answer v count e = rw e

-- The pairs were counted, and 15 is none where no line is left over.
module _ (n : ℕ) (ss : List SumLine) (laps : PairsPassed) (b : LapsBehind n ss (Ok laps)) where
  pub through_count : laps.count ≡ n
  unfolding LapsBehind
  through_count = b.0

  pub through_none : laps.left ≡ false → items_judged n ss ≡ fine
  unfolding LapsBehind
  through_none = b.1

module _ (K : Operations) (O : Order) (ps : List Poly) (ss : List SumLine) where
  abbrev total : ℕ
  total = length (overlaps (leads ps))

  abbrev row : Verdict
  row = row_verdict K O [] ps ss

  -- 15 is the first refusal.
  pub above-answer : (r : Refusal) → verdict_of {A = Unit {0}} (Err r) ≡ items_judged total ss → Err r ≡ answer_of row total
  unfolding verdict_of
  above-answer r e = refused-answer row r total (row-none K O ps ss ∙ then-refused _ _ r.number r.place (sym e))

  -- Where 15 is none, the pairs decide.
  pub stopped_answer : items_judged total ss ≡ fine → (r : Refusal)
      → verdict_of {A = PairsPassed} (Err r) ≡ overlaps_judged K O (family ps) ss (overlaps (leads ps)) 1 → Err r ≡ answer_of row total
  unfolding verdict_of
  stopped_answer e r h = refused-answer row r total (row-none K O ps ss ∙ then-fine _ _ e ∙ sym h)

  pub through_answer : (laps : PairsPassed) → LapsBehind total ss (Ok laps)
      → verdict_of (Ok laps) ≡ overlaps_judged K O (family ps) ss (overlaps (leads ps)) 1 → items_judged total ss ≡ fine
      → Ok laps.count ≡ answer_of row total
  unfolding verdict_of
  through_answer laps b h e = ap Ok (through_count total ss laps b) ∙ fine-answer row total (row-none K O ps ss ∙ then-fine _ _ e ∙ sym h)
