-- `next_pair` looks in the place's part, and behind the overlaps among the inclusions.
use mathlib.Core.Path.{refl}
use Rattle.overlapsearch.specs.Position.{turn}
use Rattle.overlapsearch.proofs.Searching.{seen_here, seen-turn, seen-inclusions}
use Rattle.overlapsearch.proofs.finding.next_pair.Goals as goal

pub returns-then-from-clause-result_value : goal.returns-then-from-clause-result_value
returns-then-from-clause-result_value c =
    let e = c.next_in_part.ensures in
    seen-inclusions _ _ _ _ _ c.if-from.true e.found_at e.result_value

pub returns-in-Some-clause-result_value : goal.returns-in-Some-clause-result_value
returns-in-Some-clause-result_value c = let e = c.in-Some.ensures in seen_here _ _ _ e.found_at.1 e.result_value

pub returns-clause-result_value : goal.returns-clause-result_value
returns-clause-result_value c =
    let e = c.next_in_part-2.ensures in
    seen-turn _ _ c.in_default.ensures.result_value c.if-from.false _ (seen-inclusions _ _ _ turn _ refl e.found_at e.result_value)
