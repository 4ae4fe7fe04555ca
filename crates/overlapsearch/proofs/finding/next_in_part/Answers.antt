-- `next_in_part` finds the first pair of a part from a place on. The loop's invariant: what is left of the part from c on is what is left of it from the
-- first place on.
use mathlib.Core.Path.{sym, ◌∙◌}
use Rattle.overlapsearch.proofs.Searching.{row_falls, number-within, searching_found, searching_next, searching_end, of_part}
use Rattle.overlapsearch.proofs.finding.next_in_part.Goals as goal

pub pair_found-requires : goal.pair_found-requires
pair_found-requires g c = number-within _ _ _ _ _ c.loop-c.c c.loop-c.invariant c.loop-c-test.true _ (sym c.in-Some.ensures)

pub returns-in-Some-clause-result_value : goal.returns-in-Some-clause-result_value
returns-in-Some-clause-result_value g c =
    let z = searching_found _ _ _ _ _ c.loop-c.c c.loop-c.invariant c.loop-c-test.true _ (sym c.in-Some.ensures) in
    rw c.pair_found.ensures (of_part _ _ c.args.from _ c.requires.1 z.0)

pub returns-in-Some-clause-found_at : goal.returns-in-Some-clause-found_at
returns-in-Some-clause-found_at g c =
    let z = searching_found _ _ _ _ _ c.loop-c.c c.loop-c.invariant c.loop-c-test.true _ (sym c.in-Some.ensures) in
    rw c.pair_found.ensures (z.1.0, z.1.1 ∙ sym c.requires.1)

pub loop-c-smaller : goal.loop-c-smaller
loop-c-smaller g c =
    rw c.next_row-c.ensures (row_falls _ _ _ _ _ c.loop-c.c c.loop-c.invariant c.loop-c-test.true)

pub loop-c-preserved : goal.loop-c-preserved
loop-c-preserved g c =
    rw c.next_row-c.ensures (searching_next _ _ _ _ _ c.loop-c.c c.loop-c.invariant c.loop-c-test.true (sym c.number_at-next.ensures ∙ c.in_default.is))

pub returns-clause-result_value : goal.returns-clause-result_value
returns-clause-result_value g c =
    of_part _ _ c.args.from _ c.requires.1 (searching_end _ _ _ _ _ c.loop-c.c c.loop-c.invariant c.loop-c-test.false)
