-- `count_pairs` counts the pairs. The loop's invariant: those counted and those left are all.
use native.Mathlib.Omega.{arith}
use Rattle.overlapsearch.proofs.SeenPairs.{walk_few, walk_less, walk_next, walk_end}
use Rattle.overlapsearch.proofs.walking.count_pairs.Goals as goal

pub overflow_add-count : goal.overflow_add-count
overflow_add-count c = omega (arith, walk_few _ _ _ _ _ _ c.loop-next.invariant _ c.in-Some.is)

pub loop-next-smaller : goal.loop-next-smaller
loop-next-smaller c = walk_less _ _ _ _ _ _ c.loop-next.invariant _ c.in-Some.is _ c.pair_behind-next.ensures.result_value

pub loop-next-preserved : goal.loop-next-preserved
loop-next-preserved c =
    walk_next _ _ _ _ _ _ c.loop-next.invariant _ c.in-Some.is _ c.pair_behind-next.ensures.result_value c.pair_behind-next.ensures.found_at

pub returns : goal.returns
returns c = walk_end _ _ _ _ _ _ c.loop-next.invariant c.in_default.is
