-- `measure` counts the pairs and adds up the lengths of their lines. The loop's invariant: those so far and those that are left are all.
use mathlib.Core.Path.{refl}
use native.Mathlib.Omega.{arith}
use Rattle.overlapsearch.proofs.SeenPairs.{walk_less}
use Rattle.listmeasuring.proofs.Counting.{measuring_start, count-few, total_few, pair_is, line_asked, pair_small, measuring_next, measuring_end}
use borrow.Author.Rules.{rules}
use Rattle.listmeasuring.proofs.measuring.measure.Goals as goal

pub loop-next-init : goal.loop-next-init
loop-next-init c =
    let w = c.args.words.now in
    (measuring_start _ _ _ _ w.laid w.few w.short _ _ c.first_pair-next.ensures.result_value c.first_pair-next.ensures.found_at, refl)

pub keep_pair-requires : goal.keep_pair-requires
keep_pair-requires c = pair_small _ _ _ _ _ _ _ _ c.loop-next.invariant.0 _ c.in-Some.is

pub overflow_add-count : goal.overflow_add-count
overflow_add-count c = omega (arith, count-few _ _ _ _ _ _ _ _ c.loop-next.invariant.0 _ c.in-Some.is)

pub word_len-requires : goal.word_len-requires
word_len-requires c = pair_is _ _ _ _ _ _ _ _ c.loop-next.invariant.0 _ c.in-Some.is

pub line_len-total-requires : goal.line_len-total-requires
line_len-total-requires c =
    let q = line_asked _ _ _ _ _ _ _ _ c.loop-next.invariant.0 _ c.in-Some.is in
    (omega (arith, count-few _ _ _ _ _ _ _ _ c.loop-next.invariant.0 _ c.in-Some.is), q.first-few, q.second-few, q.shared-few, q.at_few, c.word_len.ensures.1)

pub overflow_add-total : goal.overflow_add-total
overflow_add-total c = omega (arith, total_few _ _ _ _ _ _ _ _ c.loop-next.invariant.0, c.line_len-total.ensures.1)

pub pair_behind-next-requires : goal.pair_behind-next-requires
pair_behind-next-requires c = pair_is _ _ _ _ _ _ _ _ c.loop-next.invariant.0 _ c.in-Some.is

pub loop-next-smaller : goal.loop-next-smaller
loop-next-smaller c = walk_less _ _ _ _ _ _ c.loop-next.invariant.0.walked _ c.in-Some.is _ c.pair_behind-next.ensures.result_value

pub loop-next-preserved : goal.loop-next-preserved
loop-next-preserved c =
    (measuring_next _ _ _ _ _ _ _ _ c.loop-next.invariant.0 _ c.in-Some.is _ c.keep_pair.ensures _ c.pair_behind-next.ensures.result_value c.pair_behind-next.ensures.found_at _ (rw c.word_len.ensures.0 at c.line_len-total.ensures.0) c.line_len-total.ensures.1, search rules)

pub returns : goal.returns
returns c =
    let m = measuring_end _ _ _ _ _ _ _ _ c.loop-next.invariant.0 c.in_default.is in
    record {
      count_value = m.all;
      bytes_value = m.whole;
      count_bound = (m.count_most, m.whole-most);
      kept_pairs = m.keeps;
    }
