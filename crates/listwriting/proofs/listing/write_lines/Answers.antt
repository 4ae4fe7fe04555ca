-- `write_lines` writes the line of each pair. The loop's invariant: storing the lines that are left gives what storing all gives.
use mathlib.Core.Path.{subst}
use native.Mathlib.Omega.{arith}
use Rattle.overlapsearch.specs.Leading.{words_in}
use Rattle.overlapsearch.specs.Kept.{KeptPairs}
use Rattle.listwriting.proofs.Writing.{writing_start, number_asked, line_asked, writing_next, writing_end}
use Rattle.listwriting.proofs.listing.write_lines.Goals as goal

pub loop-k-init : goal.loop-k-init
loop-k-init c = let w = c.args.words.now in writing_start _ _ _ _ _ _ w.laid w.few w.short c.requires.in_bounds

pub pair_at-f-requires : goal.pair_at-f-requires
pair_at-f-requires c =
    let w = c.loop-k.invariant in
    let a = c.args.words.now in
    record {
      placed = w.placed;
      kept_pairs = subst (KeptPairs a.lens.now a.count (words_in a) c.args.kept.now) c.requires.counted c.requires.kept_pairs;
      left = (let e = c.requires.counted in let t = c.loop-k-test.true in omega arith, w.left);
    }

pub put_pair-place-requires-clause-in_bounds : goal.put_pair-place-requires-clause-in_bounds
put_pair-place-requires-clause-in_bounds c = line_asked _ _ _ _ _ _ _ _ _ _ c.loop-k.invariant _ c.pair_at-f.ensures.result_value c.pair_at-f.ensures.found_at

pub place_behind-from-requires : goal.place_behind-from-requires
place_behind-from-requires c = number_asked _ _ _ _ _ _ _ _ _ _ c.loop-k.invariant _ c.pair_at-f.ensures.result_value c.pair_at-f.ensures.found_at

pub loop-k-preserved : goal.loop-k-preserved
loop-k-preserved c =
    rw c.place_behind-from.ensures (writing_next _ _ _ _ _ _ _ _ _ _ c.loop-k.invariant _ c.pair_at-f.ensures.result_value c.pair_at-f.ensures.found_at _ _ (c.put_pair-place.ensures.value, c.put_pair-place.ensures.out_after))

pub shape_of-out : goal.shape_of-out
shape_of-out c = c.loop-k.invariant.same_length

pub returns : goal.returns
returns c =
    let e = c.requires.counted in
    let l = c.loop-k-test.false in
    let all = writing_end _ _ _ _ _ _ _ _ _ _ c.loop-k.invariant (omega arith) in
    record {
      value = all.0;
      out_after = all.1;
    }
