-- `judge_overlaps` judges the sums of the pairs. The outer loop's invariant: what is left of the pairs gives the verdict; the inner loop's: what is left
-- of the pair's lines does (proofs/OverlapsJudging).
use mathlib.Core.Path.{refl, sym, ◌∙◌}
use mathlib.Core.Bool.{true, false}
use Prim.Native.Nat.{◌+◌, ◌≤◌}
use native.Mathlib.Omega.{arith}
use borrow.Author.Rules.{rules}
use Rattle.itemadding.proofs.Lowering.{lower_none}
use Rattle.working.proofs.Terms.{terms-length}
use Rattle.overlapsearch.proofs.SeenPairs.{walk_start, walk_few, walk_found, walk_less, walk_next}
use Rattle.sumorder.proofs.NextLine.{next-line, next_low, next-further}
use Rattle.table.specs.Table.{basis_count_in, items_in}
use Rattle.tablesums.proofs.Fitting.{short-fits}
use Rattle.tablesums.proofs.LeadingWords.{lapping_in}
use Rattle.tablelies.proofs.SumWords.{line-words}
use Rattle.basis.specs.Answer.{verdict_of}
use Rattle.lapsums.specs.Judged.{LapsBehind}
use Rattle.lapsums.proofs.OverlapsJudging.{overlaps-start, lap_start, lap_not, lap_over, lap_next, lap_wrong, lap_end}
use Rattle.lapsums.proofs.OverlapsJudging.{overlaps-end, line_here, line_small, line_names, line_tested, line_taken}
use Rattle.lapsums.proofs.overlap_sums.judge_overlaps.Goals as goal

pub line_at-next-requires : goal.line_at-next-requires
line_at-next-requires c = c.requires.reached.low

pub items-init : goal.items-init
items-init c =
    let words = c.args.words.now in
    let leading = c.requires.tabled.1.leading in
    let read = c.line_at-next.ensures in
    let q = c.first_pair-found.ensures in (
      walk_start _ _ _ _ words.laid words.few words.short _ q.result_value q.found_at,
      overlaps-start _ _ _ _ _ _ _ _ _ _ (next-line _ _ _ _ _ _ _ c.requires.reached read.inside read.by_index) _ (rw leading at q.result_value) refl refl refl,
      c.requires.arranged,
    )

pub overflow_add-item : goal.overflow_add-item
overflow_add-item c =
    omega (arith, walk_few _ _ _ _ _ _ c.items.invariant.0 _ c.in-Some.is)

pub start_lap-requires : goal.start_lap-requires
start_lap-requires c =
    let (tabled, leading) = c.requires.tabled in
    record { tabled = (tabled, lapping_in leading _ (walk_found _ _ _ _ _ _ c.items.invariant.0 _ c.in-Some.is)); arranged = c.items.invariant.2 }

pub loop-s-init : goal.loop-s-init
loop-s-init c =
    let i = c.items.invariant in
    let e = c.start_lap.ensures in
    let less = e.upper_bound in (
      omega arith,
      e.working,
      lap_start _ _ _ _ _ _ _ _ _ _ _ i.1 _ c.in-Some.is _ e.difference,
      λ p. c.is_some-lined.ensures ∙ c.item_line.ensures.of_item _ _ ∙ p,
    )

pub pack_sides-requires : goal.pack_sides-requires
pack_sides-requires c =
    let (d, ours) = line_here c.loop-s.invariant.2 c.in-Some-item_line.ensures.same c.in-Some-item_line.ensures.of_item in
    (c.requires.tabled.0.keys, line-words _ _ _ _ _ _ _ d.next ours)

pub is_under-under-requires : goal.is_under-under-requires
is_under-under-requires c =
    let (d, ours) = line_here c.loop-s.invariant.2 c.in-Some-item_line.ensures.same c.in-Some-item_line.ensures.of_item in
    let names : (1 ≤ c.in-Some-item_line.s.of) × (c.in-Some-item_line.s.of ≤ basis_count_in c.args.t.now) = line_names _ _ _ _ _ _ _ _ _ _ _ _ d ours in
    let worded = c.start_lap.ensures.lap_word (c.loop-s.invariant.3 (sym (c.in-Some-item_line.ensures.of_item c.args.words.now.bytes.now c.loop-s.line))) in
    let tabled = c.requires.tabled.0 in
    let l = c.pack_sides.ensures.short_word in
    let r = c.pack_sides.ensures.short_word_2 in
    record {
      tabled = (tabled, names.0, names.1, worded.built);
      short = (l.short, r.short);
    }

pub overflow_add-j : goal.overflow_add-j
overflow_add-j c =
    let (d, ours) = line_here c.loop-s.invariant.2 c.in-Some-item_line.ensures.same c.in-Some-item_line.ensures.of_item in
    let names : (1 ≤ c.in-Some-item_line.s.of) × (c.in-Some-item_line.s.of ≤ basis_count_in c.args.t.now) = line_names _ _ _ _ _ _ _ _ _ _ _ _ d ours in
    omega (arith, c.gens_in-base.ensures, names.1, c.requires.tabled.0.gens, c.requires.tabled.0.basis)

pub take_item-requires : goal.take_item-requires
take_item-requires c =
    let (d, ours) = line_here c.loop-s.invariant.2 c.in-Some-item_line.ensures.same c.in-Some-item_line.ensures.of_item in
    let names : (1 ≤ c.in-Some-item_line.s.of) × (c.in-Some-item_line.s.of ≤ basis_count_in c.args.t.now) = line_names _ _ _ _ _ _ _ _ _ _ _ _ d ours in
    let tabled = c.requires.tabled.0 in
    let i = c.loop-s.invariant in
    let most = i.0 in
    let base = c.gens_in-base.ensures in
    let n₀ = names.0 in
    let n₁ = names.1 in
    let l = c.pack_sides.ensures.short_word in
    let r = c.pack_sides.ensures.short_word_2 in
    let small = line_small _ _ _ _ _ _ _ _ _ _ _ _ d ours in
    let first : 1 ≤ c.gens_in-base.result + c.in-Some-item_line.s.of = omega arith in
    let last : c.gens_in-base.result + c.in-Some-item_line.s.of ≤ items_in c.args.t.now = omega arith in
    let fit = short-fits _ tabled _ _ _ l.short.few r.short.few first last in
    record {
      tabled = (tabled, small, first, last, omega arith, omega arith);
      sixfold = (l.short.six, r.short.six, fit);
      working = (i.1, lower_none _ _ _ _ _ _);
    }

pub overflow_add-line : goal.overflow_add-line
overflow_add-line c =
    let r = c.loop-s.invariant.2.next.reached in
    omega (arith, r.small, r.low, r.size)

pub line_at-next-requires-in-Some-item_line : goal.line_at-next-requires-in-Some-item_line
line_at-next-requires-in-Some-item_line c =
    let (d, ours) = line_here c.loop-s.invariant.2 c.in-Some-item_line.ensures.same c.in-Some-item_line.ensures.of_item in
    next_low _ _ _ _ _ _ _ d.next ours

pub loop-s-smaller : goal.loop-s-smaller
loop-s-smaller c =
    let (d, ours) = line_here c.loop-s.invariant.2 c.in-Some-item_line.ensures.same c.in-Some-item_line.ensures.of_item in
    let a = next_low _ _ _ _ _ _ _ d.next ours in
    let b = next-further _ _ _ _ _ _ _ d.next ours in
    omega arith

pub loop-s-preserved : goal.loop-s-preserved
loop-s-preserved c =
    let (d, ours) = line_here c.loop-s.invariant.2 c.in-Some-item_line.ensures.same c.in-Some-item_line.ensures.of_item in
    let worded = c.start_lap.ensures.lap_word (c.loop-s.invariant.3 (sym (c.in-Some-item_line.ensures.of_item c.args.words.now.bytes.now c.loop-s.line))) in
    let i = c.loop-s.invariant in
    let l = c.pack_sides.ensures.short_word in
    let r = c.pack_sides.ensures.short_word_2 in
    let most = c.if-over.false in
    let e = line_tested _ _ _ _ _ _ _ _ _ _ _ _ d ours _ _ l r _ worded.word _ c.is_under-under.ensures.by_index true (search rules) in
    let q = c.take_item.ensures.taken ∙ line_taken _ _ _ _ _ _ _ _ _ _ _ _ d ours _ _ l r _ c.gens_in-base.ensures in (
      most,
      c.take_item.ensures.working_2,
      lap_next _ _ _ _ _ _ _ _ _ _ _ _ d ours e _ q _ (terms-length _ 0 _) most _ c.line_at-next-in-Some-item_line.ensures.inside c.line_at-next-in-Some-item_line.ensures.by_index,
      λ p. i.3 (sym (c.in-Some-item_line.ensures.of_item c.args.words.now.bytes.now c.loop-s.line)),
    )

pub pair_behind-found-requires : goal.pair_behind-found-requires
pair_behind-found-requires c = walk_found _ _ _ _ _ _ c.items.invariant.0 _ c.in-Some.is

pub items-smaller : goal.items-smaller
items-smaller c =
    walk_less _ _ _ _ _ _ c.items.invariant.0 _ c.in-Some.is _ c.pair_behind-found.ensures.result_value

pub items-preserved : goal.items-preserved
items-preserved c =
    let none = sym (c.in_default-item_line.ensures.of_item c.args.words.now.bytes.now c.loop-s.line) in
    let i = c.loop-s.invariant in
    let q = c.pair_behind-found.ensures in (
      walk_next _ _ _ _ _ _ c.items.invariant.0 _ c.in-Some.is _ q.result_value q.found_at,
      lap_end _ _ _ _ _ _ _ _ _ _ _ _ i.2 none _ (terms-length _ 0 _) c.if-f-gt0.false _ (rw c.requires.tabled.1.leading at q.result_value),
      i.1.holds.arranged,
    )

pub returns : goal.returns
returns c =
    let (v, b) = overlaps-end _ _ _ _ _ _ _ _ _ _ _ c.items.invariant.1 c.in_default.is _ refl _ c.is_some.ensures in
    record {
      result_value = v;
      laps_behind = b;
    }

pub returns-then-fails : goal.returns-then-fails
unfolding verdict_of LapsBehind
returns-then-fails c =
    let (d, ours) = line_here c.loop-s.invariant.2 c.in-Some-item_line.ensures.same c.in-Some-item_line.ensures.of_item in
    let worded = c.start_lap.ensures.lap_word (c.loop-s.invariant.3 (sym (c.in-Some-item_line.ensures.of_item c.args.words.now.bytes.now c.loop-s.line))) in
    let l = c.pack_sides.ensures.short_word in
    let r = c.pack_sides.ensures.short_word_2 in
    let e = line_tested _ _ _ _ _ _ _ _ _ _ _ _ d ours _ _ l r _ worded.word _ c.is_under-under.ensures.by_index false (search rules) in
    record {
      result_value = lap_not _ _ _ _ _ _ _ _ _ _ _ _ d ours e;
      laps_behind = tt;
    }

pub returns-then-over : goal.returns-then-over
unfolding verdict_of LapsBehind
returns-then-over c =
    let (d, ours) = line_here c.loop-s.invariant.2 c.in-Some-item_line.ensures.same c.in-Some-item_line.ensures.of_item in
    let worded = c.start_lap.ensures.lap_word (c.loop-s.invariant.3 (sym (c.in-Some-item_line.ensures.of_item c.args.words.now.bytes.now c.loop-s.line))) in
    let i = c.loop-s.invariant in
    let l = c.pack_sides.ensures.short_word in
    let r = c.pack_sides.ensures.short_word_2 in
    let e = line_tested _ _ _ _ _ _ _ _ _ _ _ _ d ours _ _ l r _ worded.word _ c.is_under-under.ensures.by_index true (search rules) in
    let q = c.take_item.ensures.taken ∙ line_taken _ _ _ _ _ _ _ _ _ _ _ _ d ours _ _ l r _ c.gens_in-base.ensures in
    record {
      result_value = lap_over _ _ _ _ _ _ _ _ _ _ _ _ d ours e _ q _ (terms-length _ 0 _) c.if-over.true;
      laps_behind = tt;
    }

pub returns-then-f-gt0 : goal.returns-then-f-gt0
unfolding verdict_of LapsBehind
returns-then-f-gt0 c =
    let none = sym (c.in_default-item_line.ensures.of_item c.args.words.now.bytes.now c.loop-s.line) in
    record {
      result_value = lap_wrong _ _ _ _ _ _ _ _ _ _ _ _ c.loop-s.invariant.2 none _ (terms-length _ 0 _) c.if-f-gt0.true;
      laps_behind = tt;
    }
