-- `judge_sums` judges the sums of a kind. The outer loop's invariant: what is left of the items gives the verdict; the inner loop's: what is left of
-- the item's lines does (proofs/SumsJudging).
use mathlib.Core.Path.{refl, sym}
use Prim.Native.Nat.{◌+◌, ◌≤◌, ◌<◌}
use native.Mathlib.Omega.{arith}
use lib.ListN.{length}
use Rattle.field.proofs.Fields.{below_of}
use Rattle.working.proofs.Terms.{terms-length}
use Rattle.basis.specs.Answer.{verdict_of}
use Rattle.sumorder.proofs.NextLine.{next_fits, next_low, next-further}
use Rattle.packedterms.specs.InFormula.{term_in}
use Rattle.tablesums.proofs.Fitting.{short-fits, empty-short}
use Rattle.tablelies.proofs.SumWords.{line-words}
use Rattle.itemadding.proofs.Lowering.{lower_none}
use Rattle.kindsums.specs.Kinds.{side_in}
use Rattle.kindsums.specs.Judged.{LeftBehind}
use Rattle.kindsums.proofs.KindItems.{kind-items, target-placed, target-working, line_taken}
use Rattle.kindsums.proofs.SumsJudging.{items-start, lines_start, lines-over, lines_next, lines_wrong, lines_end, items-end, line_here}
use Rattle.kindsums.proofs.judging.judge_sums.Goals as goal

pub line_at-next-requires : goal.line_at-next-requires
line_at-next-requires c = c.requires.reached.low

pub items-init : goal.items-init
items-init c =
    let read = c.line_at-next.ensures in
    (c.requires.arranged, items-start _ _ _ _ _ _ _ _ _ _ _ refl c.requires.reached _ read.inside read.by_index)

pub overflow_add-item : goal.overflow_add-item
overflow_add-item c =
    let items = kind-items c.args.t.now c.requires.tabled c.args.kind c.kind_numbers-k.result c.kind_numbers-k.ensures in
    let l = c.items-test.true in
    let few = items.few in
    record { fits = omega arith }

pub overflow_add-target : goal.overflow_add-target
overflow_add-target c =
    let items = kind-items c.args.t.now c.requires.tabled c.args.kind c.kind_numbers-k.result c.kind_numbers-k.ensures in
    let l = c.items-test.true in
    let q = items.target_in (c.items.g + 1) (omega arith) in
    let g = c.requires.tabled.gens in
    let b = c.requires.tabled.basis in
    record { fits = omega arith }

pub place_item-requires : goal.place_item-requires
place_item-requires c =
    let items = kind-items c.args.t.now c.requires.tabled c.args.kind c.kind_numbers-k.result c.kind_numbers-k.ensures in
    let l = c.items-test.true in
    let none = empty-short c.args.t.now in
    let target = c.kind_numbers-k.result.targets + (c.items.g + 1) in
    let most = items.target_in (c.items.g + 1) (omega arith) in
    let first : 1 ≤ target = omega arith in
    let fit = short-fits c.args.t.now c.requires.tabled 0 0 target none.short.few none.short.few first most in
    record {
      tabled = (c.requires.tabled, below_of _ c.requires.tabled.field.one_lt, first, most);
      sixfold = (none.short.six, none.short.six, fit);
      arranged = c.items.invariant.0;
    }

pub loop-s-init : goal.loop-s-init
loop-s-init c =
    let items = kind-items c.args.t.now c.requires.tabled c.args.kind c.kind_numbers-k.result c.kind_numbers-k.ensures in
    let l = c.items-test.true in
    let count = items.count in
    let inside : c.items.g < length (side_in c.args.t.now c.args.kind).targets = omega arith in
    let d = c.place_item.ensures in
    let few = d.upper_bound in
    let none = empty-short c.args.t.now in
    let e = target-placed items c.requires.tabled (c.items.g + 1) (omega arith) (omega arith) _ _ none.word none.word _ d.placed in (
      omega arith,
      target-working items (c.items.g + 1) c.place_item.new.f d.holds e,
      lines_start _ _ _ _ _ _ _ _ _ _ _ _ _ c.items.invariant.1 inside _ e,
    )

pub pack_sides-requires : goal.pack_sides-requires
pack_sides-requires c =
    let i = c.loop-s.invariant in
    let (d, its) = line_here i.2 c.in-Some.ensures.same c.in-Some.ensures.of_item in
    (c.requires.tabled.keys, line-words _ _ _ _ _ _ _ d.next its)

pub overflow_add-j : goal.overflow_add-j
overflow_add-j c =
    let items = kind-items c.args.t.now c.requires.tabled c.args.kind c.kind_numbers-k.result c.kind_numbers-k.ensures in
    let (d, its) = line_here c.loop-s.invariant.2 c.in-Some.ensures.same c.in-Some.ensures.of_item in
    let fits = next_fits _ _ _ _ _ _ _ d.next its in
    let q = items.other_in c.in-Some.s.of fits.most in
    let g = c.requires.tabled.gens in
    let b = c.requires.tabled.basis in
    record { fits = omega arith }

pub take_item-requires : goal.take_item-requires
take_item-requires c =
    let items = kind-items c.args.t.now c.requires.tabled c.args.kind c.kind_numbers-k.result c.kind_numbers-k.ensures in
    let i = c.loop-s.invariant in
    let (d, its) = line_here i.2 c.in-Some.ensures.same c.in-Some.ensures.of_item in
    let l = c.pack_sides.ensures.short_word in
    let r = c.pack_sides.ensures.short_word_2 in
    let fits = next_fits _ _ _ _ _ _ _ d.next its in
    let some = fits.some in
    let few = i.0 in
    let first : 1 ≤ c.kind_numbers-k.result.others + c.in-Some.s.of = omega arith in
    let most = items.other_in c.in-Some.s.of fits.most in
    let fit = short-fits _ c.requires.tabled _ _ _ l.short.few r.short.few first most in
    record {
      tabled = (c.requires.tabled, fits.coef, first, most, omega arith, omega arith);
      sixfold = (l.short.six, r.short.six, fit);
      working = (i.1, lower_none _ _ _ _ _ _);
    }

pub returns-then-over : goal.returns-then-over
unfolding verdict_of LeftBehind
returns-then-over c =
    let items = kind-items c.args.t.now c.requires.tabled c.args.kind c.kind_numbers-k.result c.kind_numbers-k.ensures in
    let (d, its) = line_here c.loop-s.invariant.2 c.in-Some.ensures.same c.in-Some.ensures.of_item in
    let e = c.take_item.ensures in
    let l = c.pack_sides.ensures.short_word in
    let r = c.pack_sides.ensures.short_word_2 in
    let fits = next_fits _ _ _ _ _ _ _ d.next its in
    let gone = line_taken items _ c.in-Some.s _ _ l r fits.some fits.most _ _ e.taken in
    let over = lines-over _ _ _ _ _ _ _ _ _ _ _ _ _ _ d its _ gone in
    record {
      result_value = over (rw (terms-length (term_in _ _) 0 c.take_item.new.f.terms) c.if-over.true);
      left_behind = tt;
      arranged_2 = e.working_2.holds.arranged;
    }

pub overflow_add-line : goal.overflow_add-line
overflow_add-line c =
    let r = c.loop-s.invariant.2.next.reached in
    let a = r.small in
    let b = r.low in
    let d = r.size in
    record { fits = omega arith }

pub line_at-next-requires-in-Some : goal.line_at-next-requires-in-Some
line_at-next-requires-in-Some c =
    let (d, its) = line_here c.loop-s.invariant.2 c.in-Some.ensures.same c.in-Some.ensures.of_item in
    next_low _ _ _ _ _ _ _ d.next its

pub loop-s-smaller : goal.loop-s-smaller
loop-s-smaller c =
    let (d, its) = line_here c.loop-s.invariant.2 c.in-Some.ensures.same c.in-Some.ensures.of_item in
    let low = next_low _ _ _ _ _ _ _ d.next its in
    let further = next-further _ _ _ _ _ _ _ d.next its in
    omega arith

pub loop-s-preserved : goal.loop-s-preserved
loop-s-preserved c =
    let items = kind-items c.args.t.now c.requires.tabled c.args.kind c.kind_numbers-k.result c.kind_numbers-k.ensures in
    let (d, its) = line_here c.loop-s.invariant.2 c.in-Some.ensures.same c.in-Some.ensures.of_item in
    let e = c.take_item.ensures in
    let l = c.pack_sides.ensures.short_word in
    let r = c.pack_sides.ensures.short_word_2 in
    let fits = next_fits _ _ _ _ _ _ _ d.next its in
    let gone = line_taken items _ c.in-Some.s _ _ l r fits.some fits.most _ _ e.taken in
    let read = c.line_at-next-in-Some.ensures in
    let left = c.if-over.false in
    let next = lines_next _ _ _ _ _ _ _ _ _ _ _ _ _ _ d its _ gone in
    (left, e.working_2, next (rw (terms-length (term_in _ _) 0 c.take_item.new.f.terms) left) _ read.inside read.by_index)

pub returns-then-f-gt0 : goal.returns-then-f-gt0
unfolding verdict_of LeftBehind
returns-then-f-gt0 c =
    let items = kind-items c.args.t.now c.requires.tabled c.args.kind c.kind_numbers-k.result c.kind_numbers-k.ensures in
    let i = c.loop-s.invariant in
    let wrong = lines_wrong _ _ _ _ _ _ _ _ _ _ _ _ _ _ i.2 (sym (c.in_default.ensures.of_item _ _)) in
    record {
      result_value = rw items.number (wrong (rw (terms-length (term_in _ _) 0 c.loop-s.f.terms) c.if-f-gt0.true));
      left_behind = tt;
      arranged_2 = i.1.holds.arranged;
    }

pub items-preserved : goal.items-preserved
items-preserved c =
    let i = c.loop-s.invariant in
    let done = lines_end _ _ _ _ _ _ _ _ _ _ _ _ _ _ i.2 (sym (c.in_default.ensures.of_item _ _)) in
    (i.1.holds.arranged, done (rw (terms-length (term_in _ _) 0 c.loop-s.f.terms) c.if-f-gt0.false))

pub returns : goal.returns
returns c =
    let items = kind-items c.args.t.now c.requires.tabled c.args.kind c.kind_numbers-k.result c.kind_numbers-k.ensures in
    let last = c.items-test.false in
    let count = items.count in
    let told = items-end _ _ _ _ _ _ _ _ _ _ _ _ _ c.items.invariant.1 (omega arith) in
    record {
      result_value = told.0;
      left_behind = told.1;
      arranged_2 = c.items.invariant.0;
    }
