-- `start_difference` places the first side, and takes the second away, each with the inverse of its leading coefficient.
use Prim.Native.Nat.{◌+◌}
use native.Mathlib.Omega.{arith}
use Rattle.itemadding.proofs.Lowering.{lower_none}
use Rattle.tablesums.proofs.Fitting.{short-fits, empty-short}
use Rattle.tablesums.proofs.Differences.{first-working, difference_is}
use Rattle.tablesums.proofs.starting.start_difference.Goals as goal

pub place_item-requires : goal.place_item-requires
place_item-requires c =
    let (tabled, first, _) = c.requires.tabled in
    let r = c.requires.short_word_3 in
    let none = empty-short c.args.t.now in
    let e = c.gens_in-base.ensures in
    let item = c.gens_in-base.result + 1 + c.args.pair.first in
    let fits = short-fits _ tabled 0 c.args.rest.now.size item none.short.few r.short.few (omega arith) (omega arith) in
    record {
      tabled = (tabled, c.inverse_in-x.ensures.1, omega arith, omega arith);
      sixfold = (none.short.six, r.short.six, fits);
      arranged = c.requires.arranged;
    }

pub take_item-requires : goal.take_item-requires
take_item-requires c =
    let t = c.args.t.now in
    let (tabled, first, second) = c.requires.tabled in
    let l = c.requires.short_word in
    let b = c.requires.short_word_2 in
    let e = c.gens_in-base.ensures in
    let d = c.place_item.ensures in
    let item = c.gens_in-base.result + 1 + c.args.pair.second in
    let fits = short-fits _ tabled c.args.front.now.size c.args.back.now.size item l.short.few b.short.few (omega arith) (omega arith) in
    let works = first-working t tabled c.args.pair.first first _ _ (omega arith) c.inverse_in-x.ensures.0 _ _ _ _ _ _ _ d.holds d.placed in record {
      tabled = (tabled, c.inverse_in-y.ensures.1, omega arith, omega arith, omega arith, omega (arith, d.upper_bound));
      sixfold = (l.short.six, b.short.six, fits);
      working = (works, lower_none _ _ _ _ _ _);
    }

pub returns : goal.returns
returns c =
    let t = c.args.t.now in
    let (tabled, first, second) = c.requires.tabled in
    let l = c.requires.short_word in
    let b = c.requires.short_word_2 in
    let r = c.requires.short_word_3 in
    let e = c.gens_in-base.ensures in
    let d = c.place_item.ensures in
    let a = c.take_item.ensures in
    record {
      upper_bound = omega (arith, d.upper_bound, a.upper_bound);
      working = a.working_2;
      difference = difference_is t tabled c.args.pair first second _ _ _ _ (omega arith) (omega arith) c.inverse_in-x.ensures.0
          c.inverse_in-y.ensures.0 _ _ _ _ _ _ (empty-short t).word l.word b.word r.word d.placed a.taken;
    }
