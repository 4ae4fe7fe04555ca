-- `judge_sum` reads and judges a line as `block3` does.
use mathlib.Core.Path.{refl, sym, ◌∙◌}
use Rattle.package.specs.Held.{seen_sum, SumInside, seen_sum_judged, JudgedInside}
use Rattle.sumreading.proofs.SumTurns.{sums_none, sums_5, sums_6}
use Rattle.sumreading.proofs.sum_lines.judge_sum.Goals as goal

pub returns-in_default : goal.returns-in_default
unfolding seen_sum seen_sum_judged JudgedInside
returns-in_default c =
    let a = c.args in record {
      by_index = λ n. sums_none a.h a.m a.last_kind a.last_item n a.s.now a.at c.requires.at_in_bounds (sym c.in_default.ensures.result_value);
      place = refl;
      judged_inside = tt;
      numbers = tt;
    }

pub sum_fits-requires-clause-words_inside : goal.sum_fits-requires-clause-words_inside
unfolding SumInside
sum_fits-requires-clause-words_inside c =
    let i = c.in-Some.ensures.sum_inside in
    (i.0, i.1)

pub returns-then-not-sum_fits : goal.returns-then-not-sum_fits
unfolding seen_sum seen_sum_judged JudgedInside
returns-then-not-sum_fits c =
    let a = c.args in record {
      by_index = λ n.
          sums_5 a.h a.m a.last_kind a.last_item n _ _ _ _ _ _ _ a.s.now a.at (sym c.in-Some.ensures.result_value)
          (sym c.sum_fits.ensures ∙ c.if-not-sum_fits.true);
      place = refl;
      judged_inside = tt;
      numbers = tt;
    }

pub returns-then-not-sum_follows : goal.returns-then-not-sum_follows
unfolding seen_sum seen_sum_judged JudgedInside
returns-then-not-sum_follows c =
    let a = c.args in record {
      by_index = λ n.
          sums_6 a.h a.m a.last_kind a.last_item n _ _ _ _ _ _ _ a.s.now a.at (sym c.in-Some.ensures.result_value)
          (sym c.sum_fits.ensures ∙ c.if-not-sum_fits.false) (sym c.sum_follows.ensures ∙ c.if-not-sum_follows.true);
      place = refl;
      judged_inside = tt;
      numbers = tt;
    }
