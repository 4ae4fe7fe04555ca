-- `word_until` reads what `word_then` gives: `-` goes by itself, and every other word by its letters.
use mathlib.Core.Path.{sym, ◌∙◌}
use Prim.Native.Nat.{◌+◌}
use native.Mathlib.Omega.{arith}
use borrow.Author.Tests.{eqb-true, eqb-false}
use Rattle.text.proofs.Cutting.{stop-end}
use Rattle.text.specs.Answers.{seen_word_until, next_word, span_word}
use Rattle.fieldreading.proofs.FieldReading.{word_end}
use Rattle.fieldreading.proofs.Fronts.{byte_inside}
use Rattle.wordreading.proofs.WordFronts.{dash_alone, dash_more}
use Rattle.wordreading.proofs.word.word_until.Goals as goal

pub returns-then-s-at : goal.returns-then-s-at
unfolding seen_word_until next_word span_word
returns-then-s-at g c = record {
  result_value = word_end g.row.END _ _ _ (sym (stop-end g.row.END _ _ c.if-s-at.true)) c.if-s-at.true;
  result_in_bounds = omega arith;
  result_in_bounds_2 = omega arith;
}

pub returns-then-ends_at : goal.returns-then-ends_at
unfolding seen_word_until next_word span_word
returns-then-ends_at g c =
    let a = c.args in
    let e = eqb-true _ _ (sym c.ends_at.ensures ∙ c.if-ends_at.true) in record {
      result_value = dash_alone g.row.END c.requires.positive c.requires.low _ _ c.if-s-at.false c.if-s-at-ne45.false e;
      result_in_bounds = omega (arith, byte_inside g.row.END a.s.now (a.at + 1) c.requires.positive e);
      result_in_bounds_2 = omega arith;
    }

pub returns : goal.returns
unfolding seen_word_until next_word span_word
returns g c =
    let e = eqb-false _ _ (sym c.ends_at.ensures ∙ c.if-ends_at.false) in
    record {
      result_value = dash_more g.row.END c.requires.positive c.requires.low _ _ c.if-s-at.false c.if-s-at-ne45.false e;
      result_in_bounds = omega arith;
      result_in_bounds_2 = omega arith;
    }
