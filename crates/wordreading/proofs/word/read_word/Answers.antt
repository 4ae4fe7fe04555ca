-- `read_word` says the word that `word_of` gives.
use mathlib.Core.Path.{ap}
use native.Mathlib.Omega.{arith}
use lib.Seq.{take-length}
use borrow.Author.Tests.{eq-eqb, ne_eqb}
use Rattle.text.specs.Answers.{seen_word, len_word}
use Rattle.text.specs.Word.{word, word_of}
use Rattle.wordreading.proofs.word.read_word.Goals as goal

pub returns-then-f-eq0 : goal.returns-then-f-eq0
unfolding word_of seen_word len_word
returns-then-f-eq0 c = record {
  result_value = rw (word_of, eq-eqb _ _ c.if-f-eq0.true);
  result_in_bounds = omega arith;
}

pub returns-then-is_dash : goal.returns-then-is_dash
unfolding word_of seen_word len_word
returns-then-is_dash c = record {
  result_value = rw (word_of, ne_eqb _ _ c.if-f-eq0.false, ← c.is_dash.ensures, c.if-is_dash.true);
  result_in_bounds = omega arith;
}

pub returns-then-all_within : goal.returns-then-all_within
unfolding word_of seen_word len_word
returns-then-all_within c =
    record {
      result_value = rw (word_of, ne_eqb _ _ c.if-f-eq0.false, ← c.is_dash.ensures, c.if-is_dash.false, ← c.all_within.ensures, c.if-all_within.true)
          (ap word (take-length _));
      result_in_bounds = omega arith;
    }

pub returns : goal.returns
unfolding word_of seen_word len_word
returns c =
    record {
      result_value = rw (word_of, ne_eqb _ _ c.if-f-eq0.false, ← c.is_dash.ensures, c.if-is_dash.false, ← c.all_within.ensures, c.if-all_within.false);
      result_in_bounds = omega arith;
    }
