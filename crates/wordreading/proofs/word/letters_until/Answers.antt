-- `letters_until`: the bytes that are left of the piece are all letters where all its bytes are, and the piece ends where it did.
use mathlib.Core.Path.{sym, ◌∙◌}
use native.Mathlib.Omega.{arith}
use Rattle.text.specs.Answers.{seen_word_until, next_word, span_word}
use Rattle.wordreading.proofs.WordFronts.{letters-last, letters-ended, letters-none, letters_broken, letters-more, lowercase-within}
use Rattle.wordreading.proofs.word.letters_until.Goals as goal
use Rattle.wordreading.proofs.word.letters_until.Goals.{then-b-via-then-b, then-b-via-else-b+then-i-at}

pub returns-then-b : goal.returns-then-b
unfolding seen_word_until next_word span_word
returns-then-b g c =
    let v = c.loop-i.invariant in
    let e = rw c.from.ensures at (lowercase-within c.from.result ∙ sym c.is_within.ensures ∙ c.if-not-is_within.true) in
    record {
      result_value = elim c.then-b.branch [
        | then-b-via-then-b w ↦ letters_broken g.row.END c.requires.low _ _ _ v.0 v.1 c.requires.fact c.loop-i-test.true w.if-b.true e
        | then-b-via-else-b+then-i-at w ↦ letters-none g.row.END c.requires.low _ _ _ v.0 v.1 c.requires.fact c.loop-i-test.true w.if-b.false w.if-i-at.true
      ];
      result_in_bounds = omega arith;
      result_in_bounds_2 = omega arith;
    }

pub returns-then-not-is_within : goal.returns-then-not-is_within
unfolding seen_word_until next_word span_word
returns-then-not-is_within g c =
    let v = c.loop-i.invariant in
    record {
      result_value = letters-ended g.row.END c.requires.low _ _ _ v.0 v.1 c.requires.fact c.loop-i-test.true c.if-b.false
          (omega (arith, c.loop-i.auto.i, c.if-i-at.false));
      result_in_bounds = omega arith;
      result_in_bounds_2 = omega arith;
    }

pub loop-i-preserved : goal.loop-i-preserved
loop-i-preserved g c =
    let v = c.loop-i.invariant in
    letters-more g.row.END c.requires.low _ _ _ v.0 v.1 c.requires.fact c.loop-i-test.true
    (rw c.from.ensures at (lowercase-within c.from.result ∙ sym c.is_within.ensures ∙ c.if-not-is_within.false))

pub returns : goal.returns
unfolding seen_word_until next_word span_word
returns g c =
    let v = c.loop-i.invariant in
    record {
      result_value = letters-last g.row.END c.requires.low _ _ _ v.0 v.1 c.requires.fact c.loop-i-test.false;
      result_in_bounds = omega arith;
      result_in_bounds_2 = omega arith;
    }
