-- `put_case`: the name, and behind it the answer.
use mathlib.Core.Path.{sym}
use Prim.Native.Nat.{◌≤◌}
use native.Mathlib.Omega.{arith}
use lib.ListN.{length, take, length-take}
use lib.Seq.{length-take-le}
use Rattle.cases.specs.CaseTexts.{answer_text, case_text}
use Rattle.cases.proofs.AnswerStores.{stored_both}
use Rattle.cases.proofs.answers.put_case.Goals as goal

pub slice_bounds-put_bytes-end : goal.slice_bounds-put_bytes-end
slice_bounds-put_bytes-end c = sym (length-take-le 51 c.args.line.now (omega (arith, c.requires.line_len)))

pub put_bytes-at-requires : goal.put_bytes-at-requires
put_bytes-at-requires c =
    omega (arith, length-take 51 c.args.line.now, c.requires.line_len, c.requires.text_len)

pub put_answer-requires : goal.put_answer-requires
put_answer-requires c =
    record {
      line_len = c.requires.line_len;
      at_in_bounds = omega (arith, length-take 51 c.args.line.now, c.put_bytes-at.ensures.value, c.requires.line_len, c.requires.text_len);
    }

pub returns : goal.returns
unfolding case_text
returns c =
    let b : c.put_answer.result ≤ length c.args.text.now = omega (arith, c.put_answer.ensures.value.1) in
    let e = stored_both c.args.text.now _ _ 0 _ _ (take 51 c.args.line.now) (answer_text c.args.line.now c.args.«package».now c.args.formula.now) (c.put_bytes-at.ensures.value, c.put_bytes-at.ensures.out_after) (c.put_answer.ensures.value.0, c.put_answer.ensures.text_after) in
    record {
      value = (omega (arith, e.0), b);
      text_after = e.1;
    }
