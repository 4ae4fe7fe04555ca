-- `put_answer`: each letter's text.
use Rattle.cases.proofs.AnswerTexts.{answer-checked, answer_listed, answer_shortened, answer_membership, answer-standing, answer-packed, answer_program, stored_as}
use borrow.Author.Rules.{rules}
use Rattle.cases.proofs.answers.put_answer.Goals as goal

pub returns-in-67 : goal.returns-in-67
returns-in-67 c =
    let all = stored_as _ _ _ _ _ _ (answer-checked c.args.line.now c.args.«package».now c.args.formula.now c.in-67.is) (c.put_checked.ensures.value, c.put_checked.ensures.text_after) in
    record {
      value = all.0;
      text_after = all.1;
    }

pub returns-in-76 : goal.returns-in-76
returns-in-76 c =
    let all = stored_as _ _ _ _ _ _ (answer_listed c.args.line.now c.args.«package».now c.args.formula.now c.in-76.is) (c.put_listed.ensures.value, c.put_listed.ensures.text_after) in
    record {
      value = all.0;
      text_after = all.1;
    }

pub returns-in-83 : goal.returns-in-83
returns-in-83 c =
    let all = stored_as _ _ _ _ _ _ (answer_shortened c.args.line.now c.args.«package».now c.args.formula.now c.in-83.is) (c.put_shortened.ensures.value, c.put_shortened.ensures.text_after) in
    record {
      value = all.0;
      text_after = all.1;
    }

pub returns-in-77 : goal.returns-in-77
returns-in-77 c =
    let all = stored_as _ _ _ _ _ _ (answer_membership c.args.line.now c.args.«package».now c.args.formula.now c.in-77.is) (c.put_membership.ensures.value, c.put_membership.ensures.text_after) in
    record {
      value = all.0;
      text_after = all.1;
    }

pub returns-in-87 : goal.returns-in-87
returns-in-87 c =
    let all = stored_as _ _ _ _ _ _ (answer-standing c.args.line.now c.args.«package».now c.args.formula.now c.in-87.is) (c.put_standing.ensures.value, c.put_standing.ensures.text_after) in
    record {
      value = all.0;
      text_after = all.1;
    }

pub returns-in-78 : goal.returns-in-78
returns-in-78 c =
    let all = stored_as _ _ _ _ _ _ (answer-packed c.args.line.now c.args.«package».now c.args.formula.now c.in-78.is) (c.put_packed.ensures.value, c.put_packed.ensures.text_after) in
    record {
      value = all.0;
      text_after = all.1;
    }

pub returns-in_default : goal.returns-in_default
returns-in_default c =
    let all = stored_as _ _ _ _ _ _ (answer_program c.args.line.now c.args.«package».now c.args.formula.now (search rules) (search rules) (search rules) (search rules) (search rules) (search rules)) (c.put_printed.ensures.value, c.put_printed.ensures.text_after) in
    record {
      value = all.0;
      text_after = all.1;
    }
