-- `put_standing`: a line of two numbers.
use Prim.Native.Nat.{◌≤◌}
use native.Mathlib.Omega.{arith}
use lib.ListN.{length}
use Rattle.cases.specs.HeadLine.{budget_said}
use Rattle.cases.specs.CaseTexts.{yes_number}
use Rattle.cases.proofs.AnswerStores.{two_numbers_length}
use Rattle.cases.proofs.AnswerTexts.{standing-text, stored_as}
use borrow.Author.Rules.{rules}
use Rattle.cases.proofs.standing.put_standing.Goals as goal

pub put_numbers_line-requires : goal.put_numbers_line-requires
put_numbers_line-requires c =
    omega (arith, two_numbers_length c.from-yes.result c.vg_trial_stands_at-stood.result.compared (search rules) (search rules), c.requires.at_in_bounds)

pub returns : goal.returns
unfolding yes_number
returns c =
    let stood = c.vg_trial_stands_at-stood.result in
    let e = standing-text c.args.b.now c.args.w.now (budget_said c.args.line.now) c.budget.result stood.compared c.from-yes.result stood.stands c.budget.ensures c.vg_trial_stands_at-stood.ensures.stands_value c.vg_trial_stands_at-stood.ensures.compared_value c.from-yes.ensures in
    let h : c.put_numbers_line.result ≤ length c.args.text.now = omega (arith, two_numbers_length c.from-yes.result c.vg_trial_stands_at-stood.result.compared (search rules) (search rules), c.requires.at_in_bounds, c.put_numbers_line.ensures.value) in
    let all = stored_as _ _ _ _ _ _ e ((c.put_numbers_line.ensures.value, h), c.put_numbers_line.ensures.out_after) in
    record {
      value = all.0;
      text_after = all.1;
    }
