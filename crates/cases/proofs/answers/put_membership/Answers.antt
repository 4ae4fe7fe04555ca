-- `put_membership`: a line of four numbers.
use mathlib.Core.Path.{◌≡◌, ◌∙◌, ap}
use mathlib.Core.List.{List, [], ◌∷◌}
use Prim.Native.Nat.{ℕ, ◌+◌, ◌≤◌}
use native.Mathlib.Omega.{arith}
use lib.ListN.{length}
use lib.Seq.{sets}
use Rattle.printing.specs.Printed.{numbers_line}
use Rattle.services.specs.Services.{membership_as}
use Rattle.cases.specs.HeadLine.{budget_said}
use Rattle.cases.specs.CaseTexts.{membership_text}
use Rattle.cases.proofs.AnswerStores.{four_numbers_length}
use borrow.Author.Rules.{rules}
use Rattle.cases.proofs.answers.put_membership.Goals as goal

pub put_numbers_line-requires : goal.put_numbers_line-requires
put_numbers_line-requires c =
    let a = c.vg_member-a.result in
    omega (arith, four_numbers_length a.place a.steps a.member (search rules) (search rules) (search rules) a.number (search rules), c.requires.at_in_bounds)

pub returns : goal.returns
unfolding membership_text
returns c =
    let a = c.vg_member-a.result in
    let b : c.put_numbers_line.result ≤ length c.args.text.now = omega (arith, four_numbers_length a.place a.steps a.member (search rules) (search rules) (search rules) a.number (search rules), c.requires.at_in_bounds, c.put_numbers_line.ensures.value) in
    let f : a ≡ membership_as c.args.«package».now c.args.formula.now (budget_said c.args.line.now) = c.vg_member-a.ensures ∙ ap (membership_as c.args.«package».now c.args.formula.now) c.budget.ensures in
    let e : numbers_line (a.number ∷ a.place ∷ a.steps ∷ a.member ∷ []) ≡ membership_text (membership_as c.args.«package».now c.args.formula.now (budget_said c.args.line.now)) = ap (λ x. membership_text x) f in
    record {
      value = (c.put_numbers_line.ensures.value ∙ ap (λ (x : List ℕ). c.args.at + length x) e, b);
      text_after = c.put_numbers_line.ensures.out_after ∙ ap (sets c.args.text.now c.args.at) e;
    }
