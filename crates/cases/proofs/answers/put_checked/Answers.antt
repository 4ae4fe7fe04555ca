-- `put_checked`: a line of three numbers.
use mathlib.Core.Path.{◌≡◌, ◌∙◌, ap}
use mathlib.Core.List.{List, [], ◌∷◌}
use Prim.Native.Nat.{ℕ, ◌+◌, ◌≤◌}
use native.Mathlib.Omega.{arith}
use lib.ListN.{length}
use lib.Seq.{sets}
use Rattle.printing.specs.Printed.{numbers_line}
use Rattle.services.specs.Services.{checked_as}
use Rattle.cases.specs.CaseTexts.{checked_text}
use Rattle.cases.proofs.AnswerStores.{three_numbers_length}
use borrow.Author.Rules.{rules}
use Rattle.cases.proofs.answers.put_checked.Goals as goal

pub put_numbers_line-requires : goal.put_numbers_line-requires
put_numbers_line-requires c =
    let a = c.vg_check-a.result in
    omega (arith, three_numbers_length a.number a.place a.overlaps (search rules) (search rules) (search rules), c.requires)

pub returns : goal.returns
unfolding checked_text
returns c =
    let a = c.vg_check-a.result in
    let b : c.put_numbers_line.result ≤ length c.args.text.now = omega (arith, three_numbers_length a.number a.place a.overlaps (search rules) (search rules) (search rules), c.requires, c.put_numbers_line.ensures.value) in
    let e : numbers_line (a.number ∷ a.place ∷ a.overlaps ∷ []) ≡ checked_text (checked_as c.args.«package».now) = ap (λ x. checked_text x) c.vg_check-a.ensures in
    record {
      value = (c.put_numbers_line.ensures.value ∙ ap (λ (x : List ℕ). c.args.at + length x) e, b);
      text_after = c.put_numbers_line.ensures.out_after ∙ ap (sets c.args.text.now c.args.at) e;
    }
