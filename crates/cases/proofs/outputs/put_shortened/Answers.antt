-- `put_shortened`: the slice holds `~` alone before the call, and the head line says its room and the budget.
use mathlib.Core.Path.{◌∙◌, ap, refl}
use mathlib.Core.List.{List}
use Prim.Native.Nat.{ℕ, ◌+◌, ◌≤◌}
use native.Mathlib.Omega.{arith}
use lib.ListN.{length}
use lib.Seq.{sets}
use Rattle.cases.specs.CaseTexts.{tildes}
use Rattle.cases.proofs.AnswerTexts.{shortened_text_lem}
use Rattle.cases.proofs.outputs.put_shortened.Goals as goal

pub returns : goal.returns
unfolding tildes
returns c =
    let b : c.put_output.result ≤ length c.args.text.now = omega (arith, c.put_output.ensures.value.1) in
    let e = shortened_text_lem c.args.«package».now c.args.formula.now _ _ _ _ _ _ c.shorten_into-a.result c.budget.ensures c.room.ensures.0 refl c.shorten_into-a.ensures.value c.shorten_into-a.ensures.out_after in
    record {
      value = (c.put_output.ensures.value.0 ∙ ap (λ (x : List ℕ). c.args.at + length x) e, b);
      text_after = c.put_output.ensures.text_after ∙ ap (sets c.args.text.now c.args.at) e;
    }
