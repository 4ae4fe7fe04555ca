-- `judge_laps` judges the pairs, and looks for 15 where they are refused or a line is left over.
use mathlib.Core.Path.{sym, ap, ◌∙◌}
use Prim.Native.Nat.{ℕ}
use Rattle.std.proofs.lemmas.Result.{err_from_is_err_and}
use Rattle.acceptance.specs.Check.{items_judged}
use Rattle.basis.specs.Answer.{verdict_of}
use Rattle.sumlines.specs.Lines.{sums_at}
use Rattle.sumorder.proofs.KindOrder.{order-counted}
use Rattle.lapsums.proofs.Answers.{above-answer, stopped_answer, through_count, through_none, through_answer}
use Rattle.lapsums.proofs.laps.judge_laps.Goals as goal

pub judge_items-requires-clause-counted : goal.judge_items-requires-clause-counted
judge_items-requires-clause-counted c = order-counted _ _ c.requires.reached.order

pub returns-in_err-judge_items-in-Err : goal.returns-in_err-judge_items-in-Err
returns-in_err-judge_items-in-Err c =
    let p = err_from_is_err_and c.from_residual.result c.from_residual.ensures.1 in
    let count = rw c.requires.tabled.1.leading at c.count_pairs.ensures in
    let told = c.in_err-judge_items-in-Err.ensures ∙ ap (λ (k : ℕ). items_judged k (sums_at c.args.words.now.bytes.now c.args.at c.args.line)) count in
    rw (p.1, p.2) (record { value = above-answer _ _ _ _ _ told })

pub returns-in_ok-judge_items-in-Err : goal.returns-in_ok-judge_items-in-Err
unfolding verdict_of
returns-in_ok-judge_items-in-Err c =
    let count = rw c.requires.tabled.1.leading at c.count_pairs.ensures in
    let none = c.in_ok-judge_items-in-Err.ensures ∙ ap (λ (k : ℕ). items_judged k (sums_at c.args.words.now.bytes.now c.args.at c.args.line)) count in
    record { value = stopped_answer _ _ _ _ (sym none) _ c.in-Err.ensures.result_value }

pub judge_items-requires-then-left-clause-counted : goal.judge_items-requires-then-left-clause-counted
judge_items-requires-then-left-clause-counted c = order-counted _ _ c.requires.reached.order

pub returns-in_err-judge_items-in-Ok : goal.returns-in_err-judge_items-in-Ok
returns-in_err-judge_items-in-Ok c =
    let p = err_from_is_err_and c.from_residual-in_err-judge_items-in-Ok.result c.from_residual-in_err-judge_items-in-Ok.ensures.1 in
    let count = through_count _ _ _ c.in-Ok.ensures.laps_behind in
    let told = c.in_err-judge_items-in-Ok.ensures ∙ ap (λ (k : ℕ). items_judged k (sums_at c.args.words.now.bytes.now c.args.at c.args.line)) count in
    rw (p.1, p.2) (record { value = above-answer _ _ _ _ _ told })

pub returns-in_ok-judge_items-in-Ok : goal.returns-in_ok-judge_items-in-Ok
unfolding verdict_of
returns-in_ok-judge_items-in-Ok c =
    let pairs = c.in-Ok.ensures in
    let count = through_count _ _ _ pairs.laps_behind in
    let none = c.in_ok-judge_items-in-Ok.ensures ∙ ap (λ (k : ℕ). items_judged k (sums_at c.args.words.now.bytes.now c.args.at c.args.line)) count in
    record { value = through_answer _ _ _ _ _ pairs.laps_behind pairs.result_value (sym none) }

pub returns-else-left : goal.returns-else-left
returns-else-left c =
    let pairs = c.in-Ok.ensures in
    record { value = through_answer _ _ _ _ _ pairs.laps_behind pairs.result_value (through_none _ _ _ pairs.laps_behind c.if-left.false) }
