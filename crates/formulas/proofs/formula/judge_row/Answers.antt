-- `judge_row` judges a line that has its shape as `row_judged` does.
use mathlib.Core.Path.{sym, ◌∙◌}
use Rattle.lists.proofs.Parts.{part_end}
use Rattle.package.proofs.FormulaLines.{row_inside, row_refused, row_accepted}
use Rattle.package.specs.Held.{seen_row}
use Rattle.formulas.proofs.formula.judge_row.Goals as goal

pub returns-then-not-row_fits-clause-result_value : goal.returns-then-not-row_fits-clause-result_value
unfolding seen_row
returns-then-not-row_fits-clause-result_value c =
    let a = c.args in
    let t = c.in_ok-t.t in
    let e = c.in_ok-t.ensures in
    row_refused a.p a.letters a.m a.v.now a.n a.s.now a.at _ t.start t.len t.coef
    (row_inside a.s.now a.at a.e t e.result_in_bounds c.requires.at_le_e.0 c.requires.at_le_e.1) e.result_value
    (sym (rw part_end at c.row_fits.ensures) ∙ c.if-not-row_fits.true)

pub returns-clause-result_value : goal.returns-clause-result_value
unfolding seen_row
returns-clause-result_value c =
    let a = c.args in
    let t = c.in_ok-t.t in
    let e = c.in_ok-t.ensures in
    row_accepted a.p a.letters a.m a.v.now a.n a.s.now a.at _ t.start t.len t.coef
    (row_inside a.s.now a.at a.e t e.result_in_bounds c.requires.at_le_e.0 c.requires.at_le_e.1) e.result_value
    (sym (rw part_end at c.row_fits.ensures) ∙ c.if-not-row_fits.false)
