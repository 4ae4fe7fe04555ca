-- `row_fits`: a term in bounds that has room stands first, or below the one above.
use mathlib.Core.Path.{sym, ◌∙◌}
use borrow.Author.Tests.{eq-eqb, lt-ltb}
use Rattle.package.specs.Formula.{row_fits}
use Rattle.formulas.proofs.formula.row_fits.Goals as goal

pub returns-then-n-eq0 : goal.returns-then-n-eq0
unfolding row_fits
returns-then-n-eq0 c =
    let a = c.args in
    rw (row_fits, sym c.coef_fits.ensures ∙ c.if-not-coef_fits.false, sym c.word_fits.ensures ∙ c.if-not-word_fits.false, lt-ltb a.n a.m.terms c.if-m-n.false, eq-eqb a.n 0 c.if-n-eq0.true)
