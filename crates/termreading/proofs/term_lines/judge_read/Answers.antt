-- `judge_read` takes a line that meets none of refusals 5, 6 and 7.
use mathlib.Core.Path.{sym, ◌∙◌}
use native.Mathlib.Omega.{arith}
use Rattle.lists.proofs.Parts.{part_end}
use Rattle.package.proofs.TermJudging.{judge_0, counted-word}
use Rattle.package.specs.Held.{seen_judged, above_of}
use Rattle.termreading.proofs.term_lines.judge_read.Goals as goal

pub returns-clause-result_value : goal.returns-clause-result_value
unfolding seen_judged
returns-clause-result_value c =
    let a = c.args in
    judge_0 a.h a.m (above_of a.s.now a.last) a.total a.t.kind a.t.item a.t.coef _
    (sym (rw part_end at c.term_fits.ensures) ∙ c.if-not-term_fits.false)
    (sym (rw part_end at c.term_follows.ensures) ∙ c.if-not-term_follows.false)
    (omega (arith, c.term_count.ensures, counted-word a.s.now a.last a.t.kind a.t.item)) (omega arith)
