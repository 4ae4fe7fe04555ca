-- `read_head_lines` reads lines 1 to 3 one behind the other, as `head_lines_of` does.
use mathlib.Core.Path.{sym}
use lib.ListN.{drop}
use Rattle.std.proofs.lemmas.Result.{err_from_is_err_and}
use Rattle.package.proofs.Joining.{line1_refused, line2_refused, line3_refused, lines_read}
use Rattle.package.specs.Held.{seen_names, seen_counts, seen_head_lines}
use Rattle.text.specs.Pieces.{lines}
use Rattle.reading.specs.Names.{names_at}
use Rattle.reading.proofs.head_lines.read_head_lines.Goals as goal

pub returns-in_err-a-clause-result_value : goal.returns-in_err-a-clause-result_value
unfolding seen_names seen_head_lines names_at
returns-in_err-a-clause-result_value c =
    let p = err_from_is_err_and c.from_residual.result c.from_residual.ensures.1 in
    rw (p.1, p.2) (line1_refused (lines c.args.s.now) _ _ (sym c.in_err-a.ensures.result_value))

pub returns-in_err-counts-clause-result_value : goal.returns-in_err-counts-clause-result_value
unfolding seen_names seen_counts seen_head_lines names_at
returns-in_err-counts-clause-result_value c =
    let s = c.args.s.now in
    let f = c.from_residual-in_err-counts in
    let p = err_from_is_err_and f.result f.ensures.1 in
    rw (p.1, p.2) (line2_refused (lines s) (lines (drop c.in_ok-a.a s)) (sym c.in_ok-a.ensures.result_value) _ _ (sym c.in_err-counts.ensures.result_value))

pub returns-in_err-b-clause-result_value : goal.returns-in_err-b-clause-result_value
unfolding seen_names seen_counts seen_head_lines names_at
returns-in_err-b-clause-result_value c =
    let s = c.args.s.now in
    let f = c.from_residual-in_err-b in
    let p = err_from_is_err_and f.result f.ensures.1 in
    rw (p.1, p.2) (line3_refused (lines s) (lines (drop c.in_ok-a.a s)) (sym c.in_ok-a.ensures.result_value) _ (sym c.in_ok-counts.ensures.result_value) _ _
    (sym c.in_err-b.ensures.result_value))

pub returns-clause-result_value : goal.returns-clause-result_value
unfolding seen_names seen_counts seen_head_lines names_at
returns-clause-result_value c =
    let s = c.args.s.now in
    lines_read (lines s) (lines (drop c.in_ok-a.a s)) (sym c.in_ok-a.ensures.result_value) _ (sym c.in_ok-counts.ensures.result_value)
    (lines (drop c.in_ok-b.b s)) (sym c.in_ok-b.ensures.result_value)
