-- `put_rows` stores row by row. The keys are those that the table had, for rows stand behind them.
use mathlib.Core.Path.{◌≡◌, ◌∙◌}
use native.Mathlib.Omega.{arith}
use Rattle.tabulating.proofs.KeptKeys.{keys_kept}
use Rattle.tabulating.proofs.RowEntries.{rows_more}
use Rattle.tabulating.proofs.Stores.{filled_none}
use borrow.Author.Rules.{rules}
use Rattle.tabulating.proofs.rows.put_rows.Goals as goal

pub loop-i-init : goal.loop-i-init
loop-i-init c = filled_none 352 _ c.args.t.now

pub overflow_cast-starts : goal.overflow_cast-starts
overflow_cast-starts c =
    let inside = c.requires.words_lie.inside c.loop-i.i c.loop-i-test.true in
    search rules

pub overflow_cast-lens : goal.overflow_cast-lens
overflow_cast-lens c =
    let short = c.requires.words_lie.short c.loop-i.i c.loop-i-test.true in
    search rules

pub put_row-requires : goal.put_row-requires
put_row-requires c =
    let a = c.args in
    let i = c.loop-i.i in
    let h = c.loop-i-test.true in
    let f = c.loop-i.invariant in
    let p = c.requires in record {
      t_len = (f.size ∙ p.t_len.0, keys_kept a.t.now c.loop-i.t (λ k q. f.below k (omega arith)) p.t_len.1, search rules);
      n_in_bounds = (p.words_lie.inside i h, p.words_lie.short i h, p.words_lie.letters i h);
    }

pub loop-i-preserved : goal.loop-i-preserved
loop-i-preserved c =
    let a = c.args in
    rows_more a.coefs.now a.starts.now a.lens.now a.bytes.now c.loop-i.i a.t.now c.loop-i.t c.put_row.new.t c.loop-i.invariant c.put_row.ensures

pub returns : goal.returns
returns c =
    let e : c.loop-i.i ≡ c.args.m = search rules in
    rw e at c.loop-i.invariant
