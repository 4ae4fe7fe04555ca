-- `reduce` accepts the package, and brings the formula to its short form under its table.
use mathlib.Core.Path.{◌∙◌}
use Rattle.std.proofs.lemmas.Result.{err_from_is_err_and}
use Rattle.accepting.specs.Accepted.{Accepts}
use Rattle.reducing.specs.Reductions.{seen_reduced, ShortHeld}
use Rattle.reducing.proofs.Cases.{turned_refused, taken-accepted, table_reduced, divided-reduced}
use Rattle.reducing.proofs.reduce.reduce.Goals as goal

pub returns-in_err-accept : goal.returns-in_err-accept
unfolding Accepts seen_reduced ShortHeld
returns-in_err-accept c =
    let e = turned_refused _ _ _ _ _ c.in_err-accept.ensures in
    let p = err_from_is_err_and c.from_residual.result c.from_residual.ensures.1 in
    rw (p.1, p.2) (record {
      result_after = e;
      short_held = tt;
    })

pub divide_basis-requires : goal.divide_basis-requires
divide_basis-requires c = (taken-accepted _ _ _ _ c.accept.ensures c.in_ok-accept.was).tabled

pub reduce_formula-requires : goal.reduce_formula-requires
reduce_formula-requires c = c.divide_basis.ensures.tabled

pub returns : goal.returns
returns c =
    let a = taken-accepted _ _ _ _ c.accept.ensures c.in_ok-accept.was in
    let q = c.divide_basis.ensures in
    let e = c.reduce_formula.ensures in
    let same = divided-reduced _ _ a.tabled q.t_unchanged.0 q.t_unchanged.1 q.t_after _ _ in
    record {
      result_after = e.result_after ∙ same ∙ table_reduced a _ _;
      short_held = e.short_held;
    }
