-- `rank_of`: one more than the place of the byte among the kinds.
use mathlib.Core.Path.{sym, ◌∙◌}
use borrow.Author.Rules.{rules}
use lib.Dec.{eqb}
use Rattle.std.proofs.lemmas.Iterator.Search.{position_from_yields_List}
use Rattle.std.proofs.lemmas.Iterator.{YieldsList-from_slice}
use Rattle.text.proofs.Bytewise.{rank-none, rank-found}
use Rattle.kindreading.proofs.kind.rank_of.Goals as goal

pub returns-in_err-before : goal.returns-in_err-before
returns-in_err-before c =
    c.from_residual.ensures ∙ sym (rank-none c.args.kinds.now c.args.b c.position.result
    (position_from_yields_List (λ k. eqb k c.args.b) _ _ c.position.result c.position.ensures.ran (YieldsList-from_slice c.args.kinds.now cc) (λ x b q k. search rules))
    c.in_err-before.was)

pub returns : goal.returns
returns c =
    sym (rank-found c.args.kinds.now c.args.b c.position.result
    (position_from_yields_List (λ k. eqb k c.args.b) _ _ c.position.result c.position.ensures.ran (YieldsList-from_slice c.args.kinds.now cc) (λ x b q k. search rules))
    _ c.in_ok-before.was)
