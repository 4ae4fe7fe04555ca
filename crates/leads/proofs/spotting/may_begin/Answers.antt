-- `may_begin` says no where no word may begin one with these two letters.
use mathlib.Core.Path.{sym, ◌∙◌}
use mathlib.Core.Bool.{true≢false}
use borrow.Author.Tests.{eq-eqb}
use Rattle.leads.proofs.BlockTurns.{moved_first, moved_second}
use Rattle.leads.proofs.CodeSieve.{codes_unopened}
use Rattle.leads.proofs.spotting.may_begin.Goals as goal

pub returns : goal.returns
returns c =
    let x = c.args.x in
    λ e y ls u i f. codes_unopened i f (λ b. let q = rw (moved_first x, moved_second x) at b in true≢false (sym (eq-eqb _ _ q) ∙ e))
