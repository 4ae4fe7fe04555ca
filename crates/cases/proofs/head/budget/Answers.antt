-- `budget`: ten digits, bounded.
use mathlib.Core.Path.{◌≡◌, ◌∙◌, ap}
use Prim.Native.Nat.{min}
use borrow.Author.Rules.{rules}
use Rattle.cases.specs.HeadLine.{budget_said}
use Rattle.cases.proofs.head.budget.Goals as goal

pub returns : goal.returns
unfolding budget_said
returns c =
    let least : c.min.result ≡ min c.number_said.result 4294967295 = search rules in
    least ∙ ap (λ x. min x 4294967295) c.number_said.ensures
