-- `package_len`: five digits, bounded.
use mathlib.Core.Path.{◌≡◌, ◌∙◌, ap}
use Prim.Native.Nat.{min}
use native.Mathlib.Omega.{arith}
use borrow.Author.Rules.{rules}
use Rattle.cases.specs.HeadLine.{package_said}
use Rattle.cases.proofs.head.package_len.Goals as goal

pub returns : goal.returns
unfolding package_said
returns c =
    let least : c.min.result ≡ min c.number_said.result 65537 = search rules in
    (least ∙ ap (λ x. min x 65537) c.number_said.ensures, omega arith)
