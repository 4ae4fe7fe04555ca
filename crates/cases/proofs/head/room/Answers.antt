-- `room`: five digits, bounded.
use mathlib.Core.Path.{◌≡◌, ◌∙◌, ap}
use Prim.Native.Nat.{min}
use native.Mathlib.Omega.{arith}
use borrow.Author.Rules.{rules}
use Rattle.cases.specs.HeadLine.{room_said}
use Rattle.cases.proofs.head.room.Goals as goal

pub returns : goal.returns
unfolding room_said
returns c =
    let least : c.min.result ≡ min c.number_said.result 65536 = search rules in
    (least ∙ ap (λ x. min x 65536) c.number_said.ensures, omega arith)
