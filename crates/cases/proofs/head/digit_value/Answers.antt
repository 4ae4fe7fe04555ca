-- `digit_value` is `digit`.
use Prim.Native.Nat.{◌≤◌, ◌<◌}
use native.Mathlib.Omega.{arith}
use borrow.Author.Rules.{rules}
use borrow.Author.Tests.{lt-ltb, le-ltb}
use Rattle.cases.specs.HeadLine.{digit}
use Rattle.cases.proofs.head.digit_value.Goals as goal

pub returns-in-48-to-57 : goal.returns-in-48-to-57
unfolding digit
returns-in-48-to-57 c =
    let low : 48 ≤ c.args.d = search rules in
    let high : c.args.d ≤ 57 = search rules in
    (rw (digit, le-ltb _ _ low, le-ltb _ _ high) c.from.ensures, omega arith)

pub returns-in_default : goal.returns-in_default
unfolding digit
returns-in_default c =
    let below : c.args.d < 48 = search rules in
    (rw (digit, lt-ltb _ _ below), omega arith)

pub returns-in_default-2 : goal.returns-in_default-2
unfolding digit
returns-in_default-2 c =
    let low : 48 ≤ c.args.d = search rules in
    let above : 57 < c.args.d = search rules in
    (rw (digit, le-ltb _ _ low, lt-ltb _ _ above), omega arith)
