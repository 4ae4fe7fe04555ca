-- `is_within`: the library's range holds x where both bounds do.
use Prim.Native.Nat.{◌≤◌}
use borrow.Author.Rules.{rules}
use Rattle.std.specs.Prelude.{IsTrue, ◌↔◌}
use Rattle.text.proofs.Bytewise.{within_iff}
use Rattle.text.proofs.bytes.is_within.Goals as goal

pub returns : goal.returns
returns c =
    let h : IsTrue c.contains.result ↔ ((c.args.lo ≤ c.args.x) × (c.args.x ≤ c.args.hi)) = search rules in
    within_iff _ _ _ _ h
