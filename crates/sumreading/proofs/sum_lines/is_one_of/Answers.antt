-- `is_one_of`: the library's range holds x where both bounds do.
use Prim.Native.Nat.{◌≤◌}
use borrow.Author.Rules.{rules}
use Rattle.std.specs.Prelude.{IsTrue, ◌↔◌}
use Rattle.text.proofs.Bytewise.{within_iff}
use Rattle.sumreading.proofs.sum_lines.is_one_of.Goals as goal

pub returns : goal.returns
returns c =
    let h : IsTrue c.contains.result ↔ ((1 ≤ c.args.x) × (c.args.x ≤ c.args.most)) = search rules in
    within_iff _ _ _ _ h
