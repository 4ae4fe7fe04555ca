-- `put_bytes`: storing what is left from here on gives what storing all gives.
use mathlib.Core.Path.{◌≡◌, sym, ◌∙◌}
use Prim.Native.Nat.{◌+◌}
use native.Mathlib.Omega.{arith}
use borrow.Author.Rules.{rules}
use Rattle.lists.proofs.Stores.{sets_more, sets_none}
use Rattle.textwriting.proofs.write.put_bytes.Goals as goal

pub loop-i-preserved : goal.loop-i-preserved
loop-i-preserved c =
    let o = c.args.at + c.loop-i.i in
    let e : c.args.at + (c.loop-i.i + 1) ≡ o + 1 = omega arith in
    rw e (sets_more _ c.loop-i.out c.loop-i.i o (search rules) ∙ c.loop-i.invariant)

pub returns-clause-out_after : goal.returns-clause-out_after
returns-clause-out_after c = sym (sets_none _ c.loop-i.out c.loop-i.i (c.args.at + c.loop-i.i) c.loop-i-test.false) ∙ c.loop-i.invariant
