-- `code_in` is a letter of the term's two blocks.
use mathlib.Core.Path.{sym, ◌∙◌, ap}
use Prim.Native.Nat.{ℕ, ◌+◌, ◌-◌, ◌*◌, ◌/◌, ◌%◌, ◌^◌}
use native.Mathlib.Omega.{arith}
use lib.ListN.{drop}
use lib.Seq.{get_or-take, get_or-drop}
use Rattle.packedwords.specs.Packed.{letter_of}
use Rattle.table.proofs.numbers.code_in.Goals as goal

pub returns : goal.returns
unfolding letter_of
returns c =
    let t = c.args.t.now in
    let a = 353 + 3 * c.args.i in
    let k = c.args.k in
    (ap (λ (x : ℕ). x / 2 ^ (5 * (11 - k % 12)) % 32) (sym (get_or-take 2 (drop a t) (k / 12) 0 (omega arith) ∙ get_or-drop a t (k / 12) 0)), omega arith)
