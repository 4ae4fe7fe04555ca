-- `front` is `front`: what is moved down and up again loses no bit at the upper end.
use mathlib.Core.Path.{sym, ◌∙◌}
use Prim.Native.Nat.{◌-◌, ◌*◌, ◌^◌, ◌<◌}
use native.Mathlib.Nat.{mod-eq_of_lt, lt_of_le_of_lt, div-mul-le_self}
use Rattle.packedwords.proofs.Windows.{front_cut, front-whole}
use borrow.Author.Rules.{rules}
use Rattle.packing.proofs.part.front.Goals as goal

pub returns-then-r-lt12 : goal.returns-then-r-lt12
returns-then-r-lt12 c =
    let x = c.args.x in
    let r = c.args.r in
    let bits : x < 2 ^ 64 = search rules in
    mod-eq_of_lt (lt_of_le_of_lt (div-mul-le_self x (2 ^ (60 - r * 5))) bits) ∙ sym (front_cut x r c.if-r-lt12.true)

pub returns : goal.returns
returns c = sym (front-whole c.args.x c.args.r c.if-r-lt12.false)
