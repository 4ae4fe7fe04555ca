-- `number_said`: what was read and the digits left say the number.
use mathlib.Core.Path.{◌∙◌, ap, sym}
use Prim.Native.Nat.{◌+◌, ◌*◌}
use native.Mathlib.Omega.{arith}
use lib.ListN.{drop}
use Rattle.text.proofs.Digits.{pow, pow_more}
use Rattle.cases.specs.HeadLine.{said}
use Rattle.cases.proofs.SaidNumbers.{said-next, said-end, pow-nine}
use borrow.Author.Rules.{rules}
use Rattle.cases.proofs.head.number_said.Goals as goal

pub loop-d-init : goal.loop-d-init
unfolding pow
loop-d-init c = search rules

pub overflow_mul-n : goal.overflow_mul-n
overflow_mul-n c =
    omega (arith, pow-nine c.loop-d.d-index (search rules), c.loop-d.invariant.1)

pub overflow_add-n : goal.overflow_add-n
overflow_add-n c =
    omega (arith, pow-nine c.loop-d.d-index (search rules), c.loop-d.invariant.1, c.digit_value.ensures.1)

pub loop-d-preserved : goal.loop-d-preserved
loop-d-preserved c =
    let f = c.args.f.now in
    let i = c.loop-d.d-index in
    let n = c.loop-d.n in (
      ap (λ x. said (n * 10 + x) (drop (i + 1) f)) c.digit_value.ensures.0 ∙ said-next f i n (search rules) ∙ c.loop-d.invariant.0,
      pow_more i n c.digit_value.result c.loop-d.invariant.1 c.digit_value.ensures.1,
    )

pub returns : goal.returns
returns c =
    sym (said-end c.args.f.now c.loop-d.d-index c.loop-d.n (search rules)) ∙ c.loop-d.invariant.0
