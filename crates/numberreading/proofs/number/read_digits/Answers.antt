-- `read_digits`: the digits that are left, behind the number read so far, say what all say; the number stays below a power of ten.
use mathlib.Core.Path.{refl, sym, ◌∙◌}
use native.Mathlib.Omega.{arith}
use borrow.Author.Rules.{rules}
use lib.ListN.{get_or}
use Rattle.text.proofs.Digits.{pow, pow_five, pow_more, digits_here, digits_not, digits-end}
use Rattle.numberreading.proofs.NumberFronts.{digit-bounds, digit_not}
use Rattle.numberreading.proofs.number.read_digits.Goals as goal

pub loop-b-init : goal.loop-b-init
unfolding pow
loop-b-init c = search rules

pub returns-then-not-is_ascii_digit : goal.returns-then-not-is_ascii_digit
returns-then-not-is_ascii_digit c =
    sym (sym c.loop-b.invariant.1 ∙ digits_not _ _ c.loop-b.b-index _ c.loop-b-test.true refl
    (digit_not _ (sym c.is_ascii_digit.ensures.value ∙ c.if-not-is_ascii_digit.true)))

pub overflow_mul-n : goal.overflow_mul-n
overflow_mul-n c = omega (arith, pow_five c.loop-b.b-index (omega arith))

pub overflow_add-n : goal.overflow_add-n
overflow_add-n c =
    let d = digit-bounds (get_or c.args.f.now c.loop-b.b-index 0) (sym c.is_ascii_digit.ensures.value ∙ c.if-not-is_ascii_digit.false) in
    omega (arith, c.from.ensures, d.1, pow_five c.loop-b.b-index (omega arith))

pub loop-b-preserved : goal.loop-b-preserved
loop-b-preserved c =
    let d = digit-bounds (get_or c.args.f.now c.loop-b.b-index 0) (sym c.is_ascii_digit.ensures.value ∙ c.if-not-is_ascii_digit.false) in
    rw c.from.ensures (
      pow_more c.loop-b.b-index _ _ c.loop-b.invariant.0 (omega (arith, d.1)),
      digits_here _ _ c.loop-b.b-index _ c.loop-b-test.true refl d.0 d.1 ∙ c.loop-b.invariant.1,
    )

pub returns : goal.returns
returns c =
    sym (sym c.loop-b.invariant.1 ∙ digits-end _ _ c.loop-b.b-index c.loop-b-test.false)
