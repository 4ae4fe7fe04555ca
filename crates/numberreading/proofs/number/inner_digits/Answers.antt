-- `inner_digits`: the digits that are left, behind the number read so far, say what all say, and the field ends where it did;
-- the number stays below a power of ten.
use mathlib.Core.Path.{sym, ◌∙◌}
use Prim.Native.Nat.{◌-◌}
use native.Mathlib.Omega.{arith}
use borrow.Author.Rules.{rules}
use lib.ListN.{get_or}
use Rattle.text.proofs.Digits.{pow_five}
use Rattle.text.specs.Answers.{seen_num, next_num}
use Rattle.numberreading.proofs.NumberFronts.{digit-bounds, pow-start, pow-next, digits_last, digits-ended, digits-none, digits_broken, digits-many, digits_more}
use Rattle.numberreading.proofs.number.inner_digits.Goals as goal

pub loop-i-init : goal.loop-i-init
loop-i-init c = (search rules, pow-start _, search rules, search rules)

pub returns-then-i-at : goal.returns-then-i-at
unfolding seen_num next_num
returns-then-i-at c =
    let v = c.loop-i.invariant in record {
      result_value = digits-none _ _ _ _ v.2 v.3 c.requires.fact c.loop-i-test.true c.if-b-eq32.true c.if-i-at.true;
      result_in_bounds = omega arith;
    }

pub returns-then-b-eq32 : goal.returns-then-b-eq32
unfolding seen_num next_num
returns-then-b-eq32 c =
    let v = c.loop-i.invariant in record {
      result_value = digits-ended _ _ _ _ v.2 v.3 c.requires.fact c.loop-i-test.true c.if-b-eq32.true (omega (arith, c.loop-i.auto.i, c.if-i-at.false)) v.0;
      result_in_bounds = omega arith;
    }

pub returns-then-not-is_ascii_digit : goal.returns-then-not-is_ascii_digit
unfolding seen_num next_num
returns-then-not-is_ascii_digit c =
    let v = c.loop-i.invariant in record {
      result_value = digits_broken _ _ _ _ v.2 v.3 c.requires.fact c.loop-i-test.true c.if-b-eq32.false
          (sym c.is_ascii_digit.ensures.value ∙ c.if-not-is_ascii_digit.true);
      result_in_bounds = omega arith;
    }

pub returns-then-i-at-ge5 : goal.returns-then-i-at-ge5
unfolding seen_num next_num
returns-then-i-at-ge5 c =
    let v = c.loop-i.invariant in record {
      result_value = digits-many _ _ _ _ v.2 v.3 c.requires.fact c.loop-i-test.true c.if-b-eq32.false (omega (arith, c.if-i-at-ge5.true));
      result_in_bounds = omega arith;
    }

pub overflow_mul-n : goal.overflow_mul-n
overflow_mul-n c =
    omega (arith, pow_five (c.loop-i.i - c.args.at) (search rules))

pub overflow_add-n : goal.overflow_add-n
overflow_add-n c =
    let d = digit-bounds (get_or c.args.l.now c.loop-i.i 0) (sym c.is_ascii_digit.ensures.value ∙ c.if-not-is_ascii_digit.false) in
    omega (arith, c.from.ensures, d.1, pow_five (c.loop-i.i - c.args.at) (search rules))

pub loop-i-preserved : goal.loop-i-preserved
loop-i-preserved c =
    let v = c.loop-i.invariant in
    let e = sym c.is_ascii_digit.ensures.value ∙ c.if-not-is_ascii_digit.false in
    let d = digit-bounds (get_or c.args.l.now c.loop-i.i 0) e in
    let m = digits_more _ _ _ _ v.2 v.3 c.requires.fact c.loop-i-test.true e in
    rw c.from.ensures (search rules, pow-next c.args.at c.loop-i.i _ _ c.loop-i.auto.i v.1 (omega (arith, d.1)), m.0, m.1)

pub returns : goal.returns
unfolding seen_num next_num
returns c =
    let v = c.loop-i.invariant in
    record {
      result_value = digits_last _ _ _ _ v.2 v.3 c.requires.fact c.loop-i-test.false;
      result_in_bounds = omega arith;
    }
