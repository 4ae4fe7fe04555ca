-- `skip_terms`: from each place on, the first term of item j or a later one is as far as it was from the start.
use mathlib.Core.Path.{◌≡◌, sym, ◌∙◌}
use native.Mathlib.Omega.{arith}
use borrow.Author.Rules.{rules}
use Rattle.package.proofs.ItemStarts.{slots_length, slots_at, first_here, first-later, first-end}
use Rattle.package.specs.Held.{slots_held}
use Rattle.termreading.proofs.items.skip_terms.Goals as goal

pub returns-then-j-slot_of : goal.returns-then-j-slot_of
returns-then-j-slot_of c =
    let x = c.loop-i in
    let a = c.args in
    let k = slots_length a.h a.kinds.now a.items.now a.n in
    let q = slots_at a.h a.kinds.now a.items.now a.n x.i c.loop-i-test.true in record {
      value = sym (first_here a.j (slots_held a.h a.kinds.now a.items.now a.n) x.i
          (omega (arith, c.loop-i-test.true)) (omega (arith, c.slot_of.ensures, c.if-j-slot_of.true))) ∙ x.invariant;
      upper_bound = search rules;
    }

pub loop-i-preserved : goal.loop-i-preserved
loop-i-preserved c =
    let x = c.loop-i in
    let a = c.args in
    let k = slots_length a.h a.kinds.now a.items.now a.n in
    let q = slots_at a.h a.kinds.now a.items.now a.n x.i c.loop-i-test.true in
    first-later a.j (slots_held a.h a.kinds.now a.items.now a.n) x.i
    (omega (arith, c.loop-i-test.true)) (omega (arith, c.slot_of.ensures, c.if-j-slot_of.false)) ∙ x.invariant

pub returns : goal.returns
returns c =
    let x = c.loop-i in
    let a = c.args in
    let e : a.n ≡ x.i = omega arith in record {
      value = e ∙ sym (first-end a.j (slots_held a.h a.kinds.now a.items.now a.n) x.i
          (omega (arith, slots_length a.h a.kinds.now a.items.now a.n, c.loop-i-test.false))) ∙ x.invariant;
      upper_bound = search rules;
    }
