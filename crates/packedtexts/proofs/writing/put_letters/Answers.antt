-- `put_letters`: block j has the letters from 12 × j on; storing what is left gives what storing all gives.
use mathlib.Core.Path.{◌≡◌, refl, sym, ◌∙◌}
use Prim.Native.Nat.{◌+◌, ◌-◌, ◌*◌, ◌/◌, ◌%◌, ◌≤◌}
use native.Mathlib.Nat.{min-eq_left, min-eq_right}
use native.Mathlib.Omega.{arith}
use borrow.Author.Rules.{rules}
use lib.ListN.{length}
use Rattle.table.specs.Table.{letter_in}
use Rattle.packedtexts.proofs.BlockTexts.{all-stored, part-packs, part-stored}
use Rattle.packedtexts.proofs.writing.put_letters.Goals as goal

pub put_block-requires : goal.put_block-requires
put_block-requires c =
    let a = c.args in
    let j = c.loop-j.j in
    let size : length a.f.now.blocks ≡ 3360 = search rules in
    let inside : a.s * 6 + 6 ≤ length a.f.now.blocks = omega (arith, c.requires.0, size) in (
      part-packs (letter_in a.t.now) a.f.now.blocks a.s a.m inside c.requires.1 j (12 * j) _ 12 refl (omega arith) refl (sym (min-eq_left (omega arith))),
      omega (arith, c.loop-j.invariant.0, c.requires.2),
    )

pub loop-j-preserved : goal.loop-j-preserved
loop-j-preserved c =
    let a = c.args in
    let j = c.loop-j.j in
    let size : length a.f.now.blocks ≡ 3360 = search rules in
    let inside : a.s * 6 + 6 ≤ length a.f.now.blocks = omega (arith, c.requires.0, size) in
    let next : 12 * (j + 1) ≡ 12 * j + 12 = omega arith in
    rw next (
      c.put_block.auto.out ∙ c.loop-j.invariant.0,
      part-stored (letter_in a.t.now) a.f.now.blocks a.s a.m inside c.requires.1 j (12 * j) _ 12 refl (omega arith) refl (sym (min-eq_left (omega arith)))
          c.loop-j.out _ _ a.at c.put_block.ensures c.loop-j.invariant.1,
    )

pub put_block-requires-then-r-gt0 : goal.put_block-requires-then-r-gt0
put_block-requires-then-r-gt0 c =
    let a = c.args in
    let whole = a.m / 12 in
    let size : length a.f.now.blocks ≡ 3360 = search rules in
    let inside : a.s * 6 + 6 ≤ length a.f.now.blocks = omega (arith, c.requires.0, size) in
    let left : a.m % 12 ≡ a.m - 12 * whole = omega arith in (
      part-packs (letter_in a.t.now) a.f.now.blocks a.s a.m inside c.requires.1 whole (12 * whole) _ _ refl (omega (arith, c.if-r-gt0.true)) refl
          (left ∙ sym (min-eq_right (omega arith))),
      omega (arith, c.loop-j.invariant.0, c.requires.2),
    )

pub returns-then-r-gt0 : goal.returns-then-r-gt0
returns-then-r-gt0 c =
    let a = c.args in
    let whole = a.m / 12 in
    let size : length a.f.now.blocks ≡ 3360 = search rules in
    let inside : a.s * 6 + 6 ≤ length a.f.now.blocks = omega (arith, c.requires.0, size) in
    let left : a.m % 12 ≡ a.m - 12 * whole = omega arith in
    let e : c.loop-j.j ≡ whole = search rules in
    all-stored (letter_in a.t.now) a.f.now.blocks a.s a.m inside c.requires.1 _ _ (a.at + (12 * whole + 12)) (12 * whole + 12) (omega arith)
    (part-stored (letter_in a.t.now) a.f.now.blocks a.s a.m inside c.requires.1 whole (12 * whole) _ _ refl (omega (arith, c.if-r-gt0.true)) refl
    (left ∙ sym (min-eq_right (omega arith))) c.loop-j.out _ _ a.at c.put_block-then-r-gt0.ensures (rw e at c.loop-j.invariant.1))

pub returns-else-r-gt0 : goal.returns-else-r-gt0
returns-else-r-gt0 c =
    let a = c.args in
    let size : length a.f.now.blocks ≡ 3360 = search rules in
    let inside : a.s * 6 + 6 ≤ length a.f.now.blocks = omega (arith, c.requires.0, size) in
    all-stored (letter_in a.t.now) a.f.now.blocks a.s a.m inside c.requires.1 c.loop-j.out _ (a.at + 12 * c.loop-j.j) (12 * c.loop-j.j)
    (omega (arith, c.loop-j-test.false, c.if-r-gt0.false)) c.loop-j.invariant.1
