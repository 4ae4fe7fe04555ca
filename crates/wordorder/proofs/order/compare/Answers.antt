-- `compare` is 01's order. The loops' invariant: the letters that are left say what all of them say.
use mathlib.Core.Path.{◌≡◌, sym, ◌∙◌}
use native.Mathlib.Omega.{arith}
use Rattle.wordorder.specs.Block.{block_at}
use Rattle.std.specs.declared.cmp.Ordering.TheVariants.{Equal}
use Rattle.words.proofs.Lexicographic.{number_cmp}
use Rattle.wordorder.proofs.OrderTurns.{order_shorter, order_longer, order_level, letter-equal, letters-end}
use Rattle.wordorder.proofs.Numbers.{letter-number}
use Rattle.wordorder.proofs.Blocks.{block-equal, block-differs}
use borrow.Author.Rules.{rules}
use Rattle.wordorder.proofs.order.compare.Goals as goal

pub returns-then-u-v : goal.returns-then-u-v
returns-then-u-v c = sym (order_shorter _ _ c.if-u-v.true)

pub returns-then-v-u : goal.returns-then-v-u
returns-then-v-u c = sym (order_longer _ _ c.if-v-u.true)

pub returns-then-x-y : goal.returns-then-x-y
returns-then-x-y c =
    let l = c.loop-i in
    let d : (block_at c.args.u.now l.i ≡ block_at c.args.v.now l.i → ⊥) = λ e. c.if-x-y.true (c.block-x.ensures ∙ e ∙ sym c.block-y.ensures) in
    let size = l.invariant.0 in
    let more = c.loop-i-test.true in
    number_cmp Equal c.cmp.ensures (λ e. c.if-x-y.true (sym e))
    ∙ rw (c.block-x.ensures, c.block-y.ensures) (block-differs _ _ (λ j. omega (arith, c.type_inv.u j)) (λ j. omega (arith, c.type_inv.v j)) l.i (omega arith) (omega arith) d)
    ∙ l.invariant.2
    ∙ sym (order_level _ _ size)

pub loop-i-preserved : goal.loop-i-preserved
loop-i-preserved c =
    let l = c.loop-i in
    let same = sym c.block-x.ensures ∙ c.if-x-y.false ∙ c.block-y.ensures in
    let size = l.invariant.0 in
    let more = c.loop-i-test.true in (
      size,
      omega arith,
      block-equal _ _ (λ j. omega (arith, c.type_inv.u j)) (λ j. omega (arith, c.type_inv.v j)) l.i (omega arith) (omega arith) same ∙ l.invariant.2,
    )

pub returns-then-u-j : goal.returns-then-u-j
returns-then-u-j c =
    let j = c.loop-j.j in
    let u = c.args.u.now in
    let v = c.args.v.now in
    number_cmp _ c.cmp-then-u-j.ensures (λ e. c.if-u-j.true (sym e))
    ∙ letter-number u v j (omega arith) (omega arith) (omega (arith, c.type_inv.u j)) (omega (arith, c.type_inv.v j))
    ∙ c.loop-j.invariant.2
    ∙ sym (order_level u v c.loop-j.invariant.0)

pub loop-j-preserved : goal.loop-j-preserved
loop-j-preserved c =
    (c.loop-j.invariant.0, search rules, letter-equal _ _ c.loop-j.j (omega arith) (omega arith) (omega arith) ∙ c.loop-j.invariant.2)

pub returns : goal.returns
returns c =
    sym (order_level _ _ c.loop-j.invariant.0 ∙ sym c.loop-j.invariant.2 ∙ letters-end _ _ c.loop-j.j (omega arith) (omega arith))
