-- `count_kept`: the invariant is that those before the turn are counted.
use mathlib.Core.Path.{refl, sym, ap, ◌∙◌}
use mathlib.Core.List.{List}
use Prim.Native.Nat.{ℕ, ◌+◌, ◌-◌, ◌≤◌}
use native.Mathlib.Omega.{arith}
use lib.ListN.{length, take, drop}
use borrow.Author.Rules.{rules}
use borrow.Author.Tests.{eq-eqb, ne_eqb}
use Rattle.std.proofs.lemmas.List.{length-take-le, take_all, length-drop}
use Rattle.std.proofs.lemmas.List.Sums.{count_by-le-length, count_by_more_yes, count_by_more_no}
use Rattle.std.specs.Prelude.{◌==◌}
use Rattle.lending.specs.Kept.{count_kept_of}
use Rattle.lending.proofs.kept.count_kept.Goals as goal
use Rattle.lending.proofs.kept.count_kept.Goals.{then-kept, else-kept}

pub loop-b-init : goal.loop-b-init
loop-b-init c = refl

pub overflow_add-n : goal.overflow_add-n
overflow_add-n c =
    let out = c.args.out.now in
    let items : List ℕ = take (length out - c.args.from) (drop c.args.from out) in
    let i = c.loop-b.b-index in
    let u = count_by-le-length (λ b. b == 126) (take i items) in
    let v = length-take-le i items c.loop-b.auto.b-index-end in
    let n : c.loop-b.n ≤ i = omega (arith, u, v, c.loop-b.invariant) in
    search rules

pub loop-b-preserved : goal.loop-b-preserved
loop-b-preserved c =
    let out = c.args.out.now in
    let items : List ℕ = take (length out - c.args.from) (drop c.args.from out) in
    let i = c.loop-b.b-index in
    elim c.if-kept.branch [
      | then-kept w ↦ w.n-is ∙ ap (λ (n : ℕ). n + 1) c.loop-b.invariant ∙ sym (count_by_more_yes (λ b. b == 126) items i 0 c.loop-b-test.true (eq-eqb _ 126 w.if-kept.true))
      | else-kept w ↦ w.n-is ∙ c.loop-b.invariant ∙ sym (count_by_more_no (λ b. b == 126) items i 0 c.loop-b-test.true (ne_eqb _ 126 w.if-kept.false))
    ]

pub returns : goal.returns
returns c =
    let out = c.args.out.now in
    let rest = drop c.args.from out in
    let room : length rest ≤ length out - c.args.from = omega (arith, length-drop c.args.from out) in
    c.loop-b.invariant ∙ ap count_kept_of (take_all c.loop-b.b-index _ c.loop-b-test.false ∙ take_all (length out - c.args.from) rest room)
