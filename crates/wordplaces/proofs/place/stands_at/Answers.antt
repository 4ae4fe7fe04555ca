-- `stands_at` is `stands_at` and `compared_at`. The loop's invariant: the letters behind the first n were compared, and none differed.
use mathlib.Core.Path.{◌≡◌, sym, ◌∙◌}
use native.Mathlib.Omega.{arith}
use Rattle.wordplaces.proofs.ComparingTurns.{both_joined, said-past, some_compared, two_agree, later-differs, earlier_differs, first_agrees, first-differs, said-stands}
use Rattle.wordplaces.proofs.place.stands_at.Goals as goal
use Rattle.wordplaces.proofs.place.stands_at.Goals.{then-w-at-via-then-w-at, then-w-at-via-else-w-at+then-w-at-2}

pub returns-then-w-at : goal.returns-then-w-at
returns-then-w-at c =
    let b = c.args.b.now in
    let w = c.args.w.now in
    let at = c.args.at in
    let all = both_joined _ _ _ _ c.not_standing.ensures (said-past b w at (elim c.then-w-at.branch [ then-w-at-via-then-w-at z ↦ omega arith | then-w-at-via-else-w-at+then-w-at-2 z ↦ omega arith ])) in
    record {
      stands_value = all.0;
      compared_value = all.1;
    }

pub eights_left-n-requires : goal.eights_left-n-requires
eights_left-n-requires c =
    omega (arith, c.if-w-at-2.false)

pub loop-n-init : goal.loop-n-init
loop-n-init c =
    some_compared _ _ _ (omega (arith, c.if-w-at-2.false)) _ c.eights_left-n.ensures

pub returns-then-b-i : goal.returns-then-b-i
returns-then-b-i c =
    let all = both_joined _ _ _ _ c.not_standing-then-b-i.ensures (later-differs _ _ _ c.loop-n.n (omega arith) c.loop-n.invariant c.if-b-i.true) in
    record {
      stands_value = all.0;
      compared_value = all.1;
    }

pub returns-then-not-two_same : goal.returns-then-not-two_same
returns-then-not-two_same c =
    let all = both_joined _ _ _ _ c.not_standing-then-not-two_same.ensures (earlier_differs _ _ _ c.loop-n.n (omega arith) c.loop-n.invariant (sym c.two_same.ensures ∙ c.if-not-two_same.true) c.if-b-i.false) in
    record {
      stands_value = all.0;
      compared_value = all.1;
    }

pub loop-n-preserved : goal.loop-n-preserved
loop-n-preserved c =
    two_agree _ _ _ c.loop-n.n (omega arith) c.loop-n.invariant (sym c.two_same.ensures ∙ c.if-not-two_same.false)

pub returns-then-b-w : goal.returns-then-b-w
returns-then-b-w c =
    let all = both_joined _ _ _ _ c.not_standing-then-b-w.ensures (first-differs _ _ _ c.loop-n.n (omega arith) c.loop-n.invariant c.if-b-w.true) in
    record {
      stands_value = all.0;
      compared_value = all.1;
    }

pub returns-else-b-w : goal.returns-else-b-w
returns-else-b-w c =
    let all = said-stands _ _ _ (first_agrees _ _ _ c.loop-n.n (omega arith) c.loop-n.invariant c.if-b-w.false) in
    record {
      stands_value = all.0;
      compared_value = all.1;
    }

pub returns-else-n-gt0 : goal.returns-else-n-gt0
returns-else-n-gt0 c =
    let e : c.loop-n.n ≡ 0 = omega arith in
    let all = said-stands _ _ _ (rw e at c.loop-n.invariant) in
    record {
      stands_value = all.0;
      compared_value = all.1;
    }
