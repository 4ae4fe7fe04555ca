-- `judge_basis` judges refusal 8. The loop's invariant: what is left to judge gives the verdict of refusal 8, and the leading words before are laid.
use mathlib.Core.Path.{◌≡◌, ◌∙◌}
use native.Mathlib.Omega.{arith}
use Rattle.working.specs.Family.{family_at}
use Rattle.acceptance.specs.Check.{fine, zeros_judged}
use Rattle.basis.specs.Heads.{HeadsOf}
use Rattle.basis.specs.Answer.{verdict_of, HeadsWhere}
use Rattle.basis.proofs.BasisAnswers.{zeros-judged}
use Rattle.basis.proofs.LeadingHeads.{filled_none, filled_next, zeros-start, zero-refused, zeros-next, zeros-end, heads_of}
use Rattle.basis.proofs.basis.judge_basis.Goals as goal

-- behind the loop nothing is refused with 8
led : (i : goal.After-loop-g) → let s = i.args in
    fine ≡ zeros_judged (family_at s.coefs.now s.starts.now s.lens.now s.bytes.now s.firsts.now s.base s.count) 1
led i =
    zeros-end _ _ _ _ _ _ _ i.requires.basis_lies i.loop-g.g i.loop-g-test.false ∙ i.loop-g.invariant.0

-- and the leading words are laid
laid : (i : goal.After-loop-g) → let s = i.args in
    HeadsOf s.coefs.now s.starts.now s.lens.now s.bytes.now s.firsts.now s.base s.count i.loop-g.heads i.loop-g.headlens
laid i =
    let l = i.loop-g in
    let u = i.requires.count_in_bounds.0 in
    let v = i.requires.count_in_bounds.1 in
    let e : l.g ≡ i.args.count = omega arith in
    heads_of _ _ _ _ _ _ _ i.requires.basis_lies _ _ (rw e at l.invariant.1) (omega arith) (omega arith)

pub loop-g-init : goal.loop-g-init
loop-g-init c = (zeros-start _ _ _ _ _ _ _ c.requires.basis_lies, filled_none _ _ _ _ _ _ _ c.requires.basis_lies _ _)

pub returns-then-b-a : goal.returns-then-b-a
unfolding verdict_of HeadsWhere
returns-then-b-a c =
    let l = c.loop-g in
    record {
      result_value = zero-refused _ _ _ _ _ _ _ c.requires.basis_lies l.g c.loop-g-test.true c.if-b-a.true ∙ l.invariant.0 ∙ zeros-judged _;
      heads_where = tt;
    }

pub loop-g-preserved : goal.loop-g-preserved
loop-g-preserved c =
    let l = c.loop-g in
    let t = c.loop-g-test.true in
    let f = c.if-b-a.false in
    let u = c.requires.count_in_bounds.0 in
    let v = c.requires.count_in_bounds.1 in (
      zeros-next _ _ _ _ _ _ _ c.requires.basis_lies l.g t f ∙ l.invariant.0,
      rw c.from.ensures (filled_next _ _ _ _ _ _ _ c.requires.basis_lies l.g t _ _ (omega arith) (omega arith) f l.invariant.1),
    )

pub returns : goal.returns
unfolding verdict_of HeadsWhere
returns c = record {
  result_value = led c ∙ zeros-judged _;
  heads_where = laid c;
}
