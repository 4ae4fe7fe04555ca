use mathlib.Core.Path.{◌≡◌}
use Prim.Native.Nat.{◌+◌, ◌-◌}
use Rattle.working.specs.Family.{family_at}
use Rattle.acceptance.specs.Check.{zeros_judged}
use Rattle.basis.proofs.LeadingHeads.{Filled}
use Rattle.basis.proofs.basis.judge_basis.Given as goal

abbrev pub invariant-loop-g : goal.invariant-loop-g
invariant-loop-g l =
    (zeros_judged (family_at l.coefs l.starts l.lens l.bytes l.firsts (l.base + l.g) (l.count - l.g)) (l.g + 1) ≡ zeros_judged (family_at l.coefs l.starts l.lens l.bytes l.firsts l.base l.count) 1)
    × Filled l.starts l.lens l.firsts l.base l.g l.heads l.headlens
