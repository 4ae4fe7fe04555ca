use mathlib.Core.Path.{◌≡◌}
use Rattle.working.specs.Working.{terms}
use Rattle.working.specs.Polynomial.{poly_term}
use Rattle.packedterms.specs.InFormula.{formula_in, HoldsIn}
use Rattle.packedtexts.proofs.loading.load.Given as goal

abbrev pub invariant-loop-j : goal.invariant-loop-j
invariant-loop-j l =
    (l.f.terms ≡ l.j) × HoldsIn l.t l.f × (formula_in l.t l.f ≡ terms (poly_term l.fc l.fs l.fl l.text) 0 l.j)
