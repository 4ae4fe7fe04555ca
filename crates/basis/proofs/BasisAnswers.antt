-- What refusal 8 says of a basis.
use mathlib.Core.Path.{◌≡◌, refl}
use mathlib.Core.List.{List}
use Rattle.algebra.specs.Poly.{Poly}
use Rattle.acceptance.specs.Check.{zeros_judged, basis_judged}

-- What is judged of the polynomials is whether one is zero.
pub zeros-judged : (ps : List Poly) → zeros_judged ps 1 ≡ basis_judged ps
unfolding basis_judged
zeros-judged ps = refl
