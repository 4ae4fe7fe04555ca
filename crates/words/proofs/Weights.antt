-- The weight of a product is the sum of the weights.
use mathlib.Core.Path.{◌≡◌}
use mathlib.Core.List.{[], ◌∷◌, ◌++◌}
use Prim.Native.Nat.{ℕ, ◌+◌}
use native.Mathlib.Omega.{arith}
use Rattle.words.specs.Word.{Word}
use Rattle.words.specs.Weighted.{weight}

pub weight-append : (weigh : ℕ → ℕ) (u v : Word) → weight weigh (u ++ v) ≡ weight weigh u + weight weigh v
unfolding weight
weight-append weigh [] v = omega arith
weight-append weigh (a ∷ u) v = omega (arith, weight-append weigh u v)
