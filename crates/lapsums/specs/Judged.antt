-- What the answer on all pairs says.
use Rattle.std.specs.Prelude.{◌≡◌, false, List, ℕ, Result, Ok, Err}
use Rattle.package.specs.declared.Refusal.{Refusal}
use Rattle.package.specs.Sums.{SumLine}
use Rattle.acceptance.specs.Check.{fine, items_judged}
use Rattle.lapsums.specs.declared.PairsPassed.{PairsPassed}

-- It counts the n pairs, and where no line is left over none of the lines ss gives 15.
unfoldable pub LapsBehind : ℕ → List SumLine → Result PairsPassed Refusal → Type 0
LapsBehind n ss (Err r) = Unit {0}
LapsBehind n ss (Ok laps) = (laps.count ≡ n) × (laps.left ≡ false → items_judged n ss ≡ fine)
