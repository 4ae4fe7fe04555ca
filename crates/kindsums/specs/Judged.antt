-- What is left of the sum lines behind sums that passed.
use Rattle.std.specs.Prelude.{List, ℕ, ◌+◌, Result, Ok, Err}
use Rattle.package.specs.declared.Head.{Head}
use Rattle.package.specs.declared.Refusal.{Refusal}
use Rattle.package.specs.Sums.{SumLine}
use Rattle.sumlines.specs.Lines.{sums_at}
use Rattle.sumorder.specs.Reached.{Past, Reached}
use Rattle.kindsums.specs.declared.Behind.{Behind}

-- Behind count items of kind k: the place that is reached, and that only lines of the kind were passed.
unfoldable pub LeftBehind : Head → ℕ → ℕ → List ℕ → List SumLine → Result Behind Refusal → Type 0
LeftBehind h k count bytes ss (Err r) = Unit {0}
LeftBehind h k count bytes ss (Ok b) = Reached h k (count + 1) bytes b.at b.line × Past k ss (sums_at bytes b.at b.line)
