use mathlib.Core.Path.{◌≡◌}
use lib.ListN.{take}
use Rattle.lending.specs.Kept.{count_kept_of}
use Rattle.lending.proofs.kept.count_kept.Given as goal

abbrev pub invariant-loop-b : goal.invariant-loop-b
invariant-loop-b l = l.n ≡ count_kept_of (take l.b-index l.b-items)
