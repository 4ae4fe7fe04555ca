use mathlib.Core.Path.{◌≡◌}
use Prim.Native.Nat.{◌+◌}
use lib.ListN.{drop}
use Rattle.package.specs.Held.{slots_held}
use Rattle.package.specs.Items.{first_of}
use Rattle.termreading.proofs.items.skip_terms.Given as goal

abbrev pub invariant-loop-i : goal.invariant-loop-i
invariant-loop-i l = (l.i + first_of l.j (drop l.i (slots_held l.h l.kinds l.items l.n)) ≡ l.at + first_of l.j (drop l.at (slots_held l.h l.kinds l.items l.n)))
