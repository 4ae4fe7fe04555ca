use Prim.Native.Nat.{◌≤◌}
use Rattle.package.proofs.ItemStarts.{Onward, Stored}
use Rattle.package.specs.Held.{slots_held}
use Rattle.termreading.proofs.items.mark_items.Given as goal

abbrev pub invariant-loop-j : goal.invariant-loop-j
invariant-loop-j l = record {
  within : l.m ≤ l.n;
  onward : Onward (slots_held l.h l.kinds l.items l.n) l.m l.j;
  stored : Stored (slots_held l.h l.kinds l.items l.n) l.firsts l.j;
}
