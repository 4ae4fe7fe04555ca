-- `mark_items`: the starts of the items before j are stored, and the search goes on for the later ones.
use mathlib.Core.Path.{refl}
use Prim.Native.Nat.{◌<◌}
use native.Mathlib.Omega.{arith}
use lib.ListN.{length}
use Rattle.package.proofs.ItemStarts.{onward-start, onward-next, stored_next}
use Rattle.package.specs.Held.{slots_held}
use Rattle.termreading.proofs.items.mark_items.Goals as goal

pub loop-j-init : goal.loop-j-init
loop-j-init c =
    let a = c.args in record {
      within = omega arith;
      onward = onward-start (slots_held a.h a.kinds.now a.items.now a.n);
      stored = λ i z. absurd (omega arith);
    }

pub loop-j-preserved : goal.loop-j-preserved
loop-j-preserved c =
    let x = c.loop-j in
    let a = c.args in
    let q = onward-next (slots_held a.h a.kinds.now a.items.now a.n) x.m x.j _ x.invariant.onward c.skip_terms-m.ensures.value in
    let l : x.j < length x.firsts = omega arith in record {
      within = c.skip_terms-m.ensures.upper_bound;
      onward = q.1;
      stored = stored_next (slots_held a.h a.kinds.now a.items.now a.n) x.firsts _ x.j _ refl l q.0 x.invariant.stored;
    }

pub returns : goal.returns
returns c = λ j h. c.loop-j.invariant.stored j (omega arith)
