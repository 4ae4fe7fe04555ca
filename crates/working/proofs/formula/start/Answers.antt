-- `start` names the places in order. The loop's invariant: each entry before i names its own place. So each place is named once.
use mathlib.Core.Path.{◌≡◌, sym, ◌∙◌}
use mathlib.Core.List.{List}
use Prim.Native.Nat.{ℕ, ◌<◌}
use native.Mathlib.Omega.{arith}
use lib.ListN.{length, get_or}
use Rattle.working.specs.Working.{Arranged}
use Rattle.working.proofs.formula.start.Goals as goal

own-arranged : (o : List ℕ) → ((i : ℕ) → i < length o → get_or o i 0 ≡ i) → Arranged o
own-arranged o e = record {
  inside = λ i h. rw (e i h) h;
  apart = λ i j h k q. sym (e i h) ∙ q ∙ e j k;
}

pub returns : goal.returns
returns c =
    own-arranged c.loop-i.o (λ j h. c.loop-i.invariant j (omega (arith, c.loop-i-test.false, c.loop-i.auto.o)))
