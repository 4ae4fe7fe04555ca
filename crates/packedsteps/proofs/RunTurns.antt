-- One turn of running: what follows from the target, the budget and the number of terms after the step.
use mathlib.Core.Path.{◌≡◌, ◌∙◌, ap}
use mathlib.Core.Bool.{Bool, true, false}
use mathlib.Core.List.{List}
use Prim.Native.Nat.{ℕ, zero, suc, ◌≤◌, ◌<◌}
use lib.Dec.{ltb}
use lib.ListN.{length}
use borrow.Author.Tests.{lt-ltb, le-ltb}
use Rattle.field.specs.Field.{Operations}
use Rattle.words.specs.Order.{Order}
use Rattle.algebra.specs.Poly.{Term, Poly}
use Rattle.algebra.specs.Spot.{reduced, reducible, target}
use Rattle.algebra.specs.Steps.{stepped, Ended, answer, over, spent, onward, run}

module _ (limit : ℕ) (K : Operations) (O : Order) (ps : List Poly) (used : ℕ) (f : Poly) where
  -- nothing is reducible: the answer, whatever the budget
  pub run-answer : (b : ℕ) → target ps f ≡ reduced → run limit K O ps b used f ≡ answer f used
  unfolding run onward
  run-answer zero e = rw (run, e)
  run-answer (suc b) e = rw (run, e)

  module _ (t : Term) (i n : ℕ) (e : target ps f ≡ reducible t i n) where
    pub run-spent : run limit K O ps 0 used f ≡ spent
    unfolding run onward
    run-spent = rw (run, e)

    turn : (b : ℕ) → run limit K O ps (suc b) used f
        ≡ elim (ltb limit (length (stepped K O ps f t i n))) [ true ↦ over (suc used) | false ↦ run limit K O ps b (suc used) (stepped K O ps f t i n) ]
    unfolding run onward
    turn b = rw (run, e)

    -- what follows the step, by its number of terms
    abbrev after : ℕ → Bool → Ended
    after b x = elim x [ true ↦ over (suc used) | false ↦ run limit K O ps b (suc used) (stepped K O ps f t i n) ]

    pub run-over : (b : ℕ) → limit < length (stepped K O ps f t i n) → run limit K O ps (suc b) used f ≡ over (suc used)
    run-over b h = turn b ∙ ap (after b) (lt-ltb limit (length (stepped K O ps f t i n)) h)

    pub run-next : (b : ℕ) → length (stepped K O ps f t i n) ≤ limit
        → run limit K O ps (suc b) used f ≡ run limit K O ps b (suc used) (stepped K O ps f t i n)
    run-next b h = turn b ∙ ap (after b) (le-ltb limit (length (stepped K O ps f t i n)) h)
