-- A polynomial has at most one sequence of steps, since each step is given by `target`. So the step count of an answer is the length of the one sequence
-- from the formula, and the answer is its end.
use mathlib.Core.Path.{◌≡◌, refl, sym, ◌∙◌}
use mathlib.Core.List.{List}
use Prim.Native.Nat.{ℕ}
use native.Mathlib.Omega.{arith}
use lib.ListN.{length}
use Rattle.field.specs.Field.{Operations}
use Rattle.words.specs.Order.{Order}
use Rattle.algebra.specs.Poly.{Term, Poly}
use Rattle.algebra.specs.Ideal.{Line}
use Rattle.algebra.specs.Spot.{reduced, reducible}
use Rattle.algebra.specs.Steps.{Sequence, ended, step, answer, run}
use Rattle.algebra.proofs.Running.{run_sequence}

reduced-ne-reducible : {t : Term} {i n : ℕ} → reduced ≡ reducible t i n → ⊥
reduced-ne-reducible e = let z : ◌≡◌ {A = ℕ} 0 1 = cc in omega arith

module _ {K : Operations} {O : Order} {ps : List Poly} where
  -- no polynomial has two sequences of steps
  pub sequence_unique : {f M N : Poly} {xs ys : List Line} → Sequence K O ps f xs M → Sequence K O ps f ys N → (xs ≡ ys) × (M ≡ N)
  sequence_unique (ended d) (ended e) = (refl, refl)
  sequence_unique (ended d) (step e r) = absurd (reduced-ne-reducible (sym d ∙ e))
  sequence_unique (step d s) (ended e) = absurd (reduced-ne-reducible (sym e ∙ d))
  sequence_unique (step {t = t} {i} {n = m} d s) (step {t = u} {i = j} {n} e r) =
      let p : t ≡ u = cc in
      let q : i ≡ j = cc in
      let z : m ≡ n = cc in
      let (x, y) = sequence_unique s (rw (← p, ← q, ← z) at r) in
      (rw (x, p, q, z), y)

  -- an answer is the end of the one sequence of steps from f, and the step count is that sequence's length
  pub step-count_is_length : (limit b : ℕ) (f N : Poly) (m : ℕ) → run limit K O ps b 0 f ≡ answer N m
      → (xs : List Line) × Sequence K O ps f xs N × (length xs ≡ m) × ((ys : List Line) (M : Poly) → Sequence K O ps f ys M → (ys ≡ xs) × (M ≡ N))
  step-count_is_length limit b f N m e =
      let (xs, s, l) = run_sequence limit K O ps b f N m e in
      (xs, s, l, λ ys M r. sequence_unique r s)
