-- An answer that takes k steps comes with every budget of k or more, and every lesser budget is spent.
use mathlib.Core.Path.{◌≡◌, refl, ◌∙◌, ap}
use mathlib.Core.Bool.{Bool, true, false}
use mathlib.Core.List.{List}
use Prim.Native.Nat.{ℕ, zero, suc, ◌+◌, ◌≤◌, ◌<◌}
use native.Mathlib.Omega.{arith}
use lib.Dec.{ltb}
use lib.ListN.{length}
use Rattle.field.specs.Field.{Operations}
use Rattle.words.specs.Order.{Order}
use Rattle.algebra.specs.Poly.{Term, Poly}
use Rattle.algebra.specs.Spot.{Target, reduced, reducible, target}
use Rattle.algebra.specs.Steps.{stepped, Ended, answer, over, spent, onward, run}

module _ (limit : ℕ) (K : Operations) (O : Order) (ps : List Poly) where
  -- What follows a step, with a budget of b more.
  abbrev after : ℕ → ℕ → Poly → Term → ℕ → ℕ → Ended
  after b used f t i n = elim (ltb limit (length (stepped K O ps f t i n))) [ true ↦ over (suc used) | false ↦ run limit K O ps b (suc used) (stepped K O ps f t i n) ]

  -- An answer within a budget is the answer within every greater one.
  pub run_more : (b c used : ℕ) (f N : Poly) (m : ℕ) → b ≤ c → run limit K O ps b used f ≡ answer N m → run limit K O ps c used f ≡ answer N m
  unfolding run onward
  run_more zero zero used f N m h e = e
  run_more zero (suc c) used f N m h e = go (target ps f) e
    where
      go : (o : Target) → onward (λ t i n. spent) f used o ≡ answer N m → onward (after c used f) f used o ≡ answer N m
      go reduced q = q
      go (reducible t i n) q = cc
  run_more (suc b) zero used f N m h e = absurd (omega arith)
  run_more (suc b) (suc c) used f N m h e = go (target ps f) e (λ t i n. run_more b c (suc used) (stepped K O ps f t i n) N m (omega arith))
    where
      by : (x : Bool) (g : Poly) → elim x [ true ↦ over (suc used) | false ↦ run limit K O ps b (suc used) g ] ≡ answer N m
          → (run limit K O ps b (suc used) g ≡ answer N m → run limit K O ps c (suc used) g ≡ answer N m)
          → elim x [ true ↦ over (suc used) | false ↦ run limit K O ps c (suc used) g ] ≡ answer N m
      by true g q r = q
      by false g q r = r q

      go : (o : Target) → onward (after b used f) f used o ≡ answer N m
          → ((t : Term) (i n : ℕ) → run limit K O ps b (suc used) (stepped K O ps f t i n) ≡ answer N m → run limit K O ps c (suc used) (stepped K O ps f t i n) ≡ answer N m)
          → onward (after c used f) f used o ≡ answer N m
      go reduced q r = q
      go (reducible t i n) q r = by (ltb limit (length (stepped K O ps f t i n))) (stepped K O ps f t i n) q (r t i n)

  -- Where the answer takes k steps, every lesser budget is spent.
  pub run-fewer : (b c used k : ℕ) (f N : Poly) → c < k → run limit K O ps b used f ≡ answer N (used + k) → run limit K O ps c used f ≡ spent
  unfolding run onward
  run-fewer zero c used k f N h e = absurd (go (target ps f) e)
    where
      go : (o : Target) → onward (λ t i n. spent) f used o ≡ answer N (used + k) → ⊥
      go reduced q = let n : used ≡ used + k = cc in omega arith
      go (reducible t i n) q = let z : ◌≡◌ {A = ℕ} 0 1 = cc in omega arith
  run-fewer (suc b) zero used k f N h e = go (target ps f) e
    where
      go : (o : Target) → onward (after b used f) f used o ≡ answer N (used + k) → onward (λ t i n. spent) f used o ≡ spent
      go reduced q = absurd (let n : used ≡ used + k = cc in omega arith)
      go (reducible t i n) q = refl
  run-fewer (suc b) (suc c) used zero f N h e = absurd (omega arith)
  run-fewer (suc b) (suc c) used (suc k) f N h e =
      go (target ps f) e (λ t i n q. run-fewer b c (suc used) k (stepped K O ps f t i n) N (omega arith) (q ∙ ap (answer N) (omega arith)))
    where
      by : (x : Bool) (g : Poly) → elim x [ true ↦ over (suc used) | false ↦ run limit K O ps b (suc used) g ] ≡ answer N (used + suc k)
          → (run limit K O ps b (suc used) g ≡ answer N (used + suc k) → run limit K O ps c (suc used) g ≡ spent)
          → elim x [ true ↦ over (suc used) | false ↦ run limit K O ps c (suc used) g ] ≡ spent
      by true g q r = cc
      by false g q r = r q

      go : (o : Target) → onward (after b used f) f used o ≡ answer N (used + suc k)
          → ((t : Term) (i n : ℕ) → run limit K O ps b (suc used) (stepped K O ps f t i n) ≡ answer N (used + suc k) → run limit K O ps c (suc used) (stepped K O ps f t i n) ≡ spent)
          → onward (after c used f) f used o ≡ spent
      go reduced q r = absurd (let n : used ≡ used + suc k = cc in omega arith)
      go (reducible t i n) q r = by (ltb limit (length (stepped K O ps f t i n))) (stepped K O ps f t i n) q (r t i n)
