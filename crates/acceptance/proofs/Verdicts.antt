-- A verdict and the next: neither refuses exactly if both are fine.
use mathlib.Core.Path.{◌≡◌, refl}
use mathlib.Core.Logic.{◌↔◌}
use Prim.Native.Nat.{ℕ}
use native.Mathlib.Omega.{arith}
use Rattle.acceptance.specs.Check.{Verdict, refusal, fine, then_judge}

-- a refusal is not fine
pub refusal_not_fine : {a b : ℕ} → refusal a b ≡ fine → ⊥
refusal_not_fine e = let z : ◌≡◌ {A = ℕ} 0 1 = cc in omega arith

pub then_iff : (v w : Verdict) → (then_judge v w ≡ fine) ↔ ((v ≡ fine) × (w ≡ fine))
unfolding then_judge
then_iff (refusal n k) w = (λ e. absurd (refusal_not_fine e), λ h. absurd (refusal_not_fine h.0))
then_iff fine w = (λ e. (refl, e), λ h. h.1)
