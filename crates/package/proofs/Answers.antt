-- Parts of a text read one behind the other: what is read was read by both, and a refusal is no reading.
use mathlib.Core.Path.{◌≡◌, refl, ap}
use Prim.Native.Nat.{ℕ}
use native.Mathlib.Omega.{arith}
use Rattle.package.specs.Answer.{Answer, refused, read, ◌then◌}

pub refused_not_read : {A : Type 0} (v n : ℕ) (x : A) → refused v n ≡ read x → ⊥
refused_not_read v n x e = let y : ◌≡◌ {A = ℕ} 0 1 = cc in omega arith

pub read_injective : {A : Type 0} (x y : A) → read x ≡ read y → x ≡ y
read_injective {A} x y e = ap value e
  where
    value : Answer A → A
    value (refused v n) = x
    value (read z) = z

pub then-read : {A B : Type 0} (x : Answer A) (f : A → Answer B) (y : B) → (x then f) ≡ read y → (a : A) × (x ≡ read a) × (f a ≡ read y)
unfolding ◌then◌
then-read (refused v n) f y e = absurd (refused_not_read v n y e)
then-read (read a) f y e = (a, refl, e)
