-- What a part of a text is read as, and parts read one behind the other.
use Rattle.std.specs.Prelude.{ℕ}

-- Refused, with number and place, or read as something.
pub data Answer (A : Type 0) : Type 0 where
  refused : ℕ → ℕ → Answer A
  read : A → Answer A

infixl 20 ◌then◌
-- A part, and then the next one, which takes what the first left. A refusal of the first stands.
unfoldable pub ◌then◌ : {A B : Type 0} → Answer A → (A → Answer B) → Answer B
◌then◌ (refused n k) f = refused n k
◌then◌ (read x) f = f x
