-- Masks: numbers whose binary digits stand for the words of a list.
use Rattle.std.specs.Prelude.{◌≡◌, List, ℕ, ◌/◌, ◌%◌, ◌^◌, ◌<◌, get_or, set}
use Rattle.std.specs.Int.Bits.{bit_or}

-- Bit g of a mask, 0 or 1; bit 0 is the lowest.
abbrev pub bit : ℕ → ℕ → ℕ
bit m g = m / 2 ^ g % 2

-- Bit g is set, and no lower one.
pub record LowestBit (m g : ℕ) : Type 0 where
  pub set : bit m g ≡ 1
  pub lowest : (j : ℕ) → j < g → bit m j ≡ 1 → ⊥

-- Masks of which the one at a place has bit g as well.
abbrev pub with_mark : List ℕ → ℕ → ℕ → List ℕ
with_mark t at g = set t at (bit_or (get_or t at 0) (2 ^ g))
