-- Letters of one word beside as many of another, and letters as one number.
use Rattle.std.specs.Prelude.{◌≡◌, Bool, true, false, ℕ, zero, suc, ◌+◌, ◌*◌, ◌<◌, eqb, get_or}
use Rattle.words.specs.Word.{Word}

-- The n letters of u from place i on are those of v from place j on.
unfoldable pub same_for : Word → ℕ → Word → ℕ → ℕ → Bool
same_for u i v j zero = true
same_for u i v j (suc n) = elim (eqb (get_or u i 0) (get_or v j 0)) [ true ↦ same_for u (i + 1) v (j + 1) n | false ↦ false ]

-- The n letters of u from place i on as the digits of a number to the base 256, the first the lowest.
unfoldable pub letters_number : Word → ℕ → ℕ → ℕ
letters_number u i zero = 0
letters_number u i (suc n) = get_or u i 0 + letters_number u (i + 1) n * 256

-- r is the number of the n letters of u from place i on, each of them a byte.
pub record NumberAt (u : Word) (i n r : ℕ) : Type 0 where
  pub number : r ≡ letters_number u i n
  pub bytes : (k : ℕ) → k < n → get_or u (i + k) 0 < 256
