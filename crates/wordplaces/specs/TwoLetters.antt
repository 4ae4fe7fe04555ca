-- Two letters of one word beside two of another.
use Rattle.std.specs.Prelude.{Bool, true, false, ℕ, ◌+◌, eqb, get_or}
use Rattle.words.specs.Word.{Word}

-- The two letters of u from place i on are those of v from place j on.
unfoldable pub two_same : Word → ℕ → Word → ℕ → Bool
two_same u i v j = elim (eqb (get_or u i 0) (get_or v j 0)) [ true ↦ eqb (get_or u (i + 1) 0) (get_or v (j + 1) 0) | false ↦ false ]
