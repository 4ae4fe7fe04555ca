-- What `stands_at` and `compared_at` compute at some words: a is byte 97, b is 98.
use mathlib.Core.Path.{◌≡◌, refl}
use mathlib.Core.Bool.{Bool, true, false}
use mathlib.Core.List.{[], ◌∷◌}
use Prim.Native.Nat.{ℕ}
use Rattle.words.specs.Word.{Word}
use Rattle.words.specs.Place.{stands_at, compared_at}

-- Whether b stands in w at place i, and how many letters are compared.
abbrev Answered : Word → Word → ℕ → Bool → ℕ → Type 0
Answered b w i stands compared = (stands_at b w i ≡ stands) × (compared_at b w i ≡ compared)

abbrev aa : Word
aa = 97 ∷ 97 ∷ []

abbrev ab : Word
ab = 97 ∷ 98 ∷ []

abbrev bb : Word
bb = 98 ∷ 98 ∷ []

-- the first letter differs; the last does; none does; the word runs past the end; the empty word at the end, and past it
pub compared_values :
    Answered ab bb 0 false 2
    × Answered ab aa 0 false 1
    × Answered ab ab 0 true 2
    × Answered ab ab 1 false 0
    × Answered [] ab 2 true 0
    × Answered [] ab 3 false 0
unfolding stands_at compared_at
compared_values = ((refl, refl), (refl, refl), (refl, refl), (refl, refl), (refl, refl), (refl, refl))
