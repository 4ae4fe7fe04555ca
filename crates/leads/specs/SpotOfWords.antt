-- The leftmost place where a word of a list stands in a word: `spot` of the algebra, with words in place of the polynomials that they lead.
use Rattle.std.specs.Prelude.{◌≡◌, true, false, ◌↔◌, List, [], ◌∷◌, ℕ, suc, ◌<◌, length, get_or, Option as Answer, Some, None}
use Rattle.std.proofs.Math.Option.{Option, none, some}
use Rattle.words.specs.Word.{Word}
use Rattle.words.specs.Place.{begins}
use Rattle.algebra.specs.Spot.{Spot, nowhere, found, spot_at}
use Rattle.leads.specs.declared.Spot as answered
use Rattle.leads.specs.Masks.{bit}

-- The lowest number, counted from n, of a word of the list that w begins with.
unfoldable pub first_beginning : List Word → ℕ → Word → Option ℕ
unfolding begins
first_beginning [] n w = none
first_beginning (b ∷ ls) n w = elim (begins b w) [ true ↦ some n | false ↦ first_beginning ls (suc n) w ]

-- The leftmost place of a word of the list in w, where w's first letter has place i; of two words that stand there the lower number.
unfoldable pub spot_of_words_from : List Word → Word → ℕ → Spot
unfolding first_beginning spot_at
spot_of_words_from ls [] i = spot_at i (first_beginning ls 1 []) nowhere
spot_of_words_from ls (a ∷ w) i = spot_at i (first_beginning ls 1 (a ∷ w)) (spot_of_words_from ls w (suc i))

-- The leftmost place of a word of the list in w, and its number, counted from 1.
unfoldable pub spot_of_words : List Word → Word → Spot
unfolding spot_of_words_from
spot_of_words ls w = spot_of_words_from ls w 0

-- What the code answers, as a spot.
unfoldable pub seen : Answer answered.Spot → Spot
seen None = nowhere
seen (Some s) = found s.place s.number

-- The mask has bit g exactly where word g, from 0, is one that v begins with.
abbrev pub BegunBy : List Word → Word → ℕ → Type 0
BegunBy ls v m = (g : ℕ) → (bit m g ≡ 1) ↔ ((g < length ls) × (begins (get_or ls g []) v ≡ true))
