-- The spot of the leading words is the spot of the polynomials that they lead.
use mathlib.Core.Path.{◌≡◌, refl}
use mathlib.Core.Bool.{Bool, true, false}
use mathlib.Core.Logic.{◌≢◌}
use mathlib.Core.Option.{Option, some}
use mathlib.Core.List.{List, [], ◌∷◌, map}
use Prim.Native.Nat.{ℕ, suc}
use Rattle.lists.specs.All.{All, ◌also◌}
use Rattle.words.specs.Word.{Word}
use Rattle.words.specs.Place.{begins}
use Rattle.algebra.specs.Poly.{Poly}
use Rattle.algebra.specs.Groebner.{lead}
use Rattle.algebra.specs.Spot.{first_begins, spot_from, spot}
use Rattle.leads.specs.SpotOfWords.{first_beginning, spot_of_words_from, spot_of_words}

first_of_leads : (ps : List Poly) → All (λ f. f ≢ []) ps → (n : ℕ) (w : Word) → first_beginning (map lead ps) n w ≡ first_begins ps n w
unfolding first_beginning first_begins lead
first_of_leads [] h n w = refl
first_of_leads ([] ∷ ps) (p also q) n w = absurd (p refl)
first_of_leads ((t ∷ f) ∷ ps) (p also q) n w = go (begins t.word w) (first_of_leads ps q (suc n) w)
  where
    go : (b : Bool) → {x y : Option ℕ} → x ≡ y → ◌≡◌ {A = Option ℕ} (elim b [ true ↦ some n | false ↦ x ]) (elim b [ true ↦ some n | false ↦ y ])
    go true e = refl
    go false e = e

from_of_leads : (ps : List Poly) → All (λ f. f ≢ []) ps → (w : Word) (i : ℕ) → spot_of_words_from (map lead ps) w i ≡ spot_from ps w i
unfolding spot_of_words_from spot_from
from_of_leads ps h [] i = rw (first_of_leads ps h 1 [])
from_of_leads ps h (a ∷ w) i = rw (first_of_leads ps h 1 (a ∷ w), from_of_leads ps h w (suc i))

pub spot_of_leads : (ps : List Poly) → All (λ f. f ≢ []) ps → (w : Word) → spot_of_words (map lead ps) w ≡ spot ps w
unfolding spot_of_words spot
spot_of_leads ps h w = from_of_leads ps h w 0
