-- The spot of words of codes is the spot of the words of letters that they stand for.
use mathlib.Core.Path.{◌≡◌, refl, ap₂}
use mathlib.Core.Bool.{Bool, true, false}
use mathlib.Core.Option.{Option, some}
use mathlib.Core.List.{List, [], ◌∷◌, map}
use Prim.Native.Nat.{ℕ, suc}
use Rattle.lists.specs.All.{All, done, ◌also◌}
use Rattle.words.specs.Word.{Word}
use Rattle.words.specs.Place.{begins, stands_at}
use Rattle.packedwords.proofs.Coding.{stands_by_codes}
use Rattle.algebra.specs.Spot.{spot_at}
use Rattle.leads.specs.SpotOfWords.{first_beginning, spot_of_words_from, spot_of_words}

-- The codes are those numbers that have P, and no two of them stand for one letter.
module _ (P : ℕ → Type 0) (letter : ℕ → ℕ) (own : (c d : ℕ) → P c → P d → letter c ≡ letter d → c ≡ d) where
  begins_in_letters : (b w : Word) → All P b → All P w → begins (map letter b) (map letter w) ≡ begins b w
  unfolding stands_at
  begins_in_letters b w p q = stands_by_codes P letter own b w 0 p q

  first_in_letters : (ls : List Word) (n : ℕ) (w : Word) → All (All P) ls → All P w → first_beginning (map (map letter) ls) n (map letter w) ≡ first_beginning ls n w
  unfolding first_beginning
  first_in_letters [] n w done q = refl
  first_in_letters (b ∷ ls) n w (p also ps) q =
      ap₂ (λ (x : Bool) (o : Option ℕ). elim x [ true ↦ some n | false ↦ o ]) (begins_in_letters b w p q) (first_in_letters ls (suc n) w ps q)

  from_in_letters : (ls : List Word) (w : Word) (i : ℕ) → All (All P) ls → All P w → spot_of_words_from (map (map letter) ls) (map letter w) i ≡ spot_of_words_from ls w i
  unfolding spot_of_words_from
  from_in_letters ls [] i p done = rw (first_in_letters ls 1 [] p done)
  from_in_letters ls (c ∷ w) i p (q also qs) =
      ap₂ (spot_at i) (first_in_letters ls 1 (c ∷ w) p (q also qs)) (from_in_letters ls w (suc i) p qs)

  pub spot_in_letters : (ls : List Word) (w : Word) → All (All P) ls → All P w → spot_of_words (map (map letter) ls) (map letter w) ≡ spot_of_words ls w
  unfolding spot_of_words
  spot_in_letters ls w p q = from_in_letters ls w 0 p q
