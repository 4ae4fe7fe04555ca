-- Laws of the search, place after place: one for each way through a turn of the loop over the places.
use mathlib.Core.Path.{◌≡◌, refl}
use mathlib.Core.Bool.{true}
use mathlib.Core.Option.{none, some}
use mathlib.Core.List.{List, [], ◌∷◌}
use Prim.Native.Nat.{ℕ, zero, suc, ◌+◌, ◌≤◌, ◌<◌}
use native.Mathlib.Numerals.{add-one}
use native.Mathlib.Omega.{arith}
use lib.ListN.{length, get_or, drop, drop_of_length-le}
use lib.Seq.{drop-cons}
use Rattle.lists.proofs.Bools.{not_true}
use Rattle.words.specs.Word.{Word}
use Rattle.words.specs.Place.{begins}
use Rattle.algebra.specs.Spot.{nowhere, found, spot_at}
use Rattle.leads.specs.Masks.{LowestBit}
use Rattle.leads.specs.SpotOfWords.{BegunBy, first_beginning, spot_of_words_from, spot_of_words}
use Rattle.leads.proofs.Bits.{bit-zero}

-- the first word that v begins with
first_at : (ls : List Word) (n g : ℕ) (v : Word) → g < length ls → begins (get_or ls g []) v ≡ true → ((j : ℕ) → j < g → begins (get_or ls j []) v ≡ true → ⊥)
    → first_beginning ls n v ≡ some (n + g)
unfolding first_beginning
first_at [] n g v h e b = absurd (omega arith)
first_at (l ∷ ls) n zero v h e b = let z : n + 0 ≡ n = omega arith in rw (first_beginning, e, z)
first_at (l ∷ ls) n (suc g) v h e b =
    let z : n + suc g ≡ suc n + g = omega arith in
    rw (first_beginning, not_true (begins l v) (b 0 (omega arith)), z) (first_at ls (suc n) g v (omega arith) e (λ j q. b (suc j) (omega arith)))

first-none : (ls : List Word) (n : ℕ) (v : Word) → ((j : ℕ) → j < length ls → begins (get_or ls j []) v ≡ true → ⊥) → first_beginning ls n v ≡ none
unfolding first_beginning
first-none [] n v b = refl
first-none (l ∷ ls) n v b = rw (first_beginning, not_true (begins l v) (b 0 (omega arith))) (first-none ls (suc n) v (λ j q. b (suc j) (omega arith)))

-- the lowest bit is the first word, and without bits there is none
first-lowest : (ls : List Word) (v : Word) (m g : ℕ) → BegunBy ls v m → LowestBit m g → first_beginning ls 1 v ≡ some (g + 1)
first-lowest ls v m g b l =
    let (h, e) = (b g).0 l.set in
    let z : 1 + g ≡ g + 1 = omega arith in
    rw z at (first_at ls 1 g v h e (λ j q d. l.lowest j q ((b j).1 (omega arith, d))))

first-zero : (ls : List Word) (v : Word) (m : ℕ) → BegunBy ls v m → m ≡ 0 → first_beginning ls 1 v ≡ none
first-zero ls v m b e = first-none ls 1 v (λ j q d. bit-zero j (rw e at ((b j).1 (q, d))))

spot-some : (ls : List Word) (w : Word) (i n : ℕ) → first_beginning ls 1 w ≡ some n → spot_of_words_from ls w i ≡ found i n
unfolding spot_of_words_from spot_at
spot-some ls [] i n e = rw (spot_of_words_from, e)
spot-some ls (a ∷ w) i n e = rw (spot_of_words_from, e)

pub spot-start : (ls : List Word) (w : Word) → spot_of_words_from ls (drop 0 w) 0 ≡ spot_of_words ls w
unfolding spot_of_words
spot-start ls w = refl

-- the turn at place i, where m is the mask of the words that stand there
module _ (ls : List Word) (w : Word) (i m : ℕ) (b : BegunBy ls (drop i w) m) where
  -- a word stands here
  pub spot_here : (g : ℕ) → LowestBit m g → spot_of_words_from ls (drop i w) i ≡ found i (g + 1)
  spot_here g l = spot-some ls (drop i w) i (g + 1) (first-lowest ls (drop i w) m g b l)

  -- no word stands here, and a letter follows
  pub spot-later : m ≡ 0 → i < length w → spot_of_words_from ls (drop (i + 1) w) (i + 1) ≡ spot_of_words_from ls (drop i w) i
  unfolding spot_of_words_from spot_at
  spot-later e h =
      let c = drop-cons w i 0 h in
      let n = first-zero ls (drop i w) m b e in
      rw (c, spot_of_words_from, rw c at n, add-one i)

  -- no word stands here, and w ends
  pub spot-end : m ≡ 0 → length w ≤ i → spot_of_words_from ls (drop i w) i ≡ nowhere
  unfolding spot_of_words_from spot_at
  spot-end e h =
      let c = drop_of_length-le w h in
      let n = first-zero ls (drop i w) m b e in
      rw (c, spot_of_words_from, rw c at n)
