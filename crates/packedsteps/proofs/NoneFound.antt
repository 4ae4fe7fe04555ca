-- Words in which no leading word stands, one after the other.
use mathlib.Core.Path.{◌≡◌}
use mathlib.Core.List.{List}
use Prim.Native.Nat.{ℕ, ◌+◌, ◌≤◌, ◌<◌}
use native.Mathlib.Decide.{dec_lt}
use native.Mathlib.Omega.{arith}
use Rattle.words.specs.Word.{Word}
use Rattle.algebra.specs.Spot.{nowhere, found}
use Rattle.leads.specs.SpotOfWords.{spot_of_words}
use Rattle.std.specs.Prelude.{Some, None}
use Rattle.packedsteps.specs.Search.{NoneBetween, FirstFound}

module _ (ls : List Word) (W : ℕ → Word) (from k : ℕ) (h : NoneBetween ls W from k) where
  pub none-next : spot_of_words ls (W k) ≡ nowhere → NoneBetween ls W from (k + 1)
  none-next e j lo hi = go (dec_lt j k)
    where
      go : Dec (j < k) → spot_of_words ls (W j) ≡ nowhere
      go (yes q) = h j lo q
      go (no q) = let same : j ≡ k = omega arith in rw same e

  pub none_left : (n : ℕ) → n ≤ k → FirstFound ls W from n None
  unfolding FirstFound
  none_left n l j lo hi = h j lo (omega arith)

  pub found_here : (n i g : ℕ) → from ≤ k → k < n → spot_of_words ls (W k) ≡ found i g → FirstFound ls W from n (Some (record { term = k; place = i; number = g }))
  unfolding FirstFound
  found_here n i g lo hi e = (lo, hi, e, h)
