-- The leading word that stands at a spot of a word lies inside that word.
use mathlib.Core.Path.{◌≡◌, sym, ◌∙◌, ap}
use mathlib.Core.Option.{Option, none, some}
use mathlib.Core.List.{List, [], ◌∷◌, ◌++◌}
use Prim.Native.Nat.{ℕ, suc, ◌+◌, ◌≤◌}
use native.Mathlib.Omega.{arith}
use lib.ListN.{length, take, drop, length-append}
use lib.Seq.{length-take-le}
use Rattle.words.specs.Word.{Word}
use Rattle.algebra.specs.Poly.{Poly}
use Rattle.algebra.specs.Ideal.{family}
use Rattle.algebra.specs.Groebner.{lead}
use Rattle.algebra.specs.Spot.{first_begins, nowhere, found, spot_at, spot_from, spot}
use Rattle.algebra.proofs.Spots.{spot-found}

from_within : (ps : List Poly) (w : Word) (i m n : ℕ) → spot_from ps w i ≡ found m n → m ≤ i + length w
unfolding spot_from spot_at
from_within ps [] i m n e = go (first_begins ps 1 []) e
  where
    go : (o : Option ℕ) → spot_at i o nowhere ≡ found m n → m ≤ i + 0
    go (some k) d = let z : i ≡ m = cc in omega arith
    go none d = let z : ◌≡◌ {A = ℕ} 0 1 = cc in absurd (omega arith)
from_within ps (a ∷ w) i m n e = go (first_begins ps 1 (a ∷ w)) e (from_within ps w (suc i) m n)
  where
    go : (o : Option ℕ) → spot_at i o (spot_from ps w (suc i)) ≡ found m n → (spot_from ps w (suc i) ≡ found m n → m ≤ suc i + length w) → m ≤ i + suc (length w)
    go (some k) d rest = let z : i ≡ m = cc in omega arith
    go none d rest = let z = rest d in omega arith

module _ (ps : List Poly) (v : Word) (i g : ℕ) (e : spot ps v ≡ found i g) where
  place-within : i ≤ length v
  unfolding spot
  place-within = let z = from_within ps v 0 i g e in omega arith

  pub spot-within : i + length (lead (family ps g)) ≤ length v
  spot-within =
      let n = length (lead (family ps g)) in
      let c = (spot-found ps v i g e).1 in
      let a = place-within in
      let s : length (take i v) + (n + length (drop (i + n) v)) ≡ length v =
      sym (length-append (take i v) (lead (family ps g) ++ drop (i + n) v) ∙ ap (λ (k : ℕ). length (take i v) + k) (length-append (lead (family ps g)) (drop (i + n) v)))
      ∙ ap (λ (u : Word). length u) c in
      let t : length (take i v) ≡ i = length-take-le i v a in
      omega arith
