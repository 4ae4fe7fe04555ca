-- The search for the next number that passes a test: one law for each way through a turn, and what it says of the pairs that two words give.
use mathlib.Core.Path.{◌≡◌, refl, ◌∙◌}
use mathlib.Core.Bool.{Bool, true, false}
use mathlib.Core.List.{[], ◌∷◌}
use Prim.Native.Nat.{ℕ, zero, suc, ◌+◌, ◌-◌, ◌≤◌, ◌<◌}
use native.Mathlib.Numerals.{add-one}
use native.Mathlib.Omega.{arith}
use lib.Dec.{eqb}
use lib.ListN.{length, take, drop, length-take, length-drop}
use Rattle.lists.specs.Same.{same}
use Rattle.std.specs.Prelude.{Option, Some, None}
use Rattle.words.specs.Word.{Word}
use Rattle.words.specs.Place.{begins, stands_at}
use Rattle.wordplaces.proofs.PlaceTurns.{stands-inside}
use Rattle.overlaps.specs.Overlaps.{Part, shares, pairs_from}
use Rattle.overlapsearch.specs.Position.{next_passing}

-- of two words of one length, one begins with the other exactly if they are the same
begins-same : (b w : Word) → length b ≡ length w → begins b w ≡ same b w
unfolding begins same
begins-same [] [] e = refl
begins-same [] (y ∷ w) e = absurd (omega arith)
begins-same (x ∷ b) [] e = absurd (omega arith)
begins-same (x ∷ b) (y ∷ w) e = go (eqb x y) (begins-same b w (omega arith))
  where
    go : (t : Bool) → begins b w ≡ same b w
        → ◌≡◌ {A = Bool} (elim t [ true ↦ begins b w | false ↦ false ]) (elim t [ true ↦ same b w | false ↦ false ])
    go true h = h
    go false h = refl

pub shares-stands : (u v : Word) (n : ℕ) → n ≤ length u → n ≤ length v → stands_at (take n v) u (length u - n) ≡ shares u v n
unfolding shares
shares-stands u v n h k =
    stands-inside (take n v) u (length u - n) (omega arith)
    ∙ begins-same (take n v) (drop (length u - n) u) (omega (arith, length-take n v, length-drop (length u - n) u))

module _ (test : ℕ → Bool) (m n : ℕ) where
  pub passing_here : n < m → test n ≡ true → next_passing test n (m - n) ≡ Some n
  unfolding next_passing
  passing_here h e = let k : m - n ≡ suc (m - suc n) = omega arith in rw (k, next_passing, e)

  pub passing_later : n < m → test n ≡ false → next_passing test (n + 1) (m - (n + 1)) ≡ next_passing test n (m - n)
  unfolding next_passing
  passing_later h e = let k : m - n ≡ suc (m - suc n) = omega arith in rw (k, add-one n, next_passing, e)

  pub passing_end : m ≤ n → next_passing test n (m - n) ≡ None
  unfolding next_passing
  passing_end h = let k : m - n ≡ 0 = omega arith in rw k

-- what the next number says of the pairs from s on, through k numbers
module _ (X : Part) (u v : Word) (i j : ℕ) where
  pub record Found_at (s k r : ℕ) : Type 0 where
    pub from : s ≤ r
    pub below : r < s + k
    pub passes : X.passes u v r ≡ true
    pub pairs : pairs_from X u v i j s k ≡ X.pair u v i j r ∷ pairs_from X u v i j (suc r) (s + k - suc r)

  Told : ℕ → ℕ → Option ℕ → Type 0
  Told s k None = pairs_from X u v i j s k ≡ []
  Told s k (Some r) = Found_at s k r

  told : (s k : ℕ) → Told s k (next_passing (X.passes u v) s k)
  unfolding Told next_passing pairs_from
  told s zero = refl
  told s (suc k) = go (X.passes u v s) refl (next_passing (X.passes u v) (suc s) k) (told (suc s) k)
    where
      count : s + suc k - suc s ≡ k
      count = omega arith

      go : (b : Bool) → X.passes u v s ≡ b → (o : Option ℕ) → Told (suc s) k o → Told s (suc k) (elim b [ true ↦ Some s | false ↦ o ])
      go true e o h = record { from = omega arith; below = omega arith; passes = e; pairs = rw (pairs_from, e, count) }
      go false e None h = rw (pairs_from, e) h
      go false e (Some r) h =
          let n : s + suc k - suc r ≡ suc s + k - suc r = omega arith in
          let x = h.from in
          let y = h.below in
          record { from = omega arith; below = omega arith; passes = h.passes; pairs = rw (pairs_from, e, n) h.pairs }

  pub told_at : (s k r : ℕ) → next_passing (X.passes u v) s k ≡ Some r → Found_at s k r
  unfolding Told
  told_at s k r e = rw e at (told s k)

  pub told-nowhere : (s k : ℕ) → next_passing (X.passes u v) s k ≡ None → pairs_from X u v i j s k ≡ []
  unfolding Told
  told-nowhere s k e = rw e at (told s k)
