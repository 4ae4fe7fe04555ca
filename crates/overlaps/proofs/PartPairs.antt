-- What the words of a list give in one part of the list of pairs: each number that passes, once, rising, and no more than there are numbers.
use mathlib.Core.Path.{◌≡◌, refl, sym, ◌∙◌, ap, subst}
use mathlib.Core.Bool.{Bool, true, false, true≢false}
use mathlib.Core.Logic.{inl, inr}
use mathlib.Core.List.Memᴰ
use mathlib.Core.List.{List, [], ◌∷◌, Memᴰ}
use Prim.Native.Nat.{ℕ, zero, suc, ◌+◌, ◌-◌, ◌≤◌, ◌<◌}
use native.Mathlib.Nat.{add-zero}
use native.Mathlib.Decide.{ℕ_discrete}
use native.Mathlib.Omega.{arith}
use lib.ListN.{length, get_or}
use Rattle.lists.specs.All.{All, done, ◌also◌}
use Rattle.lists.proofs.Every.{all_map, all_append}
use Rattle.words.specs.Word.{Word}
use Rattle.overlaps.specs.Pairs.{Pair, Earlier, Rising, none, next}
use Rattle.overlaps.specs.Overlaps.{Part, pairs_from, pairs_of, with_first, from_first}
use Rattle.overlaps.proofs.RisingLists.{rising-append, all-before}

-- a pair of a part names its polynomials, and its number is its third
pub record Numbering (X : Part) (third : Pair → ℕ) : Type 0 where
  pub first : (u v : Word) (i j n : ℕ) → (X.pair u v i j n).first ≡ i
  pub second : (u v : Word) (i j n : ℕ) → (X.pair u v i j n).second ≡ j
  pub number : (u v : Word) (i j n : ℕ) → third (X.pair u v i j n) ≡ n

module _ (X : Part) where
  module _ (u v : Word) (i j : ℕ) where
    -- given by two words: a number from s on and below m that passes
    pub record Given (s m : ℕ) (o : Pair) : Type 0 where
      pub number : ℕ
      pub low : s ≤ number
      pub high : number < m
      pub passes : X.passes u v number ≡ true
      pub made : o ≡ X.pair u v i j number

    from_given : (s k : ℕ) → All (Given s (s + k)) (pairs_from X u v i j s k)
    unfolding pairs_from
    from_given s zero = done
    from_given s (suc k) = go (X.passes u v s) refl (all_map weaken (from_given (suc s) k))
      where
        weaken : (o : Pair) → Given (suc s) (suc s + k) o → Given s (s + suc k) o
        weaken o h = let l = h.low in let m = h.high in record { number = h.number; low = omega arith; high = omega arith; passes = h.passes; made = h.made }

        go : (b : Bool) → X.passes u v s ≡ b → All (Given s (s + suc k)) (pairs_from X u v i j (suc s) k)
            → All (Given s (s + suc k)) (elim b [ true ↦ X.pair u v i j s ∷ pairs_from X u v i j (suc s) k | false ↦ pairs_from X u v i j (suc s) k ])
        go true e rest = ◌also◌ {x = X.pair u v i j s} (record { number = s; low = omega arith; high = omega arith; passes = e; made = refl }) rest
        go false e rest = rest

    from_listed : (s k n : ℕ) → s ≤ n → n < s + k → X.passes u v n ≡ true → Memᴰ (X.pair u v i j n) (pairs_from X u v i j s k)
    unfolding pairs_from
    from_listed s zero n l h e = absurd (omega arith)
    from_listed s (suc k) n l h e = go (X.passes u v s) refl (ℕ_discrete n s) (λ m. from_listed (suc s) k n m (omega arith) e)
      where
        go : (b : Bool) → X.passes u v s ≡ b → Dec (n ≡ s) → (suc s ≤ n → Memᴰ (X.pair u v i j n) (pairs_from X u v i j (suc s) k))
            → Memᴰ (X.pair u v i j n) (elim b [ true ↦ X.pair u v i j s ∷ pairs_from X u v i j (suc s) k | false ↦ pairs_from X u v i j (suc s) k ])
        go true d (yes p) rest = Memᴰ.head (ap (X.pair u v i j) p)
        go true d (no p) rest = Memᴰ.tail (rest (omega arith))
        go false d (yes p) rest = absurd (true≢false (sym e ∙ ap (X.passes u v) p ∙ d))
        go false d (no p) rest = rest (omega arith)

    from_few : (s k : ℕ) → length (pairs_from X u v i j s k) ≤ k
    unfolding pairs_from
    from_few s zero = omega arith
    from_few s (suc k) = go (X.passes u v s) (from_few (suc s) k)
      where
        go : (b : Bool) → length (pairs_from X u v i j (suc s) k) ≤ k
            → length {A = Pair} (elim b [ true ↦ X.pair u v i j s ∷ pairs_from X u v i j (suc s) k | false ↦ pairs_from X u v i j (suc s) k ]) ≤ suc k
        go true h = omega arith
        go false h = omega arith

    -- what two words give
    abbrev pub GivenBy : Pair → Type 0
    GivenBy = Given X.lowest (X.limit u v i j)

    pub all_given : All GivenBy (pairs_of X u v i j)
    unfolding pairs_of
    all_given = all_map below (from_given X.lowest (X.limit u v i j - X.lowest))
      where
        below : (o : Pair) → Given X.lowest (X.lowest + (X.limit u v i j - X.lowest)) o → GivenBy o
        below o h = let l = h.low in let m = h.high in record { number = h.number; low = l; high = omega arith; passes = h.passes; made = h.made }

    pub given_listed : (o : Pair) → GivenBy o → Memᴰ o (pairs_of X u v i j)
    unfolding pairs_of
    given_listed o h =
        let l = h.low in let m = h.high in
        subst (λ (x : Pair). Memᴰ x (pairs_from X u v i j X.lowest (X.limit u v i j - X.lowest))) (sym h.made)
        (from_listed X.lowest (X.limit u v i j - X.lowest) h.number l (omega arith) h.passes)

    pub given_few : length (pairs_of X u v i j) ≤ X.limit u v i j - X.lowest
    unfolding pairs_of
    given_few = from_few X.lowest (X.limit u v i j - X.lowest)

  -- given by the word u, number i, and one of the words vs, numbered from j on
  record With (u : Word) (i : ℕ) (vs : List Word) (j : ℕ) (o : Pair) : Type 0 where
    index : ℕ
    inside : index < length vs
    given : GivenBy u (get_or vs index []) i (j + index) o

  -- given by one of the words us, numbered from i on, and one of all
  pub record FromFirst (all us : List Word) (i : ℕ) (o : Pair) : Type 0 where
    pub index : ℕ
    pub other : ℕ
    pub inside : index < length us
    pub among : other < length all
    pub given : GivenBy (get_or us index []) (get_or all other []) (i + index) (1 + other) o

  with_sound : (u : Word) (i : ℕ) (vs : List Word) (j : ℕ) → All (With u i vs j) (with_first X u i vs j)
  unfolding with_first
  with_sound u i [] j = done
  with_sound u i (v ∷ vs) j = all_append (all_map here (all_given u v i j)) (all_map later (with_sound u i vs (suc j)))
    where
      here : (o : Pair) → GivenBy u v i j o → With u i (v ∷ vs) j o
      here o h = record { index = 0; inside = omega arith; given = rw (add-zero j) h }

      later : (o : Pair) → With u i vs (suc j) o → With u i (v ∷ vs) j o
      later o h =
          let p = h.inside in
          let e : j + suc h.index ≡ suc j + h.index = omega arith in
          record { index = suc h.index; inside = omega arith; given = rw e h.given }

  pub first_sound : (all us : List Word) (i : ℕ) → All (FromFirst all us i) (from_first X all us i)
  unfolding from_first
  first_sound all [] i = done
  first_sound all (u ∷ us) i = all_append (all_map here (with_sound u i all 1)) (all_map later (first_sound all us (suc i)))
    where
      here : (o : Pair) → With u i all 1 o → FromFirst all (u ∷ us) i o
      here o h = record { index = 0; other = h.index; inside = omega arith; among = h.inside; given = rw (add-zero i) h.given }

      later : (o : Pair) → FromFirst all us (suc i) o → FromFirst all (u ∷ us) i o
      later o h =
          let p = h.inside in
          let e : i + suc h.index ≡ suc i + h.index = omega arith in
          record { index = suc h.index; other = h.other; inside = omega arith; among = h.among; given = rw e h.given }

  module _ (o : Pair) where
    with_complete : (u : Word) (i : ℕ) (vs : List Word) (j k : ℕ) → k < length vs → GivenBy u (get_or vs k []) i (j + k) o → Memᴰ o (with_first X u i vs j)
    unfolding with_first
    with_complete u i [] j k l h = absurd (omega arith)
    with_complete u i (v ∷ vs) j zero l h = Memᴰ.append_left {s = pairs_of X u v i j} (with_first X u i vs (suc j)) (given_listed u v i j o (rw (add-zero j) at h))
    with_complete u i (v ∷ vs) j (suc k) l h =
        let e : j + suc k ≡ suc j + k = omega arith in
        Memᴰ.append_right (pairs_of X u v i j) (with_complete u i vs (suc j) k (omega arith) (rw e at h))

    pub first_complete : (all us : List Word) (i m k : ℕ) → m < length us → k < length all → GivenBy (get_or us m []) (get_or all k []) (i + m) (1 + k) o
        → Memᴰ o (from_first X all us i)
    unfolding from_first
    first_complete all [] i m k l n h = absurd (omega arith)
    first_complete all (u ∷ us) i zero k l n h =
        Memᴰ.append_left {s = with_first X u i all 1} (from_first X all us (suc i)) (with_complete u i all 1 k n (rw (add-zero i) at h))
    first_complete all (u ∷ us) i (suc m) k l n h =
        let e : i + suc m ≡ suc i + m = omega arith in
        Memᴰ.append_right (with_first X u i all 1) (first_complete all us (suc i) m k (omega arith) n (rw e at h))

  -- by first, then second, then the third number, all rising
  module _ (third : Pair → ℕ) (N : Numbering X third) where
    names : (u v : Word) (i j : ℕ) (o : Pair) → GivenBy u v i j o → (o.first ≡ i) × (o.second ≡ j)
    names u v i j o h = (
      ap (λ (x : Pair). x.first) h.made ∙ N.first u v i j h.number,
      ap (λ (x : Pair). x.second) h.made ∙ N.second u v i j h.number,
    )

    from_rising : (u v : Word) (i j s k : ℕ) → Rising (Earlier third) (pairs_from X u v i j s k)
    unfolding pairs_from
    from_rising u v i j s zero = none
    from_rising u v i j s (suc k) = go (X.passes u v s) (from_rising u v i j (suc s) k)
      where
        later : (o : Pair) → Given u v i j (suc s) (suc s + k) o → Earlier third (X.pair u v i j s) o
        later o h =
            let p = h.made in let l = h.low in
            let a = N.first u v i j s in let b = N.second u v i j s in let c = N.number u v i j s in
            let d = ap (λ (x : Pair). x.first) p ∙ N.first u v i j h.number in
            let e = ap (λ (x : Pair). x.second) p ∙ N.second u v i j h.number in
            let f = ap third p ∙ N.number u v i j h.number in
            inr (a ∙ sym d, inr (b ∙ sym e, omega arith))

        go : (b : Bool) → Rising (Earlier third) (pairs_from X u v i j (suc s) k)
            → Rising (Earlier third) (elim b [ true ↦ X.pair u v i j s ∷ pairs_from X u v i j (suc s) k | false ↦ pairs_from X u v i j (suc s) k ])
        go true rest = next (all_map later (from_given u v i j (suc s) k)) rest
        go false rest = rest

    given_rising : (u v : Word) (i j : ℕ) → Rising (Earlier third) (pairs_of X u v i j)
    unfolding pairs_of
    given_rising u v i j = from_rising u v i j X.lowest (X.limit u v i j - X.lowest)

    with_rising : (u : Word) (i : ℕ) (vs : List Word) (j : ℕ) → Rising (Earlier third) (with_first X u i vs j)
    unfolding with_first
    with_rising u i [] j = none
    with_rising u i (v ∷ vs) j = rising-append (given_rising u v i j) (with_rising u i vs (suc j)) (all-before apart (all_given u v i j) (with_sound u i vs (suc j)))
      where
        apart : (a b : Pair) → GivenBy u v i j a → With u i vs (suc j) b → Earlier third a b
        apart a b p q =
            let (x, y) = names u v i j a p in
            let (z, w) = names u (get_or vs q.index []) i (suc j + q.index) b q.given in
            inr (x ∙ sym z, inl (omega arith))

    pub first-rising : (all us : List Word) (i : ℕ) → Rising (Earlier third) (from_first X all us i)
    unfolding from_first
    first-rising all [] i = none
    first-rising all (u ∷ us) i = rising-append (with_rising u i all 1) (first-rising all us (suc i)) (all-before apart (with_sound u i all 1) (first_sound all us (suc i)))
      where
        apart : (a b : Pair) → With u i all 1 a → FromFirst all us (suc i) b → Earlier third a b
        apart a b p q =
            let (x, y) = names u (get_or all p.index []) i (1 + p.index) a p.given in
            let (z, w) = names (get_or us q.index []) (get_or all q.other []) (suc i + q.index) (1 + q.other) b q.given in
            inl (omega arith)
