-- What the lent slices hold after a store: the terms that they held, and one more.
use mathlib.Core.Path.{◌≡◌, refl}
use mathlib.Core.Logic.{◌≢◌}
use mathlib.Core.List.{List, [], ◌∷◌, ◌++◌}
use Prim.Native.Nat.{ℕ, zero, suc, ◌+◌, ◌≤◌, ◌<◌}
use native.Mathlib.Omega.{arith}
use native.Mathlib.Decide.{ℕ_discrete}
use lib.ListN.{length, get_or, set, length-append}
use lib.Seq.{get_or-set_same, get_or-set_other}
use Rattle.package.specs.Held.{held_terms, WordsInside}
use Rattle.text.specs.Pieces.{part}

module _ (s ks is cs os ls : List ℕ) where
  pub kept-length : (n : ℕ) → length (held_terms s ks is cs os ls n) ≡ n
  unfolding held_terms
  kept-length zero = refl
  kept-length (suc n) = rw length-append (omega (arith, kept-length n))

  module _ (n k i c o l : ℕ) where
    pub kept-below : (m : ℕ) → m ≤ n → held_terms s (set ks n k) (set is n i) (set cs n c) (set os n o) (set ls n l) m ≡ held_terms s ks is cs os ls m
    unfolding held_terms
    kept-below zero h = refl
    kept-below (suc m) h =
        let d : m ≢ n = λ e. omega arith in
        rw (kept-below m (omega arith), get_or-set_other ks n m k 0 d, get_or-set_other is n m i 0 d, get_or-set_other cs n m c 0 d, get_or-set_other os n m o 0 d, get_or-set_other ls n m l 0 d)

    pub kept_store : n < length ks → n < length is → n < length cs → n < length os → n < length ls
        → held_terms s (set ks n k) (set is n i) (set cs n c) (set os n o) (set ls n l) (suc n) ≡ held_terms s ks is cs os ls n ++
        (record { kind = k; item = i; coef = c; word = part s o l } ∷ [])
    unfolding held_terms
    kept_store a b d e f =
        rw (kept-below n (omega arith), get_or-set_same ks n k 0 a, get_or-set_same is n i 0 b, get_or-set_same cs n c 0 d, get_or-set_same os n o 0 e, get_or-set_same ls n l 0 f)

-- Every word lies in the bytes.
pub inside_store : (s os ls os' ls' : List ℕ) (n o l : ℕ) → os' ≡ set os n o → ls' ≡ set ls n l → length os ≡ 1024 → length ls ≡ 1024 → n < 1024
    → o + l ≤ length s → WordsInside s os ls n → WordsInside s os' ls' (n + 1)
inside_store s os ls os' ls' n o l a b x y f r h i z = go (ℕ_discrete i n)
  where
    go : Dec (i ≡ n) → get_or os' i 0 + get_or ls' i 0 ≤ length s
    go (yes e) = rw (a, b, e, get_or-set_same os n o 0 (omega arith), get_or-set_same ls n l 0 (omega arith)) r
    go (no d) = rw (a, b, get_or-set_other os n i o 0 d, get_or-set_other ls n i l 0 d) (h i (omega arith))
