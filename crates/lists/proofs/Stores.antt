-- Runs of stores: `sets l i vs` stores vs one by one from the place i on.
use mathlib.Core.Path.{◌≡◌, ◌∙◌}
use mathlib.Core.Logic.{◌≢◌}
use mathlib.Core.List.{List, [], ◌∷◌, ◌++◌}
use Prim.Native.Nat.{ℕ, suc, ◌+◌, ◌≤◌, ◌<◌}
use native.Mathlib.Numerals.{add-one}
use native.Mathlib.Omega.{arith}
use native.Mathlib.Nat.{add-zero}
use lib.ListN.{length, get_or, drop, set, drop_of_length-le}
use lib.Seq.{drop-cons, set_comm, sets}

-- Two runs, one behind the other, are one run.
pub sets_append : (l : List ℕ) (i : ℕ) (xs ys : List ℕ) → sets (sets l i xs) (i + length xs) ys ≡ sets l i (xs ++ ys)
sets_append l i [] ys = rw add-zero
sets_append l i (x ∷ xs) ys =
    let e : i + suc (length xs) ≡ suc i + length xs = omega arith in
    rw e (sets_append (set l i x) (suc i) xs ys)

-- Two runs that were stored one after the other, the second from the place behind the first on, are one run.
pub stored-then : (l l₁ l₂ : List ℕ) (at a : ℕ) (xs ys : List ℕ) → l₁ ≡ sets l at xs → a ≡ at + length xs → l₂ ≡ sets l₁ a ys → l₂ ≡ sets l at (xs ++ ys)
stored-then l l₁ l₂ at a xs ys e p f = f ∙ rw (e, p) (sets_append l at xs ys)

-- A store behind a run may come first.
pub sets_last : (l : List ℕ) (i j d : ℕ) (xs : List ℕ) → j ≡ i + length xs → sets (set l j d) i xs ≡ sets l i (xs ++ (d ∷ []))
sets_last l i j d [] e = let q : j ≡ i = omega arith in rw q
sets_last l i j d (x ∷ xs) e =
    let n : j ≢ i = λ q. omega arith in
    rw (set_comm l j i d x n) (sets_last (set l i x) (suc i) j d xs (omega arith))

-- One byte more of a run.
pub sets_more : (b out : List ℕ) (i o : ℕ) → i < length b → sets (set out o (get_or b i 0)) (o + 1) (drop (i + 1) b) ≡ sets out o (drop i b)
sets_more b out i o h = rw (drop-cons b i 0, add-one i, add-one o)

pub sets_none : (b out : List ℕ) (i o : ℕ) → length b ≤ i → sets out o (drop i b) ≡ out
sets_none b out i o h = rw drop_of_length-le
