-- The loop of `close_up` on lists and numbers: what is still to be done in a state, and what a turn does to it.
use mathlib.Core.Path.{◌≡◌, refl, sym, ap, ◌∙◌}
use mathlib.Core.List.{List, [], ◌∷◌, ◌++◌}
use Prim.Native.Nat.{ℕ, ◌+◌, ◌≤◌, ◌<◌, zero-le}
use native.Mathlib.Nat.{zero-add}
use native.Mathlib.Numerals.{add-one}
use native.Mathlib.Omega.{arith}
use lib.ListN.{length, get_or, take, drop, set, length-set, drop_of_length-le}
use lib.Seq.{sets, sets-eq, slice, slice-cons, length-take-le, take-set-lt, drop-set-lt}
use borrow.Author.Tests.{eq-eqb, ne_eqb}
use Rattle.closing.specs.declared.Term.{Term}
use Rattle.closing.specs.Closing.{kept, closed}

-- What a read outside of a list would give.
abbrev pub none : Term
none = record { coef = 0; start = 0; len = 0 }

-- The terms that the entries from i on, below n, still add to those that are closed up.
abbrev pub left : List Term → ℕ → ℕ → List Term
left ys n i = kept (slice i n ys)

-- The slice ys, with j terms closed up and i looked at: storing from j on what is left gives what it gave at the start, when the slice was xs.
pub record State (xs : List Term) (n : ℕ) (ys : List Term) (j i : ℕ) : Type 0 where
  pub low : j ≤ i
  pub within : i ≤ n
  pub len : length ys ≡ length xs
  pub count : j + length (left ys n i) ≡ length (kept (take n xs))
  pub stored : sets ys j (left ys n i) ≡ sets xs 0 (kept (take n xs))

module _ (ys : List Term) (n i : ℕ) where
  pub left-zero : i < n → n ≤ length ys → (get_or ys i none).coef ≡ 0 → left ys n i ≡ left ys n (i + 1)
  unfolding kept
  left-zero h k e = rw (slice-cons i n ys none h k, kept, eq-eqb (get_or ys i none).coef 0 e, add-one i)

  pub left-more : i < n → n ≤ length ys → ((get_or ys i none).coef ≡ 0 → ⊥) → left ys n i ≡ get_or ys i none ∷ left ys n (i + 1)
  unfolding kept
  left-more h k e = rw (slice-cons i n ys none h k, kept, ne_eqb (get_or ys i none).coef 0 e, add-one i)

  pub left-none : n ≤ length ys → n ≤ i → left ys n i ≡ []
  unfolding kept
  left-none k h = let e : length (take n ys) ≡ n = length-take-le n ys k in rw (drop_of_length-le (take n ys) {i = i} (omega arith))

  -- A store before the entries that are left changes none of them.
  pub left-set : (j : ℕ) (t : Term) → j ≤ i → i < n → left (set ys j t) n (i + 1) ≡ left ys n (i + 1)
  left-set j t h k =
      ap (λ (l : List Term). kept (drop (i + 1) l)) (take-set-lt n ys j t (omega arith))
      ∙ ap kept (drop-set-lt (i + 1) (take n ys) j t (omega arith))

module _ (xs : List Term) (n : ℕ) (fits : n ≤ length xs) where
  pub began : State xs n xs 0 0
  began = record {
    low = zero-le;
    within = zero-le;
    len = refl;
    count = zero-add (length (kept (take n xs)));
    stored = refl;
  }

  module _ (ys : List Term) (j i : ℕ) (s : State xs n ys j i) where
    pub inside : n ≤ length ys
    inside = let e = s.len in omega arith

    -- The term at i is dropped.
    pub dropped : i < n → (get_or ys i none).coef ≡ 0 → State xs n ys j (i + 1)
    dropped h e = record {
      low = let l = s.low in omega arith;
      within = omega arith;
      len = s.len;
      count = ap (λ (l : List Term). j + length l) (sym p) ∙ s.count;
      stored = ap (λ (l : List Term). sets ys j l) (sym p) ∙ s.stored;
    }
      where
        p : left ys n i ≡ left ys n (i + 1)
        p = left-zero ys n i h inside e

    -- The term at i is stored at j.
    pub moved : i < n → ((get_or ys i none).coef ≡ 0 → ⊥) → State xs n (set ys j (get_or ys i none)) (j + 1) (i + 1)
    moved h e = record {
      low = let l = s.low in omega arith;
      within = omega arith;
      len = length-set ys j t ∙ s.len;
      count = counted;
      stored = went;
    }
      where
        t : Term
        t = get_or ys i none

        rest : List Term
        rest = left ys n (i + 1)

        p : left ys n i ≡ t ∷ rest
        p = left-more ys n i h inside e

        q : left (set ys j t) n (i + 1) ≡ rest
        q = left-set ys n i j t s.low h

        counted : j + 1 + length (left (set ys j t) n (i + 1)) ≡ length (kept (take n xs))
        counted =
            let a : length (left ys n i) ≡ length rest + 1 = ap length p ∙ sym (add-one (length rest)) in
            let b : length (left (set ys j t) n (i + 1)) ≡ length rest = ap length q in
            let c = s.count in
            omega arith

        went : sets (set ys j t) (j + 1) (left (set ys j t) n (i + 1)) ≡ sets xs 0 (kept (take n xs))
        went =
            ap (λ (l : List Term). sets (set ys j t) (j + 1) l) q
            ∙ ap (λ (k : ℕ). sets (set ys j t) k rest) (add-one j)
            ∙ ap (λ (l : List Term). sets ys j l) (sym p)
            ∙ s.stored

    -- At the end nothing is left.
    pub counted : n ≤ i → j ≡ length (kept (take n xs))
    counted h =
        let a : length (left ys n i) ≡ 0 = ap length (left-none ys n i inside h) in
        let c = s.count in
        omega arith

    pub ended : n ≤ i → ys ≡ closed n xs
    unfolding closed
    ended h =
        let c = counted h in
        let l = s.low in
        let w = s.within in
        sym (ap (λ (l : List Term). sets ys j l) (left-none ys n i inside h))
        ∙ s.stored
        ∙ sets-eq (kept (take n xs)) xs 0 (omega arith)
        ∙ ap (λ (k : ℕ). kept (take n xs) ++ drop k xs) (zero-add (length (kept (take n xs))))
