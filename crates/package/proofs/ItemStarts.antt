-- Where the terms of an item start: the numbers of the items, and how many of them are lower than j.
use mathlib.Core.Path.{◌≡◌, refl, ap, ◌∙◌}
use mathlib.Core.Bool.{Bool, true, false}
use mathlib.Core.List.{List, [], ◌∷◌, ◌++◌}
use Prim.Native.Nat.{ℕ, zero, suc, ◌+◌, ◌≤◌, ◌<◌}
use native.Mathlib.Numerals.{add-one}
use native.Mathlib.Omega.{arith}
use native.Mathlib.Decide.{ℕ_discrete}
use lib.Dec.{ltb}
use lib.ListN.{length, get_or, drop, set, length-append, drop_of_length-le, get_or-append}
use lib.Seq.{drop-cons, get_or-set_same, get_or-set_other, get_or_at}
use borrow.Author.Tests.{lt-ltb, le-ltb, ltb-true}
use Rattle.package.specs.Held.{held_term, held_terms, slots_held}
use Rattle.package.specs.Items.{slot, slots_of, first_of}
use Rattle.package.specs.Terms.{TermLine}
use Rattle.package.specs.declared.Head.{Head}

-- The numbers of the first n terms' items.
module _ (h : Head) (ks is : List ℕ) where
  pub slots_length : (n : ℕ) → length (slots_held h ks is n) ≡ n
  unfolding slots_held
  slots_length zero = refl
  slots_length (suc n) = rw length-append (omega (arith, slots_length n))

  pub slots_at : (n m : ℕ) → m < n → get_or (slots_held h ks is n) m 0 ≡ slot h (get_or ks m 0) (get_or is m 0)
  unfolding slots_held
  slots_at zero m l = absurd (omega arith)
  slots_at (suc n) m l = go (ℕ_discrete m n) (slots_at n m) (slots_length n)
    where
      go : Dec (m ≡ n) → (m < n → get_or (slots_held h ks is n) m 0 ≡ slot h (get_or ks m 0) (get_or is m 0)) → length (slots_held h ks is n) ≡ n
          → get_or (slots_held h ks is n ++ (slot h (get_or ks n 0) (get_or is n 0) ∷ [])) m 0 ≡ slot h (get_or ks m 0) (get_or is m 0)
      go (yes e) ih q =
          let k : length (slots_held h ks is n) ≡ m = omega arith in
          get_or_at (slots_held h ks is n) (slot h (get_or ks n 0) (get_or is n 0)) [] 0 m k ∙ rw e
      go (no e) ih q =
          let k : m < n = omega arith in
          get_or-append (slots_held h ks is n) (slot h (get_or ks n 0) (get_or is n 0) ∷ []) 0 m (omega arith) ∙ ih k

-- They are those of the terms that the slices hold.
pub slots_kept : (h : Head) (s ks is cs os ls : List ℕ) (n : ℕ) → slots_of h (held_terms s ks is cs os ls n) ≡ slots_held h ks is n
unfolding slots_of slots_held held_terms
slots_kept h s ks is cs os ls zero = refl
slots_kept h s ks is cs os ls (suc n) = append (held_terms s ks is cs os ls n) ∙ ap (λ (xs : List ℕ). xs ++ (slot h (get_or ks n 0) (get_or is n 0) ∷ []))
    (slots_kept h s ks is cs os ls n)
  where
    append : (ts : List TermLine) → slots_of h (ts ++ (held_term s ks is cs os ls n ∷ [])) ≡ slots_of h ts ++ (slot h (get_or ks n 0) (get_or is n 0) ∷ [])
    append [] = refl
    append (t ∷ ts) = ap (λ (xs : List ℕ). slot h t.kind t.item ∷ xs) (append ts)

-- How many of them stand before j, turn by turn.
module _ (j : ℕ) (xs : List ℕ) (i : ℕ) where
  pub first_here : i < length xs → j ≤ get_or xs i 0 → i + first_of j (drop i xs) ≡ i
  unfolding first_of
  first_here h e = rw (drop-cons xs i 0, first_of, le-ltb (get_or xs i 0) j e) (omega arith)

  pub first-later : i < length xs → get_or xs i 0 < j → i + 1 + first_of j (drop (i + 1) xs) ≡ i + first_of j (drop i xs)
  unfolding first_of
  first-later h e = rw (drop-cons xs i 0, first_of, lt-ltb (get_or xs i 0) j e, add-one i) (omega arith)

  pub first-end : length xs ≤ i → i + first_of j (drop i xs) ≡ i
  unfolding first_of
  first-end h = rw drop_of_length-le (omega arith)

-- A later item is found from where an earlier one starts.
first_skip : (i j : ℕ) (xs : List ℕ) → j ≤ i → first_of j xs + first_of i (drop (first_of j xs) xs) ≡ first_of i xs
unfolding first_of
first_skip i j [] h = refl
first_skip i j (x ∷ xs) h = go (ltb x j) refl (first_skip i j xs h)
  where
    go : (t : Bool) → ltb x j ≡ t → first_of j xs + first_of i (drop (first_of j xs) xs) ≡ first_of i xs
        → first_of j (x ∷ xs) + first_of i (drop (first_of j (x ∷ xs)) (x ∷ xs)) ≡ first_of i (x ∷ xs)
    go true e ih =
        let a : first_of j (x ∷ xs) ≡ suc (first_of j xs) = rw (first_of, e) in
        let b : first_of i (x ∷ xs) ≡ suc (first_of i xs) = rw (first_of, lt-ltb x i (omega (arith, ltb-true x j e))) in
        rw (a, b) (omega arith)
    go false e ih =
        let a : first_of j (x ∷ xs) ≡ 0 = rw (first_of, e) in
        rw a (omega arith)

-- Searching on from m gives the start of each item from j on.
abbrev pub Onward : List ℕ → ℕ → ℕ → Type 0
Onward xs m j = (i : ℕ) → j ≤ i → m + first_of i (drop m xs) ≡ first_of i xs

pub onward-start : (xs : List ℕ) → Onward xs 0 0
onward-start xs i h = omega arith

pub onward-next : (xs : List ℕ) (m j r : ℕ) → Onward xs m j → r ≡ m + first_of j (drop m xs) → (r ≡ first_of j xs) × Onward xs r (j + 1)
onward-next xs m j r o e =
    let q : r ≡ first_of j xs = e ∙ o j (omega arith) in
    (q, λ i h. rw q (first_skip i j xs (omega arith)))

-- One more start is stored.
abbrev pub Stored : List ℕ → List ℕ → ℕ → Type 0
Stored xs fs j = (i : ℕ) → i < j → get_or fs i 0 ≡ first_of i xs

pub stored_next : (xs fs fs' : List ℕ) (j r : ℕ) → fs' ≡ set fs j r → j < length fs → r ≡ first_of j xs → Stored xs fs j → Stored xs fs' (j + 1)
stored_next xs fs fs' j r a l q h i g = go (ℕ_discrete i j)
  where
    go : Dec (i ≡ j) → get_or fs' i 0 ≡ first_of i xs
    go (yes e) = rw (a, e, get_or-set_same fs j r 0 l) q
    go (no e) = rw (a, get_or-set_other fs j i r 0 e) (h i (omega arith))
