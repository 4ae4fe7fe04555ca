-- Tests of bytes, turn by turn: what looking at one byte more does to what is left of a list.
use mathlib.Core.Path.{◌≡◌, refl, sym, ap, ◌∙◌}
use mathlib.Core.Bool.{Bool, true, false, false≢true}
use mathlib.Core.List.{List, [], ◌∷◌}
use Prim.Native.Nat.{ℕ, suc, ◌+◌, ◌≤◌, ◌<◌}
use native.Mathlib.Numerals.{add-one}
use native.Mathlib.Omega.{arith}
use lib.Dec.{ltb, eqb}
use lib.ListN.{length, get_or, drop, drop_of_length-le}
use lib.Seq.{drop-cons}
use borrow.Author.Tests.{lt-ltb, le-ltb, eq-eqb, ne_eqb, ltb-false}
use Rattle.text.specs.Bytes.{within, all_within}
use Rattle.lists.specs.Same.{same}
use Rattle.text.specs.Field.{rank_from, rank}
use lib.Pointwise.{pointwise}
use Rattle.std.specs.Prelude.{Option, Some, None, nat_eq, IsTrue, ◌↔◌, option_map, position}
use Rattle.std.proofs.lemmas.Iterator.Adapters.{position_from-zero}
use Rattle.std.specs.List.{list_all, position_from}

-- Two lists hold the same bytes.
module _ (a b : List ℕ) (i : ℕ) where
  pub same_here : i < length a → i < length b → get_or a i 0 ≡ get_or b i 0 → same (drop (i + 1) a) (drop (i + 1) b) ≡ same (drop i a) (drop i b)
  unfolding same
  same_here h k e = rw (drop-cons a i 0, drop-cons b i 0, same, eq-eqb (get_or a i 0) (get_or b i 0) e, add-one i)

  pub same_not : i < length a → i < length b → (get_or a i 0 ≡ get_or b i 0 → ⊥) → same (drop i a) (drop i b) ≡ false
  unfolding same
  same_not h k n = rw (drop-cons a i 0, drop-cons b i 0, same, ne_eqb (get_or a i 0) (get_or b i 0) n)

  pub same_end : length a ≤ i → length b ≤ i → same (drop i a) (drop i b) ≡ true
  unfolding same
  same_end h k = rw (drop_of_length-le a, drop_of_length-le b)

pub same-lengths : (a b : List ℕ) → (length a ≡ length b → ⊥) → same a b ≡ false
unfolding same
same-lengths [] [] n = absurd (n refl)
same-lengths [] (y ∷ b) n = refl
same-lengths (x ∷ a) [] n = refl
same-lengths (x ∷ a) (y ∷ b) n = go (eqb x y) (same-lengths a b (λ e. n (ap suc e)))
  where
    go : (t : Bool) → same a b ≡ false → ◌≡◌ {A = Bool} (elim t [ true ↦ same a b | false ↦ false ]) false
    go true e = e
    go false e = refl

-- Two lists hold the same bytes, as the library compares them.
pub pointwise_same : (a b : List ℕ) → pointwise nat_eq a b ≡ same a b
unfolding same
pointwise_same [] [] = refl
pointwise_same [] (y ∷ b) = refl
pointwise_same (x ∷ a) [] = refl
pointwise_same (x ∷ a) (y ∷ b) = go (eqb x y) refl (pointwise_same a b)
  where
    go : (t : Bool) → eqb x y ≡ t → pointwise nat_eq a b ≡ same a b → pointwise nat_eq (x ∷ a) (y ∷ b) ≡ same (x ∷ a) (y ∷ b)
    go true e ih = rw (same, e) ih
    go false e ih = rw (same, e)

-- A number stands between two bounds, and so does every byte of a list.
module _ (lo hi x : ℕ) where
  pub within_low : x < lo → within lo hi x ≡ false
  unfolding within
  within_low h = rw (within, lt-ltb x lo h)

  pub within-high : lo ≤ x → hi < x → within lo hi x ≡ false
  unfolding within
  within-high h k = rw (within, le-ltb x lo h, lt-ltb hi x k)

  pub within_in : lo ≤ x → x ≤ hi → within lo hi x ≡ true
  unfolding within
  within_in h k = rw (within, le-ltb x lo h, le-ltb hi x k)

  pub within-bounds : within lo hi x ≡ true → (lo ≤ x) × (x ≤ hi)
  unfolding within
  within-bounds h = go (ltb x lo) (ltb hi x) refl refl h
    where
      go : (t u : Bool) → ltb x lo ≡ t → ltb hi x ≡ u → ◌≡◌ {A = Bool} (elim t [ true ↦ false | false ↦ elim u [ true ↦ false | false ↦ true ] ]) true
          → (lo ≤ x) × (x ≤ hi)
      go true u a b e = absurd (false≢true e)
      go false true a b e = absurd (false≢true e)
      go false false a b e = (ltb-false x lo a, ltb-false hi x b)

  -- What says yes exactly of the numbers between the bounds is `within`.
  pub within_iff : (r : Bool) → IsTrue r ↔ ((lo ≤ x) × (x ≤ hi)) → r ≡ within lo hi x
  within_iff true h = let b = h.0 refl in sym (within_in b.0 b.1)
  within_iff false h = go (within lo hi x) refl
    where
      go : (t : Bool) → within lo hi x ≡ t → false ≡ within lo hi x
      go true e = absurd (false≢true (h.1 (within-bounds e)))
      go false e = sym e

-- A list whose bytes all stand between two bounds.
pub all_cons : (lo hi x : ℕ) (w : List ℕ) → all_within lo hi (x ∷ w) ≡ true → (within lo hi x ≡ true) × (all_within lo hi w ≡ true)
unfolding all_within
all_cons lo hi x w h = go (within lo hi x) refl h
  where
    go : (t : Bool) → within lo hi x ≡ t → ◌≡◌ {A = Bool} (elim t [ true ↦ all_within lo hi w | false ↦ false ]) true → (within lo hi x ≡ true) ×
        (all_within lo hi w ≡ true)
    go true e q = (e, q)
    go false e q = absurd (false≢true q)

-- Every byte is one of lo, .., hi, as the library tests each.
pub all_list : (lo hi : ℕ) (f : List ℕ) → list_all (within lo hi) f ≡ all_within lo hi f
unfolding all_within
all_list lo hi [] = refl
all_list lo hi (x ∷ f) = go (within lo hi x) refl (all_list lo hi f)
  where
    go : (t : Bool) → within lo hi x ≡ t → list_all (within lo hi) f ≡ all_within lo hi f → list_all (within lo hi) (x ∷ f) ≡ all_within lo hi (x ∷ f)
    go true e ih = rw (all_within, e) ih
    go false e ih = rw (all_within, e)

-- The rank of a kind: one more than its place, as the library finds it.
rank-place_from : (m n : ℕ) (ks : List ℕ) (b : ℕ) → rank_from (m + n) ks b ≡ option_map (λ i. m + i) (position_from (λ k. eqb k b) n ks)
unfolding rank_from
rank-place_from m n [] b = refl
rank-place_from m n (k ∷ ks) b = go (eqb k b) refl (rank-place_from m (n + 1) ks b)
  where
    go : (t : Bool) → eqb k b ≡ t → rank_from (m + (n + 1)) ks b ≡ option_map (λ i. m + i) (position_from (λ k. eqb k b) (n + 1) ks)
        → rank_from (m + n) (k ∷ ks) b ≡ option_map (λ i. m + i) (position_from (λ k. eqb k b) n (k ∷ ks))
    go true e ih = rw (rank_from, e)
    go false e ih =
        let s : suc (m + n) ≡ m + (n + 1) = omega arith in
        rw (rank_from, e, s) ih

module _ (ks : List ℕ) (b : ℕ) (r : Option ℕ) (h : r ≡ position (λ k. eqb k b) ks) where
  rank-place : rank_from 1 ks b ≡ option_map (λ i. 1 + i) r
  rank-place = rank-place_from 1 0 ks b ∙ ap (option_map (λ (i : ℕ). 1 + i)) (sym (h ∙ position_from-zero (λ k. eqb k b) ks))

  pub rank-none : r ≡ None → rank_from 1 ks b ≡ None
  rank-none e = rank-place ∙ rw e

  pub rank-found : (i : ℕ) → r ≡ Some i → rank_from 1 ks b ≡ Some (i + 1)
  rank-found i e = rank-place ∙ (rw e (ap Some (omega arith)))

pub rank_one : (ks f : List ℕ) → length f ≡ 1 → rank ks f ≡ rank_from 1 ks (get_or f 0 0)
unfolding rank
rank_one ks f e = rw (rank, eq-eqb (length f) 1 e)

pub rank-many : (ks f : List ℕ) → (length f ≡ 1 → ⊥) → rank ks f ≡ None
unfolding rank
rank-many ks f n = rw (rank, ne_eqb (length f) 1 n)

-- Wider bounds hold too.
pub all_wider : (lo hi hi' : ℕ) (w : List ℕ) → hi ≤ hi' → all_within lo hi w ≡ true → all_within lo hi' w ≡ true
unfolding all_within
all_wider lo hi hi' [] l h = refl
all_wider lo hi hi' (x ∷ w) l h =
    let a = all_cons lo hi x w h in
    let b = within-bounds lo hi x a.0 in
    rw (all_within, within_in lo hi' x b.0 (omega arith)) (all_wider lo hi hi' w l a.1)
