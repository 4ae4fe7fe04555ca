-- Pairs kept as numbers are found again.
use mathlib.Core.Path.{◌≡◌, refl, sym, ◌∙◌, ap}
use mathlib.Core.Bool.{Bool, true, false}
use mathlib.Core.List.{List, [], ◌∷◌}
use Prim.Native.Nat.{ℕ, zero, suc, ◌+◌, ◌/◌, ◌%◌, ◌≤◌, ◌<◌}
use native.Mathlib.Decide.{ℕ_discrete}
use native.Mathlib.Omega.{arith}
use Rattle.std.specs.Prelude.{Option, Some}
use lib.Dec.{eqb}
use lib.ListN.{length, get_or, set, drop, length-set}
use lib.Seq.{get_or-set_same, get_or-set_other, drop-drop}
use borrow.Author.Tests.{eq-eqb, ne_eqb}
use Rattle.words.specs.Word.{Word}
use Rattle.overlaps.specs.Overlaps.{overlaps}
use Rattle.overlapsearch.specs.declared.PairAt.{PairAt}
use Rattle.overlapsearch.specs.Position.{pair_of, behind, pairs_at, seen_pairs, FoundAt}
use Rattle.overlapsearch.specs.Kept.{flag_of, packed_pair, Small, KeptPair, KeptPairs}
use Rattle.overlapsearch.proofs.SeenPairs.{seen_one}

pub flag-most : (b : Bool) → flag_of b ≤ 1
unfolding flag_of
flag-most true = omega arith
flag-most false = omega arith

flag_is : (b : Bool) (x : ℕ) → x ≡ flag_of b → eqb x 1 ≡ b
unfolding flag_of
flag_is true x e = eq-eqb x 1 e
flag_is false x e = ne_eqb x 1 (λ q. omega arith)

-- a number tells its pair
pub unpacked_is : (f : PairAt) (x : ℕ) → Small f → x ≡ packed_pair f
    → record { inside = eqb (x % 2) 1; first = x / 131072; second = x / 2048 % 64; shared = x / 64 % 32; at = x / 2 % 32 } ≡ f
unfolding packed_pair
unpacked_is f x s e =
    let a = s.first in
    let b = s.second in
    let c = s.shared in
    let d = s.at in
    let g = flag-most f.inside in
    let first : x / 131072 ≡ f.first = omega arith in
    let second : x / 2048 % 64 ≡ f.second = omega arith in
    let shared : x / 64 % 32 ≡ f.shared = omega arith in
    let at : x / 2 % 32 ≡ f.at = omega arith in
    let inside = flag_is f.inside (x % 2) (omega arith) in
    λ i. record { inside = inside i; first = first i; second = second i; shared = shared i; at = at i }

pub packed-few : (f : PairAt) → Small f → packed_pair f < 8388608
unfolding packed_pair
packed-few f s =
    let a = s.first in
    let b = s.second in
    let c = s.shared in
    let d = s.at in
    omega (arith, flag-most f.inside)

-- a store behind the end is none
pub set_past : (l : List ℕ) (k x : ℕ) → length l ≤ k → set l k x ≡ l
set_past [] k x h = refl
set_past (y ∷ l) zero x h = absurd (omega arith)
set_past (y ∷ l) (suc k) x h = ap (λ (r : List ℕ). y ∷ r) (set_past l k x (omega arith))

-- a pair that was found among at most 64 words
pub found-small : (lens : List ℕ) (n : ℕ) (f : PairAt) → n ≤ 64 → FoundAt lens n f → Small f
found-small lens n f m h =
    let a = h.first in
    let b = h.second in
    let c = h.within_first in
    let d = h.short-first in
    record { first = omega arith; second = omega arith; shared = omega arith; at = omega arith }

module _ (lens : List ℕ) (n : ℕ) (ws : List Word) where
  pub kept-none : (kept : List ℕ) → KeptPairs lens n ws kept 0
  kept-none kept k l m = absurd (omega arith)

  -- one more pair is kept
  module _ (count : ℕ) (f : PairAt) (m : n ≤ 64) (h : FoundAt lens n f) (e : seen_pairs ws (Some f) ≡ drop count (overlaps ws)) where
    pub kept_one : (kept : List ℕ) → KeptPairs lens n ws kept count → KeptPairs lens n ws (set kept count (packed_pair f)) (count + 1)
    kept_one kept q k l b = go (ℕ_discrete k count)
      where
        inside : k < length kept
        inside = let z = length-set kept count (packed_pair f) in omega arith

        go : Dec (k ≡ count) → KeptPair lens n ws (get_or (set kept count (packed_pair f)) k 0) k
        go (yes r) = record {
          pair = f;
          small = found-small lens n f m h;
          is = rw r (get_or-set_same kept count (packed_pair f) 0 (let z = inside in omega arith));
          found = h;
          left = rw r e;
        }
        go (no r) = rw (get_or-set_other kept count k (packed_pair f) 0 r) (q k inside (omega arith))

    -- what is left behind it
    pub left_behind : (g : Option PairAt) → seen_pairs ws g ≡ pairs_at ws (behind f) → seen_pairs ws g ≡ drop (count + 1) (overlaps ws)
    left_behind g r =
        let z : drop count (overlaps ws) ≡ pair_of f ∷ pairs_at ws (behind f) = sym e ∙ seen_one ws f in
        r ∙ ap (drop 1) (sym z) ∙ drop-drop 1 count (overlaps ws)
