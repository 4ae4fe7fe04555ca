-- A pair is in the list exactly if 01's or 02's sentence holds of it, and the list rises, so nothing is in it twice.
use mathlib.Core.Path.{◌≡◌, refl, sym, ◌∙◌, ap, ap₂, subst}
use mathlib.Core.Bool.{Bool, true, false}
use mathlib.Core.Logic.{◌↔◌, ◌≢◌, ◌⊎◌, inl, inr}
use mathlib.Core.List.Memᴰ
use mathlib.Core.List.{List, [], ◌∷◌, ◌++◌, append-nil, Memᴰ}
use Prim.Native.Nat.{ℕ, zero, suc, ◌+◌, ◌-◌, ◌≤◌, ◌<◌}
use native.Mathlib.Decide.{dec_lt}
use native.Mathlib.Omega.{arith}
use lib.Dec.{eqb, ltb}
use lib.ListN.{length, get_or, take, drop, length-append}
use borrow.Author.Tests.{lt-ltb, le-ltb, ne_eqb, ltb-true, eqb-false}
use Rattle.lists.specs.All.{All}
use Rattle.lists.proofs.Every.{all_map, all-member}
use Rattle.lists.proofs.Sameness.{same_refl, same-eq}
use Rattle.words.specs.Word.{Word}
use Rattle.words.specs.Place.{Stands}
use Rattle.words.proofs.Standing.{stands_iff}
use Rattle.overlaps.specs.Pairs.{Pair, Overlapping, Included, Names, IsOverlap, IsInclusion, IsPair, Earlier, Before, overlap_first, by_shared, by_place, Rising}
use Rattle.overlaps.specs.Overlaps.{Part, shares, sharing, places_in, placing, from_first, overlaps}
use Rattle.overlaps.proofs.RisingLists.{rising-append, all-before, rising_at, rising-map}
use Rattle.overlaps.proofs.PartPairs.{GivenBy, FromFirst, first_sound, first_complete, first-rising}

shares-yes : (u v : Word) (n : ℕ) → drop (length u - n) u ≡ take n v → shares u v n ≡ true
unfolding shares
shares-yes u v n e = rw e (same_refl (take n v))

shares-eq : (u v : Word) (n : ℕ) → shares u v n ≡ true → drop (length u - n) u ≡ take n v
unfolding shares
shares-eq u v n e = sym (same-eq (take n v) (drop (length u - n) u) e)

-- a word that stands in another is no longer
pub stands-length : {u v : Word} {a : ℕ} → Stands v u a → a + length v ≤ length u
stands-length {u} {v} s = omega (arith, ap length s.fits, length-append s.left (v ++ s.right), length-append v s.right, s.place)

-- and is that word if it is as long
stands-equal : {u v : Word} {a : ℕ} → Stands v u a → length u ≡ length v → u ≡ v
stands-equal {u} {v} s e = go s.left s.right s.fits
  where
    go : (l r : Word) → l ++ (v ++ r) ≡ u → u ≡ v
    go [] [] f = sym f ∙ append-nil v
    go [] (x ∷ r) f = absurd (omega (arith, ap length f, length-append v (x ∷ r)))
    go (x ∷ l) r f = absurd (omega (arith, ap length f, length-append l (v ++ r), length-append v r))

pub places-most : (a b i j : ℕ) → places_in a b i j ≤ suc a - b
unfolding places_in
places-most a b i j = go (eqb i j) refl (ltb b a) refl (ltb i j) refl
  where
    go : (s : Bool) → eqb i j ≡ s → (t : Bool) → ltb b a ≡ t → (l : Bool) → ltb i j ≡ l → places_in a b i j ≤ suc a - b
    go true p t q l r = rw (places_in, p) (omega arith)
    go false p true q l r = rw (places_in, p, q) (omega arith)
    go false p false q true r = rw (places_in, p, q, r) (omega arith)
    go false p false q false r = rw (places_in, p, q, r) (omega arith)

-- a word that has places in another is another polynomial's, and of two equal words the second is the one with the higher number
places_to : (u v : Word) (i j n : ℕ) → n < places_in (length u) (length v) i j → (i ≢ j) × (u ≡ v → i < j)
unfolding places_in
places_to u v i j n h = go (eqb i j) refl (ltb (length v) (length u)) refl (ltb i j) refl
  where
    go : (s : Bool) → eqb i j ≡ s → (t : Bool) → ltb (length v) (length u) ≡ t → (l : Bool) → ltb i j ≡ l → (i ≢ j) × (u ≡ v → i < j)
    go true p t q l r = absurd (let m : n < 0 = rw (places_in, p) at h in omega arith)
    go false p true q l r = (eqb-false i j p, λ z. absurd (let y = ltb-true (length v) (length u) q in let x = ap length z in omega arith))
    go false p false q true r = (eqb-false i j p, λ z. ltb-true i j r)
    go false p false q false r = absurd (let m : n < 0 = rw (places_in, p, q, r) at h in omega arith)

-- where 02's sentence holds, all places count
places-all : (u v : Word) (i j a : ℕ) → Included u v i j a → places_in (length u) (length v) i j ≡ suc (length u) - length v
unfolding places_in
places-all u v i j a h = go (dec_lt (length v) (length u))
  where
    go : Dec (length v < length u) → places_in (length u) (length v) i j ≡ suc (length u) - length v
    go (yes p) = rw (places_in, ne_eqb i j h.another, lt-ltb (length v) (length u) p)
    go (no p) =
        let q : length u ≤ length v = omega arith in
        let e : length u ≡ length v = omega (arith, stands-length h.stands) in
        rw (places_in, ne_eqb i j h.another, le-ltb (length v) (length u) q, lt-ltb i j (h.once (stands-equal h.stands e)))

earlier_irrefl : (third : Pair → ℕ) (o : Pair) → Earlier third o o → ⊥
earlier_irrefl third o (inl h) = omega arith
earlier_irrefl third o (inr (e, inl h)) = omega arith
earlier_irrefl third o (inr (e, inr (f, h))) = omega arith

module _ (ws : List Word) where
  -- a number that names one of the words is the one behind an index
  record Index (i : ℕ) : Type 0 where
    index : ℕ
    is : i ≡ suc index
    inside : index < length ws

  index_of : (i : ℕ) → Names (length ws) i → Index i
  index_of zero h = absurd (let l = h.least in omega arith)
  index_of (suc m) h = record { index = m; is = refl; inside = let l = h.most in omega arith }

  names_of : (i m : ℕ) → i ≡ suc m → m < length ws → Names (length ws) i
  names_of i m e l = record { least = omega arith; most = omega arith }

  -- numbers count from 1
  numbered : (X : Part) (o : Pair) (m k : ℕ) → GivenBy X (get_or ws m []) (get_or ws k []) (1 + m) (1 + k) o ≡ GivenBy X (get_or ws m []) (get_or ws k []) (suc m) (suc k) o
  numbered X o m k =
      let p : 1 + m ≡ suc m = omega arith in
      let q : 1 + k ≡ suc k = omega arith in
      ap₂ (λ (i j : ℕ). GivenBy X (get_or ws m []) (get_or ws k []) i j o) p q

  -- overlaps, by 01's sentence
  is_overlap : (o : Pair) → FromFirst sharing ws ws 1 o → IsOverlap ws o
  is_overlap o h =
      let g : GivenBy sharing (get_or ws h.index []) (get_or ws h.other []) (suc h.index) (suc h.other) o = rw (numbered sharing o h.index h.other) at h.given in
      let l = g.low in
      let m = g.high in
      subst (IsOverlap ws) (sym g.made)
      (record {
        first = names_of _ h.index refl h.inside;
        second = names_of _ h.other refl h.among;
        overlapping = record { some = l; first = omega arith; second = omega arith; same = shares-eq _ _ g.number g.passes };
        begins = refl;
      })

  pub overlap_iff : (o : Pair) → Memᴰ o (from_first sharing ws ws 1) ↔ IsOverlap ws o
  overlap_iff o = (λ m. is_overlap o (all-member (first_sound sharing ws ws 1) m), λ h. from h (index_of o.first h.first) (index_of o.second h.second))
    where
      from : IsOverlap ws o → Index o.first → Index o.second → Memᴰ o (from_first sharing ws ws 1)
      from h a b =
          let p = a.is in
          let q = b.is in
          let v : Overlapping (get_or ws a.index []) (get_or ws b.index []) o.shared = rw (p, q) at h.overlapping in
          let e : o.at ≡ length (get_or ws a.index []) - o.shared = rw p at h.begins in
          let x = v.first in
          let y = v.second in
          first_complete sharing o ws ws 1 a.index b.index a.inside b.inside (rw (numbered sharing o a.index b.index) (record {
            number = o.shared;
            low = v.some;
            high = omega arith;
            passes = shares-yes _ _ o.shared v.same;
            made = λ z. record { first = p z; second = q z; shared = o.shared; at = e z };
          }))

  -- inclusions, by 02's sentence
  is_inclusion : (o : Pair) → FromFirst placing ws ws 1 o → IsInclusion ws o
  is_inclusion o h =
      let g : GivenBy placing (get_or ws h.index []) (get_or ws h.other []) (suc h.index) (suc h.other) o = rw (numbered placing o h.index h.other) at h.given in
      let (a, b) = places_to (get_or ws h.index []) (get_or ws h.other []) (suc h.index) (suc h.other) g.number g.high in
      subst (IsInclusion ws) (sym g.made)
      (record {
        first = names_of _ h.index refl h.inside;
        second = names_of _ h.other refl h.among;
        included = record { another = a; stands = (stands_iff _ _ g.number).0 g.passes; once = b };
        whole = refl;
      })

  pub inclusion_iff : (o : Pair) → Memᴰ o (from_first placing ws ws 1) ↔ IsInclusion ws o
  inclusion_iff o = (λ m. is_inclusion o (all-member (first_sound placing ws ws 1) m), λ h. from h (index_of o.first h.first) (index_of o.second h.second))
    where
      from : IsInclusion ws o → Index o.first → Index o.second → Memᴰ o (from_first placing ws ws 1)
      from h a b =
          let p = a.is in
          let q = b.is in
          let v : Included (get_or ws a.index []) (get_or ws b.index []) (suc a.index) (suc b.index) o.at = rw (p, q) at h.included in
          let e : o.shared ≡ length (get_or ws b.index []) = rw q at h.whole in
          let k = places-all (get_or ws a.index []) (get_or ws b.index []) (suc a.index) (suc b.index) o.at v in
          first_complete placing o ws ws 1 a.index b.index a.inside b.inside (rw (numbered placing o a.index b.index) (record {
            number = o.at;
            low = omega arith;
            high = omega (arith, k, stands-length v.stands);
            passes = (stands_iff _ _ o.at).1 v.stands;
            made = λ z. record { first = p z; second = q z; shared = e z; at = o.at };
          }))

  -- a pair is in the list exactly if one of the two sentences holds of it
  pub listed_iff : (o : Pair) → Memᴰ o (overlaps ws) ↔ IsPair ws o
  unfolding overlaps
  listed_iff o = (λ m. to (Memᴰ.append_cases (from_first sharing ws ws 1) m), from)
    where
      to : Memᴰ o (from_first sharing ws ws 1) ⊎ Memᴰ o (from_first placing ws ws 1) → IsPair ws o
      to (inl m) = inl ((overlap_iff o).0 m)
      to (inr m) = inr ((inclusion_iff o).0 m)

      from : IsPair ws o → Memᴰ o (from_first sharing ws ws 1 ++ from_first placing ws ws 1)
      from (inl h) = Memᴰ.append_left {s = from_first sharing ws ws 1} (from_first placing ws ws 1) ((overlap_iff o).1 h)
      from (inr h) = Memᴰ.append_right (from_first sharing ws ws 1) ((inclusion_iff o).1 h)

  -- overlaps, then inclusions; by first, then second, then shared or place, all rising
  pub overlaps-rising : Rising (Before ws) (overlaps ws)
  unfolding overlaps
  overlaps-rising = rising-append
      (rising-map (λ a b p q r. by_shared p q r) overlapping (first-rising sharing (λ o. o.shared) (record { first = λ u v i j n. refl; second = λ u v i j n. refl; number = λ u v i j n. refl }) ws ws 1))
      (rising-map (λ a b p q r. by_place p q r) included (first-rising placing (λ o. o.at) (record { first = λ u v i j n. refl; second = λ u v i j n. refl; number = λ u v i j n. refl }) ws ws 1))
      (all-before (λ a b p q. overlap_first p q) overlapping included)
    where
      overlapping : All (IsOverlap ws) (from_first sharing ws ws 1)
      overlapping = all_map is_overlap (first_sound sharing ws ws 1)

      included : All (IsInclusion ws) (from_first placing ws ws 1)
      included = all_map is_inclusion (first_sound placing ws ws 1)

  -- no pair is before itself
  before_irrefl : (o : Pair) → Before ws o o → ⊥
  before_irrefl o (overlap_first p q) = let a = p.overlapping.second in let b = q.whole in omega arith
  before_irrefl o (by_shared p q r) = earlier_irrefl (λ x. x.shared) o r
  before_irrefl o (by_place p q r) = earlier_irrefl (λ x. x.at) o r

  -- nothing is in the list twice
  pub listed_once : (d : Pair) (i j : ℕ) → i < j → j < length (overlaps ws) → get_or (overlaps ws) i d ≢ get_or (overlaps ws) j d
  listed_once d i j h l e = before_irrefl (get_or (overlaps ws) j d) (subst (λ (x : Pair). Before ws x (get_or (overlaps ws) j d)) e (rising_at overlaps-rising d i j h l))
