-- Where no leading word stands inside another polynomial's, the list is document 01's; and the difference of an overlap of two polynomials that lead
-- with 1 is 01's.
use mathlib.Core.Path.{◌≡◌, refl}
use mathlib.Core.List.{List, [], ◌∷◌, ◌++◌, append-nil, Memᴰ}
use Prim.Native.Nat.{◌+◌, ◌-◌, ◌≤◌}
use native.Mathlib.Omega.{arith}
use lib.ListN.{length, take, drop, drop_of_length-le}
use Rattle.field.specs.Field.{Operations, Field}
use Rattle.words.specs.Word.{Word}
use Rattle.words.specs.Order.{Order, Admissible}
use Rattle.algebra.specs.Poly.{shift, sub}
use Rattle.algebra.specs.Written.{Written}
use Rattle.algebra.specs.Ideal.{Family}
use Rattle.algebra.specs.Groebner.{lead, lead_coef}
use Rattle.algebra.proofs.ComputedSteps.{monic-leads_one}
use Rattle.overlaps.specs.Pairs.{Pair, Overlapping, IsInclusion}
use Rattle.overlaps.specs.Overlaps.{sharing, placing, from_first, overlaps, rest_of, front_of, back_of, difference}
use Rattle.overlaps.proofs.Listed.{inclusion_iff}

pub trimmed_list : (ws : List Word) → ((o : Pair) → IsInclusion ws o → ⊥) → overlaps ws ≡ from_first sharing ws ws 1
unfolding overlaps
trimmed_list ws h = go (from_first placing ws ws 1) (λ o m. h o ((inclusion_iff ws o).0 m))
  where
    go : (os : List Pair) → ((o : Pair) → Memᴰ o os → ⊥) → from_first sharing ws ws 1 ++ os ≡ from_first sharing ws ws 1
    go [] n = append-nil (from_first sharing ws ws 1)
    go (o ∷ os) n = absurd (n o (Memᴰ.head refl))

module _ {K : Operations} (F : Field K) {O : Order} (A : Admissible O) (G : Family) (o : Pair) where
  -- nothing of the first leading word stands behind the second
  module _ (v : Overlapping (lead (G o.first)) (lead (G o.second)) o.shared) (e : o.at ≡ length (lead (G o.first)) - o.shared) where
    overlap_back : back_of G o ≡ []
    unfolding back_of
    overlap_back =
        let p = v.first in
        let q = v.second in
        let h : length (lead (G o.first)) ≤ o.at + length (lead (G o.second)) = omega arith in
        drop_of_length-le (lead (G o.first)) h

    pub difference-leads_one : Written K O (G o.first) → Written K O (G o.second) → lead_coef (G o.first) ≡ 1 → lead_coef (G o.second) ≡ 1
        → difference K G o
        ≡ sub K (shift [] (drop o.shared (lead (G o.second))) (G o.first))
        (shift (take (length (lead (G o.first)) - o.shared) (lead (G o.first))) [] (G o.second))
    unfolding difference rest_of front_of
    difference-leads_one a b c d = rw (difference, monic-leads_one F A (G o.first) a c, monic-leads_one F A (G o.second) b d, overlap_back, front_of, e)
