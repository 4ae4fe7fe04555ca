-- A basis, trimmed or not, is certified by lines for each pair of its list.
use mathlib.Core.Path.{◌≡◌, refl, sym, ◌∙◌, ap}
use mathlib.Core.Logic.{◌≢◌, ◌⊎◌, inl, inr}
use mathlib.Core.List.{List, [], ◌∷◌, ◌++◌, append-nil, Memᴰ}
use Prim.Native.Nat.{ℕ, zero, suc, ◌+◌, ◌-◌, ◌≤◌, ◌<◌}
use native.Mathlib.Decide.{dec_lt}
use native.Mathlib.Omega.{arith}
use lib.ListN.{length, take, drop, length-append, drop_of_length-le}
use lib.Seq.{take_at, drop_at, take-append_seam, drop-append_seam, drop-append-add}
use Rattle.field.specs.Field.{Operations, Field}
use Rattle.lists.specs.All.{All}
use Rattle.words.specs.Word.{Word, around}
use Rattle.words.specs.Order.{Order, Lt, Admissible}
use Rattle.algebra.specs.Poly.{Poly, Same}
use Rattle.algebra.specs.Ideal.{Family, family, Line, value}
use Rattle.algebra.specs.Groebner.{lead, Led, top, Resolved, Overlaps, Inclusions, Certified}
use Rattle.algebra.proofs.Leading.{led-ne-nil}
use Rattle.algebra.proofs.Resolution.{resolved_symm}
use Rattle.overlaps.specs.Pairs.{Pair, Overlapping, Included, Names, word_no}
use Rattle.overlaps.specs.Overlaps.{leads, overlaps, overlap_word, rest_of, front_of, back_of, difference}
use Rattle.overlaps.proofs.Listed.{listed_iff}

-- a polynomial's number names its leading word in the list of leading words
pub lead_of : (ps : List Poly) (i : ℕ) → word_no (leads ps) i ≡ lead (family ps i)
unfolding leads family lead
lead_of ps zero = refl
lead_of [] (suc i) = refl
lead_of (p ∷ ps) (suc zero) = refl
lead_of (p ∷ ps) (suc (suc i)) = lead_of ps (suc i)

pub leads-length : (ps : List Poly) → length (leads ps) ≡ length ps
unfolding leads
leads-length [] = refl
leads-length (f ∷ ps) = ap suc (leads-length ps)

-- the number of a polynomial that is not zero is one of the list's
named : (ps : List Poly) (i : ℕ) → family ps i ≢ [] → Names (length ps) i
unfolding family
named ps zero h = absurd (h refl)
named [] (suc i) h = absurd (h refl)
named (p ∷ ps) (suc zero) h = record { least = omega arith; most = omega arith }
named (p ∷ ps) (suc (suc i)) h = let n = named ps (suc i) h in let m = n.most in record { least = omega arith; most = omega arith }

nonempty : (w : Word) → w ≢ [] → 0 < length w
nonempty [] h = absurd (h refl)
nonempty (a ∷ w) h = omega arith

cut-take : (d s : Word) → take (length (d ++ s) - length s) (d ++ s) ≡ d
cut-take d s = take_at d s (length (d ++ s) - length s) (omega (arith, length-append d s))

cut-drop : (d s : Word) → drop (length (d ++ s) - length s) (d ++ s) ≡ s
cut-drop d s = drop_at d s (length (d ++ s) - length s) (omega (arith, length-append d s))

-- d × s and s × q overlap in s
overlapping : (d s q : Word) → d ≢ [] → s ≢ [] → q ≢ [] → Overlapping (d ++ s) (s ++ q) (length s)
overlapping d s q hd hs hq = record {
  some = nonempty s hs;
  first = omega (arith, length-append d s, nonempty d hd);
  second = omega (arith, length-append s q, nonempty q hq);
  same = cut-drop d s ∙ sym (take-append_seam s q);
}

-- the second word of an overlap reaches beyond the first
cut-none : (d s q : Word) → drop (length (d ++ s) - length s + length (s ++ q)) (d ++ s) ≡ []
cut-none d s q =
    let h : length (d ++ s) ≤ length (d ++ s) - length s + length (s ++ q) = omega (arith, length-append d s, length-append s q) in
    drop_of_length-le (d ++ s) h

-- what stands behind a word inside another
cut-back : (d b t : Word) → drop (length d + length b) (around d t b) ≡ t
cut-back d b t = drop-append-add d (b ++ t) (length b) ∙ drop-append_seam b t

drop_all : (w : Word) → drop (length w) w ≡ []
drop_all w = let h : length w ≤ length w = omega arith in drop_of_length-le w h

-- a word that another one of no more letters is made of is that one
around-equal : (u v d t : Word) → length u ≤ length v → u ≡ around d t v → (d ≡ []) × (t ≡ [])
around-equal u v [] [] m e = (refl, refl)
around-equal u v [] (x ∷ t) m e = absurd (omega (arith, ap length e, length-append v (x ∷ t)))
around-equal u v (x ∷ d) t m e = absurd (omega (arith, ap length e, length-append d (v ++ t), length-append v t))

module _ {K : Operations} (F : Field K) {O : Order} (A : Admissible O) (G : Family) where
  -- lines that certify a pair: strictly below its overlap word, with its difference as their value
  pub record Certifies (o : Pair) : Type 0 where
    pub lines : List Line
    pub below : All (λ z. Lt O (top G z) (overlap_word G o)) lines
    pub equal : Same K (difference K G o) (value K G lines)

  -- both sides of a difference are divided by their leading coefficients, as those of a resolved pair are
  resolved_of : (o : Pair) → Certifies o → Resolved K O G o.first [] (rest_of G o) o.second (front_of G o) (back_of G o)
  unfolding overlap_word difference rest_of
  resolved_of o c = record { lines = c.lines; below = c.below; equal = c.equal }

  -- what is to be certified, by number
  AllOverlaps : Type 0
  AllOverlaps = (i j n : ℕ) → Led K O (G i) → Led K O (G j) → Overlapping (lead (G i)) (lead (G j)) n
      → Certifies (record { first = i; second = j; shared = n; at = length (lead (G i)) - n })

  AllInclusions : Type 0
  AllInclusions = (i j a : ℕ) → Led K O (G i) → Led K O (G j) → Included (lead (G i)) (lead (G j)) i j a
      → Certifies (record { first = i; second = j; shared = length (lead (G j)); at = a })

  -- each overlap by 01's sentence is certified: then overlaps are resolved
  overlaps_resolved : AllOverlaps → Overlaps K O G
  unfolding AllOverlaps rest_of front_of back_of
  overlaps_resolved h i j li lj d s q hd hs hq e f =
      rw (f, e, drop-append_seam, cut-take, cut-none) at (resolved_of o (h i j (length s) li lj (rw (e, f) (overlapping d s q hd hs hq))))
    where
      o : Pair
      o = record { first = i; second = j; shared = length s; at = length (lead (G i)) - length s }

  -- each inclusion by 02's sentence is certified: then inclusions are resolved, those of equal words in either order
  inclusions_resolved : AllInclusions → Inclusions K O G
  unfolding AllInclusions rest_of front_of back_of
  inclusions_resolved h i j li lj n d t e = go (dec_lt (length (lead (G j))) (length (lead (G i)))) (dec_lt i j)
    where
      listed : (i j : ℕ) → Led K O (G i) → Led K O (G j) → i ≢ j → (lead (G i) ≡ lead (G j) → i < j) → (d t : Word)
          → lead (G i) ≡ around d t (lead (G j)) → Resolved K O G i [] [] j d t
      listed i j li lj n c d t e =
          rw (e, drop_all, take-append_seam, cut-back) at (resolved_of (record { first = i; second = j; shared = length (lead (G j)); at = length d })
          (h i j (length d) li lj (record { another = n; stands = record { left = d; right = t; place = refl; fits = sym e }; once = c })))

      -- equal words, the higher number first: the pair is listed the other way round
      turned : lead (G i) ≡ lead (G j) → j < i → Resolved K O G i [] [] j [] []
      turned s q = resolved_symm F A G (ap (◌++ []) (sym s)) (listed j i lj li (λ z. n (sym z)) (λ z. q) [] [] (sym s ∙ sym (append-nil (lead (G i)))))

      go : Dec (length (lead (G j)) < length (lead (G i))) → Dec (i < j) → Resolved K O G i [] [] j d t
      go (yes p) q = listed i j li lj n (λ s. absurd (let z = ap length s in omega arith)) d t e
      go (no p) (yes q) = listed i j li lj n (λ s. q) d t e
      go (no p) (no q) =
          let (x, y) = around-equal (lead (G i)) (lead (G j)) d t (omega arith) e in
          rw (x, y) (turned ((rw (x, y) at e) ∙ append-nil (lead (G j))) (omega arith))

-- Lines for each pair of the list certify the basis.
module _ {K : Operations} (F : Field K) {O : Order} (A : Admissible O) (ps : List Poly) where
  pub certified : ((i : ℕ) → (family ps i ≡ []) ⊎ Led K O (family ps i))
      → ((o : Pair) → Memᴰ o (overlaps (leads ps)) → Certifies F A (family ps) o) → Certified K O (family ps)
  unfolding AllOverlaps AllInclusions
  certified leading h = record {
    leads = leading;
    overlaps = overlaps_resolved F A (family ps) (λ i j n li lj v. h (record { first = i; second = j; shared = n; at = length (lead (family ps i)) - n }) (overlap i j n li lj v));
    inclusions = inclusions_resolved F A (family ps) (λ i j a li lj v. h (record { first = i; second = j; shared = length (lead (family ps j)); at = a }) (inclusion i j a li lj v));
  }
    where
      names : (i : ℕ) → Led K O (family ps i) → Names (length (leads ps)) i
      names i l = rw (leads-length ps) (named ps i (led-ne-nil l))

      overlap : (i j n : ℕ) → Led K O (family ps i) → Led K O (family ps j) → Overlapping (lead (family ps i)) (lead (family ps j)) n
          → Memᴰ (record { first = i; second = j; shared = n; at = length (lead (family ps i)) - n }) (overlaps (leads ps))
      overlap i j n li lj v = (listed_iff (leads ps) _).1 (inl (record {
        first = names i li;
        second = names j lj;
        overlapping = rw (lead_of ps i, lead_of ps j) v;
        begins = rw (lead_of ps i);
      }))

      inclusion : (i j a : ℕ) → Led K O (family ps i) → Led K O (family ps j) → Included (lead (family ps i)) (lead (family ps j)) i j a
          → Memᴰ (record { first = i; second = j; shared = length (lead (family ps j)); at = a }) (overlaps (leads ps))
      inclusion i j a li lj v = (listed_iff (leads ps) _).1 (inr (record {
        first = names i li;
        second = names j lj;
        included = rw (lead_of ps i, lead_of ps j) v;
        whole = rw (lead_of ps j);
      }))
