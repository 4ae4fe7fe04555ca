-- A package of which the facts of acceptance hold has an accepted basis: certified, with sums both ways between it and the relations.
use mathlib.Core.Path.{◌≡◌, refl, sym, ap, subst}
use mathlib.Core.Bool.{Bool, true, false}
use mathlib.Core.Logic.{◌⊎◌, inl, inr}
use mathlib.Core.List.{List, [], ◌∷◌, Memᴰ}
use Prim.Native.Nat.{ℕ, zero, suc, ◌<◌}
use native.Mathlib.Omega.{arith}
use lib.Dec.{eqb}
use lib.ListN.{length, get_or}
use Rattle.field.specs.Field.{Operations, Field}
use Rattle.lists.specs.All.{All, done, ◌also◌}
use Rattle.words.specs.Order.{Order, Admissible}
use Rattle.algebra.specs.Poly.{Poly}
use Rattle.algebra.specs.Written.{Written}
use Rattle.algebra.specs.Ideal.{Family, family, Over, InIdeal}
use Rattle.algebra.specs.Groebner.{Led}
use Rattle.algebra.specs.Short.{Accepted}
use Rattle.algebra.proofs.Sums.{ideal_zero}
use Rattle.algebra.proofs.WrittenForm.{written-led}
use Rattle.working.proofs.Families.{family-written}
use Rattle.overlaps.specs.Pairs.{Pair}
use Rattle.overlaps.specs.Overlaps.{leads, overlaps}
use Rattle.overlaps.proofs.Certification.{Certifies, certified}
use Rattle.package.specs.Names.{sum_b, sum_g, sum_o}
use Rattle.package.specs.Sums.{SumLine}
use Rattle.acceptance.specs.Content.{line_of, sum_of, lines_of}
use Rattle.acceptance.specs.Facts.{SumHolds, Facts}

-- a member of a list stands at some place
member_at : {A : Type 0} {x : A} {xs : List A} (d : A) → Memᴰ x xs → (i : ℕ) × (i < length xs) × (get_or xs i d ≡ x)
member_at d (Memᴰ.head e) = (0, omega arith, sym e)
member_at d (Memᴰ.tail m) = let (i, l, e) = member_at d m in (suc i, omega arith, e)

-- a number names a polynomial of the list, or none
in_range : (ps : List Poly) (i : ℕ) → ((m : ℕ) × (i ≡ suc m) × (m < length ps)) ⊎ (family ps i ≡ [])
unfolding family
in_range ps zero = inr refl
in_range [] (suc i) = inr refl
in_range (p ∷ ps) (suc zero) = inl (0, refl, omega arith)
in_range (p ∷ ps) (suc (suc i)) = go (in_range ps (suc i))
  where
    go : ((m : ℕ) × (suc i ≡ suc m) × (m < length ps)) ⊎ (get_or ([] ∷ ps) (suc i) [] ≡ [])
        → ((m : ℕ) × (suc (suc i) ≡ suc m) × (m < suc (length ps))) ⊎ (get_or ([] ∷ (p ∷ ps)) (suc (suc i)) [] ≡ [])
    go (inl (m, e, l)) = inl (suc m, ap suc e, omega arith)
    go (inr e) = inr e

family-suc : (ps : List Poly) (m : ℕ) → family ps (suc m) ≡ get_or ps m []
unfolding family
family-suc ps m = refl

-- the lines of a sum are over the letters, where all sum lines are
pub lines-over : (L : ℕ → Type 0) (k i : ℕ) (ss : List SumLine) → All (λ s. Over L (line_of s)) ss → All (Over L) (lines_of (sum_of k i ss))
unfolding lines_of sum_of
lines-over L k i [] done = done
lines-over L k i (s ∷ ss) (h also hs) = go (eqb s.kind k) refl (eqb s.item i) refl (lines-over L k i ss hs)
  where
    go : (b : Bool) → eqb s.kind k ≡ b → (c : Bool) → eqb s.item i ≡ c → All (Over L) (lines_of (sum_of k i ss)) → All (Over L) (lines_of (sum_of k i (s ∷ ss)))
    go false x c y r = rw (sum_of, x) r
    go true x false y r = rw (sum_of, x, y) r
    go true x true y r = rw (sum_of, x, y) (h also r)

module _ {L : ℕ → Type 0} {K : Operations} (F : Field K) {O : Order} (A : Admissible O) (rs ps : List Poly) (ss : List SumLine)
    (wr : All (Written K O) rs) (wp : All (Written K O) ps) (over : All (λ s. Over L (line_of s)) ss) (h : Facts K O rs ps ss) where
  -- each polynomial leads, or its number names none
  pub basis-leads : (i : ℕ) → (family ps i ≡ []) ⊎ Led K O (family ps i)
  basis-leads i = written-led F A (family ps i) (family-written K O ps wp i)

  -- each pair of the list is certified by its O lines
  certifies : (o : Pair) → Memᴰ o (overlaps (leads ps)) → Certifies F A (family ps) o
  certifies o m = go (member_at (record { first = 0; second = 0; shared = 0; at = 0 }) m)
    where
      go : (i : ℕ) × (i < length (overlaps (leads ps))) × (get_or (overlaps (leads ps)) i (record { first = 0; second = 0; shared = 0; at = 0 }) ≡ o) → Certifies F A (family ps) o
      go (i, l, e) = subst (Certifies F A (family ps)) e (record {
        lines = lines_of (sum_of sum_o (suc i) ss);
        below = h.overlap_below i l;
        equal = (h.overlap_sums_lem i l).equal;
      })

  sums : (H : Family) (fs : List Poly) (k : ℕ) → ((m : ℕ) → m < length fs → SumHolds K O H (get_or fs m []) (lines_of (sum_of k (suc m) ss)))
      → (i : ℕ) → InIdeal L K H (family fs i)
  sums H fs k g i = go (in_range fs i)
    where
      go : ((m : ℕ) × (i ≡ suc m) × (m < length fs)) ⊎ (family fs i ≡ []) → InIdeal L K H (family fs i)
      go (inr e) = rw e (ideal_zero F)
      go (inl (m, e, l)) = rw (e, family-suc fs m) (record { lines = lines_of (sum_of k (suc m) ss); words = lines-over L k (suc m) ss over; equal = (g m l).equal })

  pub accepted : Accepted L K O (family rs) (family ps)
  accepted = record {
    certified = certified F A ps basis-leads certifies;
    basis-sums = sums (family rs) ps sum_b h.basis-sums;
    relation_sums = sums (family ps) rs sum_g h.relation_sums;
  }
