-- Where overlaps and inclusions are resolved, any two multiples of basis polynomials with one leading word are (`resolves`; source document 002,
-- theorem 3.5.4). The leading words u and v of the two stand in that one word; it is cut where each begins and where each ends (`cuts`). Where one
-- begins behind the other's end, they stand apart (`resolved_apart` in Apart.antt); where one stands inside the other, it is an inclusion; else the
-- letters that both have make an overlap (`sharing`). That pair is resolved, and so it is between more letters left and right (`resolved_times`).
-- Where v begins before u, the two are exchanged (`resolved_symm`). A leading word stands inside itself only as the whole of it, and then nothing is
-- left to resolve (`inside_self`, `resolved_refl`).
use mathlib.Core.Path.{◌≡◌, refl, sym, ◌∙◌, ap}
use mathlib.Core.Logic.{◌⊎◌, inl, inr}
use mathlib.Core.List.{[], ◌∷◌, ◌++◌, append_assoc, append-nil, cons≢nil, cons-eq-cons}
use Prim.Native.Nat.{ℕ}
use native.Mathlib.Decide.{ℕ_discrete}
use native.Mathlib.Omega.{arith}
use lib.ListN.{length, length-append}
use Rattle.field.specs.Field.{Operations, Field}
use Rattle.field.proofs.Derived.{one_mul, sub_self, sub-add_self}
use Rattle.lists.specs.All.{done}
use Rattle.words.specs.Word.{Word, around}
use Rattle.words.specs.Order.{Order, Admissible}
use Rattle.algebra.specs.Poly.{sub}
use Rattle.algebra.specs.Ideal.{Family, value}
use Rattle.algebra.specs.Groebner.{lead, Led, Resolved, Overlaps, Inclusions}
use Rattle.algebra.proofs.Coefficients.{around-around, coeff-nil, red-coeff, coeff-sub, shift_same}
use Rattle.algebra.proofs.Lines.{shift-nil, shift-append, shift-shift, shift-scale, times, coeff_times}
use Rattle.algebra.proofs.Leading.{coeff_resolved, below_times}
use Rattle.algebra.proofs.Descent.{Resolves}
use Rattle.algebra.proofs.Apart.{resolved_apart}

-- two ways to cut one word: one of the first parts goes on from the other
Cuts : (u v x y : Word) → Type 0
Cuts u v x y = ((d : Word) × (x ≡ u ++ d) × (v ≡ d ++ y)) ⊎ ((d : Word) × (u ≡ x ++ d) × (y ≡ d ++ v))

cuts : (u v x y : Word) → u ++ v ≡ x ++ y → Cuts u v x y
unfolding Cuts
cuts [] v x y e = inl (x, refl, e)
cuts (a ∷ u) v [] y e = inr (a ∷ u, refl, sym e)
cuts (a ∷ u) v (b ∷ x) y e = go (cuts u v x y (cons-eq-cons.0 e).1)
  where
    h : a ≡ b
    h = (cons-eq-cons.0 e).0

    go : Cuts u v x y → Cuts (a ∷ u) v (b ∷ x) y
    go (inl (d, p, q)) = inl (d, cc, q)
    go (inr (d, p, q)) = inr (d, cc, q)

-- a word that stands inside itself has nothing beside it
inside_self : (u d t : Word) → u ≡ around d t u → (d ≡ []) × (t ≡ [])
inside_self u [] [] e = (refl, refl)
inside_self u [] (x ∷ t) e = absurd (omega (arith, simp length-append at (ap length e)))
inside_self u (x ∷ d) t e = absurd (omega (arith, simp length-append at (ap length e)))

module _ {K : Operations} (F : Field K) {O : Order} (A : Admissible O) (G : Family) where
  open K use {neg}

  pub resolved_refl : (i : ℕ) (l r : Word) → Resolved K O G i l r i l r
  unfolding value
  resolved_refl i l r = record { lines = []; below = done; equal = λ w. coeff-sub F _ _ w ∙ rw (sub_self F) (sym (coeff-nil F w)) }

  pub resolved_symm : {i j : ℕ} {l r l' r' : Word} → around l r (lead (G i)) ≡ around l' r' (lead (G j))
      → Resolved K O G i l r j l' r' → Resolved K O G j l' r' i l r
  resolved_symm {i} {j} {l} {r} {l'} {r'} e q = record {
    lines = times K (neg 1) [] [] q.lines;
    below = rw (append-nil, e) at (below_times F A G (neg 1) [] [] _ q.lines q.below);
    equal = λ w. coeff-sub F _ _ w ∙ rw (coeff_resolved F A q w, sub-add_self F, coeff_times F G, shift-nil);
  }

  -- between more letters
  pub resolved_times : (x y : Word) {i j : ℕ} {l r l' r' : Word}
      → Resolved K O G i l r j l' r' → Resolved K O G i (x ++ l) (r ++ y) j (x ++ l') (r' ++ y)
  unfolding sub
  resolved_times x y {i} {j} {l} {r} {l'} {r'} q = record {
    lines = times K 1 x y q.lines;
    below = rw around-around at (below_times F A G 1 x y _ q.lines q.below);
    equal = λ w. rw (← shift-shift x y l r, ← shift-shift x y l' r', ← shift-scale K x y, ← shift-append x y)
        (shift_same F x y _ _ q.equal w ∙ sym (coeff_times F G 1 x y q.lines w ∙ one_mul F _ ∙ red-coeff F _ w));
  }

  module _ (overlaps : Overlaps K O G) (inclusions : Inclusions K O G) where
    inclusion : (i j : ℕ) → Led K O (G i) → Led K O (G j) → (d t : Word) → lead (G i) ≡ around d t (lead (G j)) → Resolved K O G i [] [] j d t
    inclusion i j li lj d t e = go (ℕ_discrete i j)
      where
        go : Dec (i ≡ j) → Resolved K O G i [] [] j d t
        go (yes p) = let h = inside_self (lead (G j)) d t (rw p at e) in rw (h.0, h.1, p) (resolved_refl j [] [])
        go (no p) = inclusions i j li lj p d t e

    module _ (i j : ℕ) (li : Led K O (G i)) (lj : Led K O (G j)) where
      -- the first begins, and they share s
      sharing : (l d s q r : Word) → lead (G i) ≡ d ++ s → lead (G j) ≡ s ++ q → Resolved K O G i l (q ++ r) j (l ++ d) r
      sharing l d [] q r p p' = rw (← p', ← (p ∙ append-nil d)) (rw append-nil at (resolved_apart F l [] r A G i j li lj))
      sharing l [] (a ∷ s) q r p p' =
          rw append-nil (resolved_symm e (rw append-nil at (resolved_times l r (inclusion j i lj li [] q (rw p p')))))
        where
          e : around l r (lead (G j)) ≡ around l (q ++ r) (lead (G i))
          e = rw (p, p') (simp append_assoc)
      sharing l (b ∷ d) (a ∷ s) [] r p p' =
          rw append-nil at (resolved_times l r (inclusion i j li lj (b ∷ d) [] (p ∙ rw p' (simp append-nil))))
      sharing l (b ∷ d) (a ∷ s) (c ∷ q) r p p' =
          rw append-nil at (resolved_times l r (overlaps i j li lj (b ∷ d) (a ∷ s) (c ∷ q) cons≢nil cons≢nil cons≢nil p p'))

      -- the first begins no later
      from_left : (l r l' r' d : Word) → l' ≡ l ++ d → lead (G i) ++ r ≡ d ++ (lead (G j) ++ r') → Resolved K O G i l r j l' r'
      unfolding Cuts
      from_left l r l' r' d e h = go (cuts (lead (G i)) r d (lead (G j) ++ r') h)
        where
          go : Cuts (lead (G i)) r d (lead (G j) ++ r') → Resolved K O G i l r j l' r'
          go (inl (x, p, p')) = rw (p', e, p) (resolved_apart F l x r' A G i j li lj)
          go (inr (s, p, p')) = by (cuts (lead (G j)) r' s r p')
            where
              by : Cuts (lead (G j)) r' s r → Resolved K O G i l r j l' r'
              by (inl (t, q, q')) = rw (q', e) (rw append-nil at (resolved_times l r (inclusion i j li lj d t (rw q at p))))
              by (inr (t, q, q')) = rw (q', e) (sharing l d s t r' p q)

    pub resolves : Resolves K O G
    unfolding Cuts
    resolves i l r j l' r' li lj e = go (cuts l (lead (G i) ++ r) l' (lead (G j) ++ r') e)
      where
        go : Cuts l (lead (G i) ++ r) l' (lead (G j) ++ r') → Resolved K O G i l r j l' r'
        go (inl (d, p, q)) = from_left i j li lj l r l' r' d p q
        go (inr (d, p, q)) = resolved_symm (sym e) (from_left j i lj li l' r' l r d p q)
