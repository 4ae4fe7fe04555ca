-- Running under a basis and under the same polynomials divided by their leading coefficients gives the same: the leading words are the same, and what a
-- step takes away is the same multiple.
use mathlib.Core.Path.{◌≡◌, refl, sym, ◌∙◌, ap, ap₂}
use mathlib.Core.Bool.{Bool, true, false}
use mathlib.Core.Logic.{◌⊎◌, inl, inr}
use mathlib.Core.Option.{Option, some}
use mathlib.Core.List.{List, [], ◌∷◌, map}
use Prim.Native.Nat.{ℕ, zero, suc, ◌+◌}
use lib.Dec.{ltb}
use lib.ListN.{length, take, drop}
use Rattle.field.specs.Field.{Operations, Field}
use Rattle.field.proofs.Derived.{red-mul-left, divided_by_one, neg-eq-mul}
use Rattle.words.specs.Word.{Word}
use Rattle.words.specs.Order.{Order, Admissible}
use Rattle.words.specs.Place.{begins}
use Rattle.algebra.specs.Poly.{Term, Poly, scale, shift}
use Rattle.algebra.specs.Written.{plus}
use Rattle.algebra.specs.Ideal.{family}
use Rattle.algebra.specs.Groebner.{lead, lead_coef, Led, led, monic}
use Rattle.algebra.specs.Spot.{first_begins, nowhere, spot_at, spot_from, spot, Target, reduced, reducible, target_of, target}
use Rattle.algebra.specs.Steps.{take_away, line_at, stepped, Ended, over, onward, spent, run}
use Rattle.algebra.proofs.Lines.{shift-scale, scale-scale}

module _ (K : Operations) where
  -- the leading word
  lead-monic : (g : Poly) → lead (monic K g) ≡ lead g
  unfolding lead monic scale
  lead-monic [] = refl
  lead-monic (t ∷ g) = refl

  -- the polynomials by number
  family-monic : (ps : List Poly) (n : ℕ) → family (map (monic K) ps) n ≡ monic K (family ps n)
  unfolding family monic scale
  family-monic ps zero = refl
  family-monic [] (suc n) = refl
  family-monic (p ∷ ps) (suc zero) = refl
  family-monic (p ∷ ps) (suc (suc n)) = family-monic ps (suc n)

  -- the leading words begin the same words
  begins-monic : (ps : List Poly) (n : ℕ) (w : Word) → first_begins (map (monic K) ps) n w ≡ first_begins ps n w
  unfolding first_begins monic scale
  begins-monic [] n w = refl
  begins-monic ([] ∷ ps) n w = begins-monic ps (suc n) w
  begins-monic ((t ∷ f) ∷ ps) n w = go (begins t.word w) (begins-monic ps (suc n) w)
    where
      go : (b : Bool) → first_begins (map (monic K) ps) (suc n) w ≡ first_begins ps (suc n) w
          → ◌≡◌ {A = Option ℕ} (elim b [ true ↦ some n | false ↦ first_begins (map (monic K) ps) (suc n) w ]) (elim b [ true ↦ some n | false ↦ first_begins ps (suc n) w ])
      go true e = refl
      go false e = e

  from_monic : (ps : List Poly) (w : Word) (i : ℕ) → spot_from (map (monic K) ps) w i ≡ spot_from ps w i
  unfolding spot_from
  from_monic ps [] i = ap (λ (o : Option ℕ). spot_at i o nowhere) (begins-monic ps 1 [])
  from_monic ps (a ∷ w) i = ap₂ (spot_at i) (begins-monic ps 1 (a ∷ w)) (from_monic ps w (suc i))

  target-monic : (ps : List Poly) (f : Poly) → target (map (monic K) ps) f ≡ target ps f
  unfolding target spot
  target-monic ps [] = refl
  target-monic ps (t ∷ f) = ap₂ (target_of t) (from_monic ps t.word 0) (target-monic ps f)

module _ {K : Operations} (F : Field K) {O : Order} (A : Admissible O) (ps : List Poly)
    (leads : (i : ℕ) → (family ps i ≡ []) ⊎ Led K O (family ps i)) where
  open K use {mul, neg, inv}

  -- divided by its leading coefficient a polynomial leads with 1
  monic-leads : {g : Poly} → Led K O g → lead_coef (monic K g) ≡ 1
  unfolding monic scale lead_coef
  monic-leads {g} (led {t} {f} h b) = F.mul_comm (inv t.coef) t.coef ∙ F.mul-inv t.coef h

  -- x times what is divided by a, as one factor
  factor : (c a : ℕ) → mul (neg (mul c (inv 1))) (inv a) ≡ neg (mul c (inv a))
  factor c a =
      ap (λ (x : ℕ). mul (neg x) (inv a)) (divided_by_one F c) ∙ ap (λ (x : ℕ). mul x (inv a)) (neg-eq-mul F (K.red c))
      ∙ F.mul_assoc (neg 1) (K.red c) (inv a) ∙ ap (mul (neg 1)) (red-mul-left F c (inv a)) ∙ sym (neg-eq-mul F (mul c (inv a)))

  -- what is taken away of a polynomial that leads
  taken-monic : (g : Poly) → (g ≡ []) ⊎ Led K O g → (c : ℕ) (l r : Word)
      → scale K (neg (mul c (inv (lead_coef (monic K g))))) (shift l r (monic K g)) ≡ scale K (neg (mul c (inv (lead_coef g)))) (shift l r g)
  unfolding monic scale shift
  taken-monic g (inl e) c l r = rw e
  taken-monic g (inr h) c l r =
      let a = lead_coef g in
      ap (λ (x : ℕ). scale K (neg (mul c (inv x))) (shift l r (scale K (inv a) g))) (monic-leads h)
      ∙ ap (scale K (neg (mul c (inv 1)))) (shift-scale K l r (inv a) g) ∙ scale-scale F (neg (mul c (inv 1))) (inv a) (shift l r g)
      ∙ ap (λ (x : ℕ). scale K x (shift l r g)) (factor c a)

  -- a step leaves the same
  stepped-monic : (f : Poly) (t : Term) (i n : ℕ) → stepped K O (map (monic K) ps) f t i n ≡ stepped K O ps f t i n
  unfolding stepped take_away line_at
  stepped-monic f t i n =
      rw (family-monic K ps n, lead-monic K (family ps n))
      (ap (plus K O f) (taken-monic (family ps n) (leads n) t.coef (take i t.word) (drop (i + length (lead (family ps n))) t.word)))

  -- and so does a run
  pub run-monic : (limit b used : ℕ) (f : Poly) → run limit K O (map (monic K) ps) b used f ≡ run limit K O ps b used f
  unfolding run onward
  run-monic limit zero used f = ap (onward (λ t i n. spent) f used) (target-monic K ps f)
  run-monic limit (suc b) used f = ap (onward (after (map (monic K) ps)) f used) (target-monic K ps f) ∙ go (target ps f) (run-monic limit b (suc used))
    where
      after : List Poly → Term → ℕ → ℕ → Ended
      after qs t i n = elim (ltb limit (length (stepped K O qs f t i n))) [ true ↦ over (suc used) | false ↦ run limit K O qs b (suc used) (stepped K O qs f t i n) ]

      by : (c : Bool) (g : Poly) → run limit K O (map (monic K) ps) b (suc used) g ≡ run limit K O ps b (suc used) g
          → ◌≡◌ {A = Ended} (elim c [ true ↦ over (suc used) | false ↦ run limit K O (map (monic K) ps) b (suc used) g ])
          (elim c [ true ↦ over (suc used) | false ↦ run limit K O ps b (suc used) g ])
      by true g e = refl
      by false g e = e

      go : (o : Target) → ((g : Poly) → run limit K O (map (monic K) ps) b (suc used) g ≡ run limit K O ps b (suc used) g) → onward (after (map (monic K) ps)) f used o ≡ onward (after ps) f used o
      go reduced rest = refl
      go (reducible t i n) rest =
          ap (λ (g : Poly). elim (ltb limit (length g)) [ true ↦ over (suc used) | false ↦ run limit K O (map (monic K) ps) b (suc used) g ]) (stepped-monic f t i n)
          ∙ by (ltb limit (length (stepped K O ps f t i n))) (stepped K O ps f t i n) (rest (stepped K O ps f t i n))
