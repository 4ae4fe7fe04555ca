-- Laws of leading words: coefficients at and above them, and of lines below a word.
use mathlib.Core.Path.{◌≡◌, refl, sym, ◌∙◌, ap}
use mathlib.Core.Logic.{◌≢◌, ◌⊎◌, inl, inr}
use mathlib.Core.List.{List, [], ◌∷◌, ◌++◌, cons≢nil}
use Prim.Native.Nat.{ℕ}
use Rattle.field.specs.Field.{Operations, Field}
use Rattle.field.proofs.Derived.{red-zero, zero-add, one_mul, mul-zero, red-mul-right, eq_add_of_sub_eq}
use Rattle.lists.specs.All.{All, done, ◌also◌}
use Rattle.words.specs.Word.{Word, around}
use Rattle.words.specs.Order.{Order, Lt, Admissible}
use Rattle.lists.proofs.Every.{all_map}
use Rattle.words.proofs.Admissible.{Le, lt-ne, lt-around, le_lt_trans}
use Rattle.algebra.specs.Poly.{Poly, coeff, scale, shift, sub}
use Rattle.algebra.specs.Ideal.{Family, Line, value}
use Rattle.algebra.specs.Groebner.{lead, lead_coef, Led, led, monic, top, Resolved}
use Rattle.algebra.proofs.Coefficients.{where_same_lem, around-around, shift-words, coeff-nil, coeff-cons, red-coeff, coeff-append, coeff-scale, coeff-none}
use Rattle.algebra.proofs.Lines.{shift-scale, times, coeff-value-cons}

pub led-ne-nil : {K : Operations} {O : Order} {g : Poly} → Led K O g → g ≢ []
led-ne-nil (led h b) e = cons≢nil e

module _ {K : Operations} (F : Field K) {O : Order} (A : Admissible O) where
  open K use {red, add, mul, neg, inv}
  open F use {add-zero, mul_comm, mul_assoc, mul-inv}

  pub red-lead : {g : Poly} → Led K O g → red (lead_coef g) ≢ 0
  unfolding lead_coef
  red-lead (led h b) = h

  -- no word is above the leading word
  pub words-le : {g : Poly} → Led K O g → All (λ t. Le O t.word (lead g)) g
  unfolding lead
  words-le (led h b) = inr refl also all_map (λ s p. inl p) b

  coeff-lead : {g : Poly} → Led K O g → coeff K g (lead g) ≡ red (lead_coef g)
  unfolding lead lead_coef
  coeff-lead (led {t} {f} h b) =
      coeff-cons F t f t.word
      ∙ rw (where_same_lem t.word t.word t.coef refl, coeff-none F f t.word (all_map (λ s p. lt-ne A _ _ p) b), add-zero)

  pub coeff-monic-lead : {g : Poly} → Led K O g → coeff K (monic K g) (lead g) ≡ 1
  unfolding monic
  coeff-monic-lead {g} h =
      coeff-scale F (inv (lead_coef g)) g (lead g) ∙ rw (coeff-lead h, red-mul-right F, mul_comm) (mul-inv (lead_coef g) (red-lead h))

  -- a polynomial is its leading coefficient times what it is divided by that
  pub coeff_unmonic : {g : Poly} → Led K O g → (l r w : Word) → coeff K (shift l r g) w ≡ mul (lead_coef g) (coeff K (shift l r (monic K g)) w)
  unfolding monic
  coeff_unmonic {g} h l r w =
      sym (rw (shift-scale K l r (inv (lead_coef g)) g, coeff-scale F, ← mul_assoc (lead_coef g), mul-inv (lead_coef g) (red-lead h), one_mul F)
      (red-coeff F (shift l r g) w))

  pub shift-words-le : (l r u : Word) (f : Poly) → All (λ t. Le O t.word u) f → All (λ t. Le O t.word (around l r u)) (shift l r f)
  shift-words-le l r u = shift-words (λ v. Le O v u) (λ v. Le O v (around l r u)) l r go
    where
      go : (v : Word) → Le O v u → Le O (around l r v) (around l r u)
      go v (inl q) = inl (lt-around A l r v u q)
      go v (inr q) = inr (ap (around l r) q)

  -- above its leading word a multiple has no coefficient
  pub coeff-above : {g : Poly} → Led K O g → (l r w : Word) → Lt O (around l r (lead g)) w → coeff K (shift l r g) w ≡ 0
  coeff-above {g} h l r w p =
      coeff-none F (shift l r g) w (all_map (λ t q. lt-ne A _ w (le_lt_trans A _ _ w q p)) (shift-words-le l r (lead g) g (words-le h)))

  -- nor has the multiple divided by the leading coefficient
  pub coeff-monic-above : {g : Poly} → Led K O g → (l r w : Word) → Lt O (around l r (lead g)) w → coeff K (shift l r (monic K g)) w ≡ 0
  unfolding monic
  coeff-monic-above {g} h l r w p =
      rw (shift-scale K l r (inv (lead_coef g)) g, coeff-scale F, coeff-above h l r w p) (mul-zero F (inv (lead_coef g)))

  pub below_times : (G : Family) (c : ℕ) (x y m : Word) (zs : List Line)
      → All (λ z. Lt O (top G z) m) zs → All (λ z. Lt O (top G z) (around x y m)) (times K c x y zs)
  unfolding times top
  below_times G c x y m [] done = done
  below_times G c x y m (z ∷ zs) (p also ps) = q also below_times G c x y m zs ps
    where
      q : Lt O (around (x ++ z.left) (z.right ++ y) (lead (G z.of))) (around x y m)
      q = rw (← around-around z.left z.right x y (lead (G z.of))) (lt-around A x y _ _ p)

  -- what a resolved pair says at a word
  pub coeff_resolved : {G : Family} {i j : ℕ} {l r l' r' : Word} (q : Resolved K O G i l r j l' r') (w : Word)
      → coeff K (shift l r (monic K (G i))) w ≡ add (coeff K (shift l' r' (monic K (G j))) w) (coeff K (value K G q.lines) w)
  unfolding sub
  coeff_resolved {G} {i} {j} {l} {r} {l'} {r'} q w =
      sym (red-coeff F (shift l r (monic K (G i))) w)
      ∙ eq_add_of_sub_eq F _ _ _
      (sym (coeff-append F (shift l r (monic K (G i))) (scale K (neg 1) (shift l' r' (monic K (G j)))) w ∙ rw (coeff-scale F)) ∙ q.equal w)

  module _ (G : Family) (leads : (i : ℕ) → (G i ≡ []) ⊎ Led K O (G i)) where
    pub coeff_no_poly : {g : Poly} → g ≡ [] → (l r w : Word) → coeff K (shift l r g) w ≡ 0
    unfolding shift
    coeff_no_poly e l r w = rw e (coeff-nil F w)

    -- lines below a word have no coefficient at it
    pub coeff-below : (m : Word) (ys : List Line) → All (λ z. Lt O (top G z) m) ys → coeff K (value K G ys) m ≡ 0
    unfolding value top
    coeff-below m [] done = coeff-nil F m
    coeff-below m (y ∷ ys) (p also ps) =
        coeff-value-cons F G y ys m ∙ rw (coeff-below m ys ps, none (leads y.of), mul-zero F, zero-add F, red-zero F)
      where
        none : (G y.of ≡ []) ⊎ Led K O (G y.of) → coeff K (shift y.left y.right (G y.of)) m ≡ 0
        none (inl e) = coeff_no_poly e y.left y.right m
        none (inr h) = coeff-above h y.left y.right m p
