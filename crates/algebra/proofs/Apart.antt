-- Two leading words that stand apart in a word: their two multiples are resolved (`resolved_apart`).
-- The word is l × u × e × v × r, where u leads f and v leads g, both divided by their leading coefficients. All products of l, a term of f, e, a
-- term of g, and r are summed by f's terms (`left_sum`) and by g's (`right_sum`); the two sums are equal (`sums-equal`). The first is
-- l × u × e × g × r and lines for the lower terms of f (`left-led`, `left-value`), the second l × f × e × v × r and lines for the lower terms of g
-- (`right-led`, `right-value`). So the two multiples differ by these lines, and each of them is below the word (`left_below`, `right-below`).
use mathlib.Core.Path.{◌≡◌, refl, sym, ◌∙◌}
use mathlib.Core.List.{List, [], ◌∷◌, ◌++◌, append_assoc, append-nil}
use Prim.Native.Nat.{ℕ}
use Rattle.field.specs.Field.{Operations, Field}
use Rattle.field.proofs.Derived.{red-zero, zero-add, one_mul, mul-zero, add_add_add_comm, sub-eq-sub_of_add-eq-add}
use Rattle.lists.specs.All.{All, done, ◌also◌}
use Rattle.words.specs.Word.{Word, around}
use Rattle.words.specs.Order.{Order, Lt, Admissible}
use Rattle.lists.proofs.Every.{all_append}
use Rattle.words.proofs.Admissible.{lt-around}
use Rattle.algebra.specs.Poly.{Term, Poly, coeff, scale, shift}
use Rattle.algebra.specs.Ideal.{Family, Line, value}
use Rattle.algebra.specs.Groebner.{lead, lead_coef, Led, led, monic, top, Resolved}
use Rattle.algebra.proofs.Coefficients.{scale-words, coeff-nil, red-coeff, coeff-append, coeff-scale, coeff-sub, coeff-shift-cons, where_swap}
use Rattle.algebra.proofs.Lines.{shift-nil, shift-scale, times, coeff-value-cons, coeff-value-append, coeff_times}
use Rattle.algebra.proofs.Leading.{below_times}

-- all terms but the first
unfoldable rest : Poly → Poly
rest [] = []
rest (t ∷ f) = f

module _ {K : Operations} (F : Field K) (l e r : Word) where
  open K use {add, mul, neg, inv}
  open F use {add-zero, mul_comm, mul_assoc, mul-add, mul-inv}

  -- l × f × e × g × r, summed by the terms of f
  left_sum : Poly → Poly → Poly
  left_sum [] g = []
  left_sum (t ∷ f) g = scale K t.coef (shift (around l e t.word) r g) ++ left_sum f g

  -- the same, summed by the terms of g
  right_sum : Poly → Poly → Poly
  right_sum f [] = []
  right_sum f (s ∷ g) = scale K s.coef (shift l (around e r s.word) f) ++ right_sum f g

  coeff-left : (t : Term) (f g : Poly) (w : Word)
      → coeff K (left_sum (t ∷ f) g) w ≡ add (mul t.coef (coeff K (shift (around l e t.word) r g) w)) (coeff K (left_sum f g) w)
  unfolding left_sum
  coeff-left t f g w = coeff-append F (scale K t.coef (shift (around l e t.word) r g)) (left_sum f g) w ∙ rw (coeff-scale F)

  coeff-right : (s : Term) (f g : Poly) (w : Word)
      → coeff K (right_sum f (s ∷ g)) w ≡ add (mul s.coef (coeff K (shift l (around e r s.word) f) w)) (coeff K (right_sum f g) w)
  unfolding right_sum
  coeff-right s f g w = coeff-append F (scale K s.coef (shift l (around e r s.word) f)) (right_sum f g) w ∙ rw (coeff-scale F)

  right-nil : (g : Poly) (w : Word) → coeff K (right_sum [] g) w ≡ 0
  unfolding right_sum shift
  right-nil [] w = coeff-nil F w
  right-nil (s ∷ g) w = coeff-right s [] g w ∙ rw (right-nil g w, coeff-nil F, mul-zero F, zero-add F) (red-zero F)

  right-cons : (t : Term) (f g : Poly) (w : Word)
      → coeff K (right_sum (t ∷ f) g) w ≡ add (mul t.coef (coeff K (shift (around l e t.word) r g) w)) (coeff K (right_sum f g) w)
  unfolding right_sum shift
  right-cons t f [] w = rw (coeff-nil F, mul-zero F, add-zero) (sym (red-zero F))
  right-cons t f (s ∷ g) w = coeff-right s (t ∷ f) g w
      ∙ rw (right-cons t f g w, coeff-shift-cons F l (around e r s.word) t f w, mul-add)
      (sym (rw (
        coeff-right s f g w,
        coeff-shift-cons F (around l e t.word) r s g w,
        mul-add,
        same,
        where_swap F _ w t.coef,
      ) (add_add_add_comm F _ _ _ _)))
    where
      same : around (around l e t.word) r s.word ≡ around l (around e r s.word) t.word
      same = simp append_assoc

  sums-equal : (f g : Poly) (w : Word) → coeff K (left_sum f g) w ≡ coeff K (right_sum f g) w
  unfolding left_sum
  sums-equal [] g w = coeff-nil F w ∙ sym (right-nil g w)
  sums-equal (t ∷ f) g w = coeff-left t f g w ∙ rw (sums-equal f g w) (sym (right-cons t f g w))

  module _ {O : Order} (A : Admissible O) where
    left-led : {g : Poly} → Led K O g → (h : Poly) (w : Word)
        → coeff K (left_sum (monic K g) h) w
        ≡ add (coeff K (shift (around l e (lead g)) r h) w) (coeff K (left_sum (scale K (inv (lead_coef g)) (rest g)) h) w)
    unfolding monic scale lead lead_coef rest
    left-led (led {t} {f} n b) h w = coeff-left _ _ h w ∙ rw (mul_comm (inv t.coef) t.coef, mul-inv t.coef n, one_mul F, red-coeff F)

    right-led : {g : Poly} → Led K O g → (f : Poly) (w : Word)
        → coeff K (right_sum f (monic K g)) w
        ≡ add (coeff K (shift l (around e r (lead g)) f) w) (coeff K (right_sum f (scale K (inv (lead_coef g)) (rest g))) w)
    unfolding monic scale lead lead_coef rest
    right-led (led {t} n b) f w = coeff-right _ f _ w ∙ rw (mul_comm (inv t.coef) t.coef, mul-inv t.coef n, one_mul F, red-coeff F)

    rest_below : {g : Poly} → Led K O g → (c : ℕ) → All (λ t. Lt O t.word (lead g)) (scale K c (rest g))
    unfolding lead rest
    rest_below (led {t} {f} n b) c = scale-words K (λ u. Lt O u t.word) c f b

    module _ (G : Family) where
      left_lines : ℕ → Poly → List Line
      left_lines j [] = []
      left_lines j (t ∷ f) = record { coef = mul t.coef (inv (lead_coef (G j))); left = around l e t.word; of = j; right = r } ∷ left_lines j f

      right_lines : ℕ → Poly → List Line
      right_lines i [] = []
      right_lines i (s ∷ g) = record { coef = mul s.coef (inv (lead_coef (G i))); left = l; of = i; right = around e r s.word } ∷ right_lines i g

      left-value : (j : ℕ) (f : Poly) (w : Word) → coeff K (value K G (left_lines j f)) w ≡ coeff K (left_sum f (monic K (G j))) w
      unfolding left_lines left_sum value monic
      left-value j [] w = refl
      left-value j (t ∷ f) w =
          coeff-value-cons F G _ (left_lines j f) w
          ∙ rw (left-value j f w, mul_assoc) (sym (coeff-left t f (monic K (G j)) w ∙ rw (shift-scale K (around l e t.word) r, coeff-scale F)))

      right-value : (i : ℕ) (g : Poly) (w : Word) → coeff K (value K G (right_lines i g)) w ≡ coeff K (right_sum (monic K (G i)) g) w
      unfolding right_lines right_sum value monic
      right-value i [] w = refl
      right-value i (s ∷ g) w =
          coeff-value-cons F G _ (right_lines i g) w
          ∙ rw (right-value i g w, mul_assoc) (sym (coeff-right s (monic K (G i)) g w ∙ rw (shift-scale K l (around e r s.word), coeff-scale F)))

      left_below : (j : ℕ) (u : Word) (f : Poly)
          → All (λ t. Lt O t.word u) f → All (λ z. Lt O (top G z) (around l (around e r (lead (G j))) u)) (left_lines j f)
      unfolding left_lines top
      left_below j u [] done = done
      left_below j u (t ∷ f) (p also ps) = q also left_below j u f ps
        where
          q : Lt O (around (around l e t.word) r (lead (G j))) (around l (around e r (lead (G j))) u)
          q = simp append_assoc (lt-around A l (around e r (lead (G j))) t.word u p)

      right-below : (i : ℕ) (u : Word) (g : Poly)
          → All (λ t. Lt O t.word u) g → All (λ z. Lt O (top G z) (around l (around e r u) (lead (G i)))) (right_lines i g)
      unfolding right_lines top
      right-below i u [] done = done
      right-below i u (s ∷ g) (p also ps) = q also right-below i u g ps
        where
          q : Lt O (around l (around e r s.word) (lead (G i))) (around l (around e r u) (lead (G i)))
          q = simp (← append_assoc) (simp (← append_assoc) at (lt-around A (around l e (lead (G i))) r s.word u p))

      pub resolved_apart : (i j : ℕ) → Led K O (G i) → Led K O (G j) → Resolved K O G i l (around e r (lead (G j))) j (around l e (lead (G i))) r
      resolved_apart i j li lj = record {
        lines = left_lines j a ++ times K (neg 1) [] [] (right_lines i b);
        below = all_append
            (left_below j (lead (G i)) a (rest_below li _))
            (rw append-nil at (below_times F A G (neg 1) [] [] _ (right_lines i b) (right-below i (lead (G j)) b (rest_below lj _))));
        equal = λ w. coeff-sub F _ _ w
            ∙ sub-eq-sub_of_add-eq-add F _ _ _ _ (sym (left-led li (monic K (G j)) w) ∙ sums-equal (monic K (G i)) (monic K (G j)) w ∙ right-led lj (monic K (G i)) w)
            ∙ sym (coeff-value-append F G (left_lines j a) (times K (neg 1) [] [] (right_lines i b)) w ∙ rw (coeff_times F G, shift-nil, left-value j a w, right-value i b w));
      }
        where
          a : Poly
          a = scale K (inv (lead_coef (G i))) (rest (G i))

          b : Poly
          b = scale K (inv (lead_coef (G j))) (rest (G j))
