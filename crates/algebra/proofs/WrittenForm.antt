-- Each formal sum has exactly one written form (source document 002, (3.1.1)).
-- The first term of a written form has its word's coefficient (`coeff-first`), and words above it have none (`coeff-over`); so two written forms of
-- one polynomial begin with the same term, and so on behind it (`written_unique`). The computed written form is the one (`is_written`), and two
-- formal sums are equal as polynomials exactly if theirs are one list (`same_iff_written`). The rest is what code needs: properties of all words
-- (`written_all`), the written form by index (`written_by_index`), multiples of one (`written_multiple`), and factors that change nothing (`scale_kept`).
use mathlib.Core.Path.{◌≡◌, refl, sym, ◌∙◌, ap, ap₂}
use mathlib.Core.Logic.{◌≢◌, ◌⊎◌, inl, inr, ◌↔◌}
use mathlib.Core.List.{[], ◌∷◌, ◌++◌}
use Prim.Native.Nat.{ℕ, suc, ◌<◌}
use native.Mathlib.Omega.{arith}
use lib.ListN.{length, get_or}
use Rattle.field.specs.Field.{Operations, Field}
use Rattle.field.proofs.Derived.{one_mul, add_left_cancel, eq_of_sub_eq_zero, mul-ne-zero}
use Rattle.lists.specs.All.{All, done, ◌also◌}
use Rattle.words.specs.Word.{Word, around}
use Rattle.words.specs.Order.{Order, Lt, Admissible}
use Rattle.lists.proofs.Every.{all_map, all_both}
use Rattle.words.proofs.Admissible.{lt-ne, lt-around, trichotomy}
use Rattle.algebra.specs.Poly.{Term, Poly, where_same, coeff, Same, scale, shift, sub}
use Rattle.algebra.specs.Written.{Written, zero, term, plus, written}
use Rattle.algebra.specs.Groebner.{Led, led}
use Rattle.algebra.proofs.Coefficients.{where_same_lem, word_discrete, scale-words, shift-words, coeff-nil, coeff-cons, coeff_skip, red-coeff, coeff-sub, coeff-none}
use Rattle.algebra.proofs.Insertion.{plus-same, plus-written, written-coeff, written-written}

pub same_of_sub : {K : Operations} (F : Field K) (f g : Poly) → Same K (sub K f g) [] → Same K f g
same_of_sub F f g h w =
    sym (red-coeff F f w) ∙ eq_of_sub_eq_zero F _ _ (sym (coeff-sub F f g w) ∙ h w ∙ coeff-nil F w) ∙ red-coeff F g w

module _ {K : Operations} (F : Field K) {O : Order} (A : Admissible O) where
  open F use {red_elem, red-lt, red-mul, add-zero}

  -- the first term of a written form leads
  pub written-led : (f : Poly) → Written K O f → (f ≡ []) ⊎ Led K O f
  written-led [] zero = inl refl
  written-led (t ∷ f) (term a b c d) = inr (led (λ e. b (sym (red_elem t.coef a) ∙ e)) c)

  pub coeff-first : (t : Term) (f : Poly) → t.coef < K.size → All (λ s. Lt O s.word t.word) f → coeff K (t ∷ f) t.word ≡ t.coef
  coeff-first t f a b =
      coeff-cons F t f t.word
      ∙ rw (where_same_lem t.word t.word t.coef refl, coeff-none F f t.word (all_map (λ s p. lt-ne A _ _ p) b), add-zero) (red_elem t.coef a)

  pub coeff-over : (t : Term) (f : Poly) (w : Word) → All (λ s. Lt O s.word t.word) f → Lt O t.word w → coeff K (t ∷ f) w ≡ 0
  coeff-over t f w b p = coeff-none F (t ∷ f) w (lt-ne A _ w p also all_map (λ s q. lt-ne A _ w (A.trans _ _ w q p)) b)

  -- two written forms of one polynomial are one list
  pub written_unique : {f g : Poly} → Written K O f → Written K O g → Same K f g → f ≡ g
  written_unique zero zero h = refl
  written_unique zero (term {t} {f = g} a b c d) h = absurd (b (sym (h t.word ∙ coeff-first t g a c) ∙ coeff-nil F t.word))
  written_unique (term {t} {f} a b c d) zero h = absurd (b (sym (coeff-first t f a c) ∙ h t.word ∙ coeff-nil F t.word))
  written_unique (term {t} {f} a b c d) (term {t = s} {f = g} a' b' c' d') h = go (trichotomy A t.word s.word) (written_unique d d')
    where
      go : Lt O t.word s.word ⊎ ((t.word ≡ s.word) ⊎ Lt O s.word t.word) → (Same K f g → f ≡ g) → t ∷ f ≡ s ∷ g
      go (inl p) r = absurd (b' (sym (coeff-first s g a' c') ∙ sym (h s.word) ∙ coeff-over t f s.word c p))
      go (inr (inr p)) r = absurd (b (sym (coeff-first t f a c) ∙ h t.word ∙ coeff-over s g t.word c' p))
      go (inr (inl p)) r = ap₂ ◌∷◌ (λ i. record { coef = e i; word = p i }) (r same)
        where
          e : t.coef ≡ s.coef
          e = sym (coeff-first t f a c) ∙ h t.word ∙ rw p (coeff-first s g a' c')

          same : Same K f g
          same w =
              sym (red-coeff F f w)
              ∙ add_left_cancel F (where_same t.word w t.coef) _ _ (sym (coeff-cons F t f w) ∙ h w ∙ coeff-cons F s g w ∙ rw (p, e))
              ∙ red-coeff F g w

  -- a written form of g is the one that is computed
  pub is_written : {f : Poly} (g : Poly) → Written K O f → Same K f g → f ≡ written K O g
  is_written g c s = written_unique c (written-written F A g) (λ w. s w ∙ sym (written-coeff F A g w))

  pub written_of_written : {f : Poly} → Written K O f → written K O f ≡ f
  written_of_written {f} c = sym (is_written f c (λ w. refl))

  -- the computed sum of a written form and any terms is the written form of their sum
  pub plus_is_written : (f g : Poly) → Written K O f → plus K O f g ≡ written K O (f ++ g)
  plus_is_written f g c = is_written (f ++ g) (plus-written F A f g c) (plus-same F A f g)

  -- two formal sums are equal as polynomials exactly if their written forms are one list
  pub same_iff_written : (f g : Poly) → Same K f g ↔ (written K O f ≡ written K O g)
  same_iff_written f g = (
    λ s. written_unique (written-written F A f) (written-written F A g) (λ w. written-coeff F A f w ∙ s w ∙ sym (written-coeff F A g w)),
    λ e w. sym (written-coeff F A f w) ∙ ap (λ (h : Poly). coeff K h w) e ∙ written-coeff F A g w,
  )

  -- each term of a written form holds its word's coefficient
  pub written_coeffs : {f : Poly} → Written K O f → All (λ t. (coeff K f t.word ≡ t.coef) × (t.coef ≢ 0)) f
  written_coeffs zero = done
  written_coeffs (term {t} {f} a b c d) =
      (coeff-first t f a c, b)
      also all_map (λ s h. (coeff_skip F t f s.word (λ e. lt-ne A _ _ h.0 (sym e)) ∙ h.1.0, h.1.1)) (all_both c (written_coeffs d))

  -- what holds of every word that has a coefficient holds of every word of the written form
  pub written_all : (P : Word → Type 0) {f : Poly} → Written K O f → ((u : Word) → coeff K f u ≢ 0 → P u) → All (λ t. P t.word) f
  written_all P zero h = done
  written_all P (term {t} {f} a b c d) h =
      h t.word (λ e. b (sym (coeff-first t f a c) ∙ e)) also written_all P d (λ u n. h u (tail_coeff u n))
    where
      tail_coeff : (u : Word) → coeff K f u ≢ 0 → coeff K (t ∷ f) u ≢ 0
      tail_coeff u n e = go (word_discrete t.word u)
        where
          go : Dec (t.word ≡ u) → ⊥
          go (yes p) = n (coeff-none F f u (all_map (λ s q x. lt-ne A _ _ q (x ∙ sym p)) c))
          go (no p) = n (sym (coeff_skip F t f u p) ∙ e)

  -- neighbours that fall all fall below the first
  falls : (t : Term) (f : Poly) (d : Term)
      → ((i : ℕ) → i < length f → Lt O (get_or f i d).word (get_or (t ∷ f) i d).word) → All (λ s. Lt O s.word t.word) f
  falls t [] d g = done
  falls t (s ∷ f) d g =
      g 0 (omega arith) also all_map (λ r p. A.trans _ _ _ p (g 0 (omega arith))) (falls s f d (λ i p. g (suc i) (omega arith)))

  -- the written form by index, as code on slices has it: each word is below the one before
  pub written_by_index : (f : Poly) (d : Term) → ((i : ℕ) → i < length f → ((get_or f i d).coef < K.size) × ((get_or f i d).coef ≢ 0))
      → ((i : ℕ) → suc i < length f → Lt O (get_or f (suc i) d).word (get_or f i d).word) → Written K O f
  written_by_index [] d h g = zero
  written_by_index (t ∷ f) d h g =
      term (h 0 (omega arith)).0 (h 0 (omega arith)).1
      (falls t f d (λ i p. g i (omega arith)))
      (written_by_index f d (λ i p. h (suc i) (omega arith)) (λ i p. g (suc i) (omega arith)))

  -- a factor that changes no element changes no polynomial in written form; 1 is such a factor
  pub scale_kept : (c : ℕ) → ((a : ℕ) → K.mul c a ≡ K.red a) → {f : Poly} → Written K O f → scale K c f ≡ f
  unfolding scale
  scale_kept c h zero = refl
  scale_kept c h (term {t} {f} a b d w) =
      let e : K.mul c t.coef ≡ t.coef = h t.coef ∙ F.red_elem t.coef a in
      rw e (ap (λ (g : Poly). record { coef = t.coef; word = t.word } ∷ g) (scale_kept c h w))

  pub scale_one : {f : Poly} → Written K O f → scale K 1 f ≡ f
  scale_one = scale_kept 1 (one_mul F)

  -- a multiple of a written form is one
  pub written_multiple : (c : ℕ) (l r : Word) {f : Poly} → K.red c ≢ 0 → Written K O f → Written K O (scale K c (shift l r f))
  unfolding scale shift
  written_multiple c l r n zero = zero
  written_multiple c l r n (term {t} {f} a b h d) =
      term
      (rw (red-mul c t.coef) at (red-lt (K.mul c t.coef)))
      (mul-ne-zero F c t.coef n (λ e. b (sym (red_elem t.coef a) ∙ e)))
      (scale-words K (λ u. Lt O u (around l r t.word)) c (shift l r f)
      (shift-words (λ u. Lt O u t.word) (λ u. Lt O u (around l r t.word)) l r (λ u p. lt-around A l r u t.word p) f h))
      (written_multiple c l r n d)
