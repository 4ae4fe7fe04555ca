-- The sums over a family are closed under what an ideal is closed under, and "differ by such a sum" is an equivalence.
use mathlib.Core.Path.{refl, sym, ◌∙◌}
use mathlib.Core.List.{List, [], ◌∷◌, ◌++◌}
use Prim.Native.Nat.{ℕ}
use Rattle.field.specs.Field.{Operations, Field}
use Rattle.field.proofs.Derived.{one_mul, sub_self, sub_add_sub_cancel, neg-sub}
use Rattle.lists.specs.All.{All, done, ◌also◌}
use Rattle.words.specs.Word.{Word}
use Rattle.lists.proofs.Every.{all_map, all_append}
use Rattle.algebra.specs.Poly.{Poly, Same, scale, shift, sub}
use Rattle.algebra.specs.Ideal.{Family, Line, product, value, Over, InIdeal}
use Rattle.algebra.proofs.Coefficients.{coeff-nil, red-coeff, coeff-append, coeff-scale, coeff-sub, shift_same}
use Rattle.algebra.proofs.Lines.{shift-nil, times, over_times, coeff-value-cons, coeff-value-append, coeff_times}

module _ {L : ℕ → Type 0} {K : Operations} (F : Field K) where
  open K use {neg}
  open F use {add-zero}

  module _ {G : Family} where
    pub ideal_same : {f g : Poly} → Same K f g → InIdeal L K G g → InIdeal L K G f
    ideal_same s h = record { lines = h.lines; words = h.words; equal = λ w. s w ∙ h.equal w }

    pub ideal_zero : InIdeal L K G []
    unfolding value
    ideal_zero = record { lines = []; words = done; equal = λ w. refl }

    pub ideal_add : {f g : Poly} → InIdeal L K G f → InIdeal L K G g → InIdeal L K G (f ++ g)
    ideal_add {f} {g} a b = record {
      lines = a.lines ++ b.lines;
      words = all_append a.words b.words;
      equal = λ w. coeff-append F f g w ∙ rw (a.equal w, b.equal w, coeff-value-append F G a.lines b.lines w);
    }

    -- c × x × f × y
    pub ideal_times : (c : ℕ) {x y : Word} {f : Poly} → All L x → All L y → InIdeal L K G f → InIdeal L K G (scale K c (shift x y f))
    ideal_times c {x} {y} {f} p q a = record {
      lines = times K c x y a.lines;
      words = over_times L K c x y a.lines p q a.words;
      equal = λ w. coeff-scale F c (shift x y f) w ∙ rw (shift_same F x y f (value K G a.lines) a.equal w, coeff_times F G);
    }

    pub ideal_scale : (c : ℕ) {f : Poly} → InIdeal L K G f → InIdeal L K G (scale K c f)
    ideal_scale c {f} a = rw shift-nil at (ideal_times c done done a)

    pub ideal_sub : {f g : Poly} → InIdeal L K G f → InIdeal L K G g → InIdeal L K G (sub K f g)
    unfolding sub
    ideal_sub a b = ideal_add a (ideal_scale (neg 1) b)

    -- each polynomial of the family
    pub ideal_member : (i : ℕ) → InIdeal L K G (G i)
    unfolding value product
    ideal_member i = record {
      lines = alone ∷ [];
      words = (done, done) also done;
      equal = λ w. sym (coeff-value-cons F G alone [] w ∙ simp (coeff-nil F, shift-nil, one_mul F, add-zero, red-coeff F));
    }
      where
        alone : Line
        alone = record { coef = 1; left = []; of = i; right = [] }

    pub differ_refl : (f : Poly) → InIdeal L K G (sub K f f)
    differ_refl f = ideal_same (λ w. coeff-sub F f f w ∙ rw (sub_self F) (sym (coeff-nil F w))) ideal_zero

    pub differ_symm : (f g : Poly) → InIdeal L K G (sub K f g) → InIdeal L K G (sub K g f)
    differ_symm f g a =
        ideal_same (λ w. coeff-sub F g f w ∙ sym (coeff-scale F (neg 1) (sub K f g) w ∙ rw (coeff-sub F) (neg-sub F _ _))) (ideal_scale (neg 1) a)

    pub differ_trans : (f g h : Poly) → InIdeal L K G (sub K f g) → InIdeal L K G (sub K g h) → InIdeal L K G (sub K f h)
    differ_trans f g h a b =
        ideal_same
        (λ w. coeff-sub F f h w ∙ sym (coeff-append F (sub K f g) (sub K g h) w ∙ rw (coeff-sub F f g, coeff-sub F g h) (sub_add_sub_cancel F _ _ _)))
        (ideal_add a b)

  -- where each polynomial of one family is a sum over the other, each sum over the one is a sum over the other
  pub ideal_trans : {H G : Family} → ((i : ℕ) → InIdeal L K H (G i)) → {f : Poly} → InIdeal L K G f → InIdeal L K H f
  unfolding value product
  ideal_trans {H} {G} h {f} a = ideal_same a.equal (go a.lines a.words)
    where
      go : (xs : List Line) → All (Over L) xs → InIdeal L K H (value K G xs)
      go [] t = ideal_zero
      go (x ∷ xs) (t also ts) = ideal_add (ideal_times x.coef t.0 t.1 (h x.of)) (go xs ts)

-- more letters allow the same sums
pub ideal_weaken : {L M : ℕ → Type 0} {K : Operations} → ((a : ℕ) → L a → M a) → {G : Family} {f : Poly} → InIdeal L K G f → InIdeal M K G f
ideal_weaken h a = record {
  lines = a.lines;
  words = all_map (λ z o. (all_map h o.0, all_map h o.1)) a.words;
  equal = a.equal;
}
