-- Laws of multiples, lines and their values.
use mathlib.Core.Path.{◌≡◌, refl, sym, ◌∙◌}
use mathlib.Core.List.{List, [], ◌∷◌, ◌++◌, append-nil}
use Prim.Native.Nat.{ℕ}
use Rattle.field.specs.Field.{Operations, Field}
use Rattle.field.proofs.Derived.{zero-add, mul-zero}
use Rattle.lists.specs.All.{All, done, ◌also◌}
use Rattle.words.specs.Word.{Word}
use Rattle.lists.proofs.Every.{all_append}
use Rattle.algebra.specs.Poly.{Poly, coeff, scale, shift}
use Rattle.algebra.specs.Ideal.{Family, Line, product, value, Over}
use Rattle.algebra.proofs.Coefficients.{around-around, coeff-nil, red-coeff, coeff-append, coeff-scale}

pub shift-append : (l r : Word) (f g : Poly) → shift l r (f ++ g) ≡ shift l r f ++ shift l r g
unfolding shift
shift-append l r [] g = refl
shift-append l r (t ∷ f) g = rw (shift-append l r f g)

pub shift-shift : (x y l r : Word) (f : Poly) → shift x y (shift l r f) ≡ shift (x ++ l) (r ++ y) f
unfolding shift
shift-shift x y l r [] = refl
shift-shift x y l r (t ∷ f) = rw (shift-shift x y l r f, around-around l r x y t.word)

pub shift-nil : (f : Poly) → shift [] [] f ≡ f
unfolding shift
shift-nil [] = refl
shift-nil (t ∷ f) = rw (shift-nil f, append-nil)

pub shift-scale : (K : Operations) (l r : Word) (c : ℕ) (f : Poly) → shift l r (scale K c f) ≡ scale K c (shift l r f)
unfolding shift scale
shift-scale K l r c [] = refl
shift-scale K l r c (t ∷ f) = rw (shift-scale K l r c f)

-- a multiple of a multiple
pub scale-scale : {K : Operations} → Field K → (a b : ℕ) (f : Poly) → scale K a (scale K b f) ≡ scale K (K.mul a b) f
unfolding scale
scale-scale F a b [] = refl
scale-scale F a b (t ∷ f) = rw (F.mul_assoc a b t.coef, scale-scale F a b f)

-- each line becomes c × x × line × y
unfoldable pub times : Operations → ℕ → Word → Word → List Line → List Line
times K c x y [] = []
times K c x y (z ∷ zs) =
    record { coef = K.mul c z.coef; left = x ++ z.left; of = z.of; right = z.right ++ y } ∷ times K c x y zs

pub over_times : (L : ℕ → Type 0) (K : Operations) (c : ℕ) (x y : Word) (zs : List Line)
    → All L x → All L y → All (Over L) zs → All (Over L) (times K c x y zs)
unfolding times
over_times L K c x y [] p q h = done
over_times L K c x y (z ∷ zs) p q (h also hs) = (all_append p h.0, all_append h.1 q) also over_times L K c x y zs p q hs

module _ {K : Operations} (F : Field K) (G : Family) where
  open K use {add, mul}
  open F use {add_assoc, mul_assoc, mul-add}

  pub coeff-value-cons : (x : Line) (xs : List Line) (w : Word)
      → coeff K (value K G (x ∷ xs)) w ≡ add (mul x.coef (coeff K (shift x.left x.right (G x.of)) w)) (coeff K (value K G xs) w)
  unfolding value product
  coeff-value-cons x xs w = coeff-append F (product K G x) (value K G xs) w ∙ rw (coeff-scale F)

  pub coeff-value-append : (xs ys : List Line) (w : Word)
      → coeff K (value K G (xs ++ ys)) w ≡ add (coeff K (value K G xs) w) (coeff K (value K G ys) w)
  unfolding value
  coeff-value-append [] ys w = sym (zero-add F _ ∙ red-coeff F (value K G ys) w) ∙ rw (coeff-nil F)
  coeff-value-append (x ∷ xs) ys w =
      rw (coeff-value-cons x (xs ++ ys) w, coeff-value-cons x xs w, coeff-value-append xs ys w, add_assoc)

  coeff-shift-value-cons : (x y : Word) (z : Line) (zs : List Line) (w : Word)
      → coeff K (shift x y (value K G (z ∷ zs))) w
      ≡ add (mul z.coef (coeff K (shift (x ++ z.left) (z.right ++ y) (G z.of)) w)) (coeff K (shift x y (value K G zs)) w)
  unfolding value product
  coeff-shift-value-cons x y z zs w =
      rw (shift-append x y (product K G z) (value K G zs), coeff-append F, shift-scale, shift-shift x y z.left z.right (G z.of), coeff-scale F)

  -- the value of c × x × lines × y
  pub coeff_times : (c : ℕ) (x y : Word) (zs : List Line) (w : Word)
      → coeff K (value K G (times K c x y zs)) w ≡ mul c (coeff K (shift x y (value K G zs)) w)
  unfolding times value shift
  coeff_times c x y [] w = coeff-nil F w ∙ sym (rw (coeff-nil F) (mul-zero F c))
  coeff_times c x y (z ∷ zs) w =
      coeff-value-cons _ (times K c x y zs) w ∙ rw (coeff_times c x y zs w, coeff-shift-value-cons x y z zs w, mul-add, mul_assoc)
