-- Laws of coefficients: of sums, multiples and differences of formal sums.
-- First words: whether two are the same is decided (`word_discrete`). Then: what holds of all words of f holds of all words of its multiples
-- (`shift-words`, `scale-words`). Then the coefficient of a word: in f + g, c × f and f - g (`coeff-append`, `coeff-scale`, `coeff-sub`), where no
-- term has the word (`coeff-none`), and that a word with a coefficient is the word of a term (`support`). At the end left × f × right: its
-- coefficient at left × word × right is f's at the word (`coeff-shift`), other words have none, so equal polynomials have equal multiples
-- (`shift_same`).
use mathlib.Core.Path.{◌≡◌, refl, sym, ◌∙◌, ap}
use mathlib.Core.Bool.{Bool, true, false, true≢false}
use mathlib.Core.Logic.{◌≢◌, ◌⊎◌, inl, inr}
use mathlib.Core.List.{[], ◌∷◌, ◌++◌, append_assoc, append_cancel_left, append_cancel_right}
use Prim.Native.Nat.{ℕ}
use Rattle.field.specs.Field.{Operations, Field}
use Rattle.field.proofs.Derived.{red-zero, zero-add, mul-zero}
use Rattle.lists.specs.All.{All, done, ◌also◌}
use Rattle.words.specs.Word.{Word, around}
use Rattle.lists.proofs.Every.{all_append}
use Rattle.algebra.specs.Poly.{Term, Poly, where_same, coeff, Same, scale, shift, sub, InLetters}
use Rattle.lists.specs.Same.{same}
use Rattle.lists.proofs.Sameness.{same-eq, same_refl}

pub word_discrete : (u v : Word) → Dec (u ≡ v)
word_discrete u v = go (same u v) refl
  where
    go : (t : Bool) → same u v ≡ t → Dec (u ≡ v)
    go true e = yes (same-eq u v e)
    go false e = no (λ p. true≢false (sym (same_refl v) ∙ rw p at e))

pub where_same_lem : (u w : Word) (c : ℕ) → u ≡ w → where_same u w c ≡ c
unfolding where_same
where_same_lem u w c e = rw (e, where_same, same_refl w)

pub where_other : (u w : Word) (c : ℕ) → u ≢ w → where_same u w c ≡ 0
unfolding where_same
where_other u w c n = go (same u w) refl
  where
    go : (t : Bool) → same u w ≡ t → ◌≡◌ {A = ℕ} (elim t [ true ↦ c | false ↦ 0 ]) 0
    go true e = absurd (n (same-eq u w e))
    go false e = refl

pub around_injective : (l r u v : Word) → around l r u ≡ around l r v → u ≡ v
around_injective l r u v e = append_cancel_right u v r (append_cancel_left l (u ++ r) (v ++ r) e)

pub around-around : (l r x y u : Word) → around x y (around l r u) ≡ around (x ++ l) (r ++ y) u
around-around l r x y u = simp append_assoc

pub shift-words : (P Q : Word → Type 0) (l r : Word) → ((u : Word) → P u → Q (around l r u))
    → (f : Poly) → All (λ t. P t.word) f → All (λ t. Q t.word) (shift l r f)
unfolding shift
shift-words P Q l r h [] done = done
shift-words P Q l r h (t ∷ f) (p also ps) = h t.word p also shift-words P Q l r h f ps

pub shift-letters : (L : ℕ → Type 0) (l r : Word) (f : Poly) → All L l → All L r → InLetters L f → InLetters L (shift l r f)
shift-letters L l r f a b = shift-words (All L) (All L) l r (λ u p. all_append a (all_append p b)) f

pub scale-words : (K : Operations) (P : Word → Type 0) (c : ℕ) (f : Poly) → All (λ t. P t.word) f → All (λ t. P t.word) (scale K c f)
unfolding scale
scale-words K P c [] done = done
scale-words K P c (t ∷ f) (p also ps) = p also scale-words K P c f ps

module _ {K : Operations} (F : Field K) where
  open K use {red, add, mul, neg}
  open F use {red-add, add_assoc, add-zero, mul_comm, mul-add}

  pub coeff-nil : (w : Word) → coeff K [] w ≡ 0
  unfolding coeff
  coeff-nil w = refl

  pub coeff-cons : (t : Term) (f : Poly) (w : Word) → coeff K (t ∷ f) w ≡ add (where_same t.word w t.coef) (coeff K f w)
  unfolding coeff
  coeff-cons t f w = refl

  pub red-coeff : (f : Poly) (w : Word) → red (coeff K f w) ≡ coeff K f w
  unfolding coeff
  red-coeff [] w = red-zero F
  red-coeff (t ∷ f) w = red-add (where_same t.word w t.coef) (coeff K f w)

  pub coeff_skip : (t : Term) (f : Poly) (w : Word) → t.word ≢ w → coeff K (t ∷ f) w ≡ coeff K f w
  coeff_skip t f w n = coeff-cons t f w ∙ rw (where_other t.word w t.coef n, zero-add F) (red-coeff f w)

  pub coeff-append : (f g : Poly) (w : Word) → coeff K (f ++ g) w ≡ add (coeff K f w) (coeff K g w)
  unfolding coeff
  coeff-append [] g w = simp (zero-add F, red-coeff)
  coeff-append (t ∷ f) g w = rw (coeff-append f g w, add_assoc)

  pub mul_where : (u w : Word) (c d : ℕ) → where_same u w (mul c d) ≡ mul c (where_same u w d)
  mul_where u w c d = go (word_discrete u w)
    where
      go : Dec (u ≡ w) → where_same u w (mul c d) ≡ mul c (where_same u w d)
      go (yes e) = rw (where_same_lem u w (mul c d) e, where_same_lem u w d e)
      go (no e) = rw (where_other u w (mul c d) e, where_other u w d e, mul-zero F)

  pub where_swap : (u w : Word) (c d : ℕ) → mul c (where_same u w d) ≡ mul d (where_same u w c)
  where_swap u w c d = sym (mul_where u w c d) ∙ rw (mul_comm c d) (mul_where u w d c)

  pub coeff-scale : (c : ℕ) (f : Poly) (w : Word) → coeff K (scale K c f) w ≡ mul c (coeff K f w)
  unfolding coeff scale
  coeff-scale c [] w = sym (mul-zero F c)
  coeff-scale c (t ∷ f) w = rw (coeff-scale c f w, mul_where t.word w c t.coef, mul-add)

  pub coeff-sub : (f g : Poly) (w : Word) → coeff K (sub K f g) w ≡ add (coeff K f w) (mul (neg 1) (coeff K g w))
  unfolding sub
  coeff-sub f g w = coeff-append f (scale K (neg 1) g) w ∙ rw coeff-scale

  -- a word that no term has
  pub coeff-none : (f : Poly) (w : Word) → All (λ t. t.word ≢ w) f → coeff K f w ≡ 0
  unfolding coeff
  coeff-none [] w h = refl
  coeff-none (t ∷ f) w (h also hs) = coeff_skip t f w h ∙ coeff-none f w hs

  -- a word with a coefficient is the word of a term
  pub support : (P : Word → Type 0) (f : Poly) → All (λ t. P t.word) f → (u : Word) → coeff K f u ≢ 0 → P u
  support P [] done u n = absurd (n (coeff-nil u))
  support P (t ∷ f) (p also ps) u n = go (word_discrete t.word u) (support P f ps u)
    where
      go : Dec (t.word ≡ u) → (coeff K f u ≢ 0 → P u) → P u
      go (yes e) r = rw e at p
      go (no e) r = r (λ z. n (coeff_skip t f u e ∙ z))

  where_around : (l r u v : Word) (c : ℕ) → where_same (around l r u) (around l r v) c ≡ where_same u v c
  where_around l r u v c = go (word_discrete u v)
    where
      go : Dec (u ≡ v) → where_same (around l r u) (around l r v) c ≡ where_same u v c
      go (yes e) = where_same_lem _ _ c (ap (around l r) e) ∙ sym (where_same_lem u v c e)
      go (no e) = where_other _ _ c (λ q. e (around_injective l r u v q)) ∙ sym (where_other u v c e)

  pub coeff-shift : (l r : Word) (f : Poly) (u : Word) → coeff K (shift l r f) (around l r u) ≡ coeff K f u
  unfolding coeff shift
  coeff-shift l r [] u = refl
  coeff-shift l r (t ∷ f) u = rw (coeff-shift l r f u, where_around l r t.word u t.coef)

  pub coeff-shift-cons : (l r : Word) (t : Term) (f : Poly) (w : Word)
      → coeff K (shift l r (t ∷ f)) w ≡ add (where_same (around l r t.word) w t.coef) (coeff K (shift l r f) w)
  unfolding coeff shift
  coeff-shift-cons l r t f w = refl

  -- w is left × some word × right, or no term of such a multiple has it
  Shifted : (l r w : Word) → Poly → Type 0
  Shifted l r w f = ((u : Word) × (around l r u ≡ w)) ⊎ All (λ t. t.word ≢ w) (shift l r f)

  shifted : (l r w : Word) (f : Poly) → Shifted l r w f
  unfolding Shifted shift
  shifted l r w [] = inr done
  shifted l r w (t ∷ f) = go (word_discrete (around l r t.word) w) (shifted l r w f)
    where
      go : Dec (around l r t.word ≡ w) → Shifted l r w f → Shifted l r w (t ∷ f)
      go (yes e) h = inl (t.word, e)
      go (no e) (inl h) = inl h
      go (no e) (inr h) = inr (e also h)

  -- equal polynomials have equal multiples
  pub shift_same : (l r : Word) (f g : Poly) → Same K f g → Same K (shift l r f) (shift l r g)
  unfolding Shifted
  shift_same l r f g h w = go (shifted l r w f) (shifted l r w g)
    where
      at : (u : Word) → around l r u ≡ w → coeff K (shift l r f) w ≡ coeff K (shift l r g) w
      at u e = rw (← e, coeff-shift l r f u, coeff-shift l r g u) (h u)

      go : Shifted l r w f → Shifted l r w g → coeff K (shift l r f) w ≡ coeff K (shift l r g) w
      go (inl a) b = at a.0 a.1
      go (inr a) (inl b) = at b.0 b.1
      go (inr a) (inr b) = coeff-none (shift l r f) w a ∙ sym (coeff-none (shift l r g) w b)
