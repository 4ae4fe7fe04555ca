-- Adding terms to a written form, one after the other: the coefficients add up, and the result is in written form.
-- In this order: `put`, one term before others, dropped where its coefficient is zero; `insert`, one term at its place, with a law for each place that
-- it can take; `plus`, the terms of a formal sum one after the other; `written`, the same from nothing. Of each it is shown that its words are
-- words of what is added (`plus-words`), that the coefficients add up (`plus-coeff`, `written-coeff`), and that it is in written form
-- (`plus-written`, `written-written`).
use mathlib.Core.Path.{◌≡◌, refl, sym, ◌∙◌, ap}
use mathlib.Core.Logic.{◌≢◌}
use mathlib.Core.List.{[], ◌∷◌, ◌++◌}
use Prim.Native.Nat.{ℕ}
use native.Mathlib.Decide.{ℕ_discrete}
use borrow.Author.Tests.{eq-eqb, ne_eqb}
use Rattle.field.specs.Field.{Operations, Field}
use Rattle.field.proofs.Derived.{red-zero, zero-add, red-add-left, add_left_comm}
use Rattle.std.specs.declared.cmp.Ordering.{Ordering}
use Rattle.std.specs.declared.cmp.Ordering.TheVariants.{Less, Equal, Greater}
use Rattle.lists.specs.All.{All, done, ◌also◌}
use Rattle.words.specs.Word.{Word}
use Rattle.words.specs.Order.{Order, Lt, Admissible}
use Rattle.lists.proofs.Every.{all_map}
use Rattle.words.proofs.Admissible.{lt_of_above}
use Rattle.algebra.specs.Poly.{Term, Poly, where_same, coeff, Same}
use Rattle.algebra.specs.Written.{Written, zero, term, put, insert, plus, written}
use Rattle.algebra.proofs.Coefficients.{word_discrete, where_same_lem, where_other, coeff-nil, coeff-cons, red-coeff, coeff-append}

module _ (K : Operations) where
  pub put-zero : (c : ℕ) (w : Word) (f : Poly) → K.red c ≡ 0 → put K c w f ≡ f
  unfolding put
  put-zero c w f e = rw (put, eq-eqb (K.red c) 0 e)

  pub put_some : (c : ℕ) (w : Word) (f : Poly) → K.red c ≢ 0 → put K c w f ≡ record { coef = K.red c; word = w } ∷ f
  unfolding put
  put_some c w f n = rw (put, ne_eqb (K.red c) 0 n)

  put-words : (P : Word → Type 0) (c : ℕ) (w : Word) (f : Poly) → P w → All (λ t. P t.word) f → All (λ t. P t.word) (put K c w f)
  put-words P c w f p ps = go (ℕ_discrete (K.red c) 0)
    where
      go : Dec (K.red c ≡ 0) → All (λ t. P t.word) (put K c w f)
      go (yes e) = rw (put-zero c w f e) ps
      go (no e) = rw (put_some c w f e) (◌also◌ {x = record { coef = K.red c; word = w }} p ps)

  -- where a term goes, as code finds the place
  module _ (O : Order) (t : Term) where
    pub insert-past : (s : Term) (f : Poly) → O t.word s.word ≡ Less → insert K O t (s ∷ f) ≡ s ∷ insert K O t f
    unfolding insert
    insert-past s f e = rw (insert, e)

    pub insert-onto : (s : Term) (f : Poly) → O t.word s.word ≡ Equal → insert K O t (s ∷ f) ≡ put K (K.add t.coef s.coef) s.word f
    unfolding insert
    insert-onto s f e = rw (insert, e)

    pub insert-before : (s : Term) (f : Poly) → O t.word s.word ≡ Greater → insert K O t (s ∷ f) ≡ put K t.coef t.word (s ∷ f)
    unfolding insert
    insert-before s f e = rw (insert, e)

    -- behind all terms with greater words
    pub insert-behind : (p f : Poly) → All (λ s. Lt O t.word s.word) p → insert K O t (p ++ f) ≡ p ++ insert K O t f
    insert-behind [] f done = refl
    insert-behind (s ∷ p) f (h also hs) = insert-past s (p ++ f) h ∙ ap (s ∷◌) (insert-behind p f hs)

  insert-words : (O : Order) (P : Word → Type 0) (t : Term) (f : Poly) → P t.word → All (λ s. P s.word) f → All (λ s. P s.word) (insert K O t f)
  unfolding insert
  insert-words O P t [] p done = put-words P t.coef t.word [] p done
  insert-words O P t (s ∷ f) p (q also qs) = go (O t.word s.word) refl (insert-words O P t f p qs)
    where
      go : (c : Ordering) → O t.word s.word ≡ c → All (λ s. P s.word) (insert K O t f) → All (λ s. P s.word) (insert K O t (s ∷ f))
      go Less e h = rw (insert-past O t s f e) (q also h)
      go Equal e h = rw (insert-onto O t s f e) (put-words P _ s.word f q qs)
      go Greater e h = rw (insert-before O t s f e) (put-words P t.coef t.word (s ∷ f) p (q also qs))

  -- every word of the sum is a word of one of the two
  pub plus-words : (O : Order) (P : Word → Type 0) (f g : Poly) → All (λ t. P t.word) f → All (λ t. P t.word) g → All (λ t. P t.word) (plus K O f g)
  unfolding plus
  plus-words O P f [] p done = p
  plus-words O P f (t ∷ g) p (q also qs) = plus-words O P (insert K O t f) g (insert-words O P t f q p) qs

  pub written-words : (O : Order) (P : Word → Type 0) (f : Poly) → All (λ t. P t.word) f → All (λ t. P t.word) (written K O f)
  unfolding written
  written-words O P f h = plus-words O P [] f done h

module _ {K : Operations} (F : Field K) {O : Order} (A : Admissible O) where
  open K use {red, add}
  open F use {red-lt, add-zero, add_assoc}

  where_red : (w u : Word) (c : ℕ) → where_same w u (red c) ≡ red (where_same w u c)
  where_red w u c = go (word_discrete w u)
    where
      go : Dec (w ≡ u) → where_same w u (red c) ≡ red (where_same w u c)
      go (yes e) = rw (where_same_lem w u c e, where_same_lem w u (red c) e)
      go (no e) = rw (where_other w u c e, where_other w u (red c) e) (sym (red-zero F))

  where_add : (w u : Word) (c d : ℕ) → where_same w u (add c d) ≡ add (where_same w u c) (where_same w u d)
  where_add w u c d = go (word_discrete w u)
    where
      go : Dec (w ≡ u) → where_same w u (add c d) ≡ add (where_same w u c) (where_same w u d)
      go (yes e) = rw (where_same_lem w u c e, where_same_lem w u d e, where_same_lem w u (add c d) e)
      go (no e) = rw (where_other w u c e, where_other w u d e, where_other w u (add c d) e, add-zero) (sym (red-zero F))

  where_zero : (w u : Word) → where_same w u 0 ≡ 0
  where_zero w u = go (word_discrete w u)
    where
      go : Dec (w ≡ u) → where_same w u 0 ≡ 0
      go (yes e) = where_same_lem w u 0 e
      go (no e) = where_other w u 0 e

  put-coeff : (c : ℕ) (w : Word) (f : Poly) (u : Word) → coeff K (put K c w f) u ≡ add (where_same w u c) (coeff K f u)
  put-coeff c w f u = go (ℕ_discrete (red c) 0)
    where
      go : Dec (red c ≡ 0) → coeff K (put K c w f) u ≡ add (where_same w u c) (coeff K f u)
      go (yes e) = rw (put-zero K c w f e, ← red-add-left F (where_same w u c), ← where_red, e, where_zero, zero-add F) (sym (red-coeff F f u))
      go (no e) = rw (put_some K c w f e, coeff-cons F, where_red, red-add-left F)

  put_written : (c : ℕ) (w : Word) (f : Poly) → All (λ s. Lt O s.word w) f → Written K O f → Written K O (put K c w f)
  put_written c w f b h = go (ℕ_discrete (red c) 0)
    where
      go : Dec (red c ≡ 0) → Written K O (put K c w f)
      go (yes e) = rw (put-zero K c w f e) h
      go (no e) = rw (put_some K c w f e) (term {t = record { coef = red c; word = w }} (red-lt c) e b h)

  pub insert-coeff : (t : Term) (f : Poly) (u : Word) → coeff K (insert K O t f) u ≡ add (where_same t.word u t.coef) (coeff K f u)
  unfolding insert
  insert-coeff t [] u = put-coeff t.coef t.word [] u
  insert-coeff t (s ∷ f) u = go (O t.word s.word) refl (insert-coeff t f u)
    where
      go : (c : Ordering) → O t.word s.word ≡ c
          → coeff K (insert K O t f) u ≡ add (where_same t.word u t.coef) (coeff K f u)
          → coeff K (insert K O t (s ∷ f)) u ≡ add (where_same t.word u t.coef) (coeff K (s ∷ f) u)
      go Less e h = rw (insert-past K O t s f e) (coeff-cons F s (insert K O t f) u ∙ rw (h, coeff-cons F s f u) (add_left_comm F _ _ _))
      go Equal e h =
          let p = A.equal t.word s.word e in
          rw (insert-onto K O t s f e) (put-coeff _ s.word f u ∙ rw (coeff-cons F s f u, p, where_add, add_assoc))
      go Greater e h = rw (insert-before K O t s f e) (put-coeff t.coef t.word (s ∷ f) u)

  pub insert-written : (t : Term) {f : Poly} → Written K O f → Written K O (insert K O t f)
  unfolding insert
  insert-written t zero = put_written t.coef t.word [] done zero
  insert-written t (term {t = s} {f = f} a b c d) = go (O t.word s.word) refl (insert-written t d)
    where
      go : (k : Ordering) → O t.word s.word ≡ k → Written K O (insert K O t f) → Written K O (insert K O t (s ∷ f))
      go Less e h = rw (insert-past K O t s f e) (term a b (insert-words K O (λ u. Lt O u s.word) t f e c) h)
      go Equal e h = rw (insert-onto K O t s f e) (put_written _ s.word f c d)
      go Greater e h =
          let x = lt_of_above A t.word s.word e in
          rw (insert-before K O t s f e) (put_written t.coef t.word (s ∷ f) (x also all_map (λ r y. A.trans _ _ _ y x) c) (term a b c d))

  -- the computed sum is the sum
  pub plus-coeff : (f g : Poly) (w : Word) → coeff K (plus K O f g) w ≡ add (coeff K f w) (coeff K g w)
  unfolding plus
  plus-coeff f [] w = sym (rw (coeff-nil F w, add-zero) (red-coeff F f w))
  plus-coeff f (t ∷ g) w = plus-coeff (insert K O t f) g w ∙ rw (insert-coeff t f w, coeff-cons F t g w, add_assoc) (add_left_comm F _ _ _)

  pub plus-same : (f g : Poly) → Same K (plus K O f g) (f ++ g)
  plus-same f g w = plus-coeff f g w ∙ sym (coeff-append F f g w)

  -- and it is in written form, where f is
  pub plus-written : (f g : Poly) → Written K O f → Written K O (plus K O f g)
  unfolding plus
  plus-written f [] c = c
  plus-written f (t ∷ g) c = plus-written (insert K O t f) g (insert-written t c)

  pub written-coeff : (f : Poly) → Same K (written K O f) f
  unfolding written
  written-coeff f w = plus-coeff [] f w ∙ rw (coeff-nil F w, zero-add F) (red-coeff F f w)

  pub written-written : (f : Poly) → Written K O (written K O f)
  unfolding written
  written-written f = plus-written [] f zero
