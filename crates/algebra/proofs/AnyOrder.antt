-- Rewriting with free choice of word, place and polynomial: every sequence of steps ends, and under a certified basis all ends from one polynomial
-- are equal (source document 002, lemma 4.2.6 and theorem 4.3.4 (3); document 02, P12).
-- Steps end: a step takes one word of the polynomial away and changes nothing above that word (`step_drops`), and no such fall goes on for ever
-- (`drops_end`). That is shown by two inductions: on a word above all words of the polynomial (`under`), and for one first term t on what stands
-- behind it (`behind`). What is below t ∷ x has only words below t's, or it begins with t and is below x behind it (`split`).
-- The ends are equal: an end has no leading word inside (`end-reduced`), two ends differ by a sum over the basis (`steps_ideal`), and polynomials
-- of which both hold are equal (`reduced_unique` in Uniqueness.antt).
use mathlib.Core.Path.{◌≡◌, sym, ◌∙◌, ap}
use mathlib.Core.Logic.{◌≢◌, ◌⊎◌, inl, inr}
use mathlib.Core.List.{[], ◌∷◌}
use mathlib.Core.WellFounded.Subrelation
use mathlib.Core.WellFounded.{Acc}
use Prim.Native.Nat.{ℕ, ◌<◌}
use Rattle.field.specs.Field.{Operations, Field}
use Rattle.field.proofs.Derived.{mul-zero, sub_self, sub-add_self, neg-neg}
use Rattle.lists.specs.All.{All, ◌also◌}
use Rattle.words.specs.Word.{Word}
use Rattle.words.specs.Order.{Order, Lt, Admissible}
use Rattle.lists.proofs.Every.{all_map, all_of}
use Rattle.words.proofs.Admissible.{lt-ne, trichotomy}
use Rattle.algebra.specs.Poly.{Term, Poly, coeff, shift, sub}
use Rattle.algebra.specs.Written.{Written, zero, term, written}
use Rattle.algebra.specs.Ideal.{Family, InIdeal}
use Rattle.algebra.specs.Groebner.{lead, lead_coef, Inside, monic, Certified}
use Rattle.algebra.specs.Short.{Reduced, Accepted, Short}
use Rattle.algebra.specs.Rewriting.{taken, Step, Steps, stay, next, End}
use Rattle.algebra.proofs.Coefficients.{word_discrete, coeff-nil, coeff_skip, coeff-none, red-coeff, coeff-scale, coeff-sub, coeff-shift}
use Rattle.algebra.proofs.Sums.{ideal_same, ideal_scale, ideal_times, ideal_member, ideal_trans, ideal_weaken, differ_refl, differ_symm, differ_trans}
use Rattle.algebra.proofs.Leading.{coeff-monic-lead, coeff-monic-above}
use Rattle.algebra.proofs.Insertion.{written-coeff, written-written}
use Rattle.algebra.proofs.WrittenForm.{coeff-first, coeff-over, written_all}
use Rattle.algebra.proofs.Uniqueness.{reduced_unique}

-- g is below f: it lacks a word of f, and agrees with f above that word
record Drops (K : Operations) (O : Order) (g f : Poly) : Type 0 where
  word : Word
  has : coeff K f word ≢ 0
  lacks : coeff K g word ≡ 0
  agrees : (v : Word) → Lt O word v → coeff K g v ≡ coeff K f v
  written : Written K O g

module _ {K : Operations} (F : Field K) {O : Order} (A : Admissible O) where
  open F use {add-zero, mul_one}

  -- what is below t ∷ x lacks t's word, or begins with t and is below x behind it
  Split : (t : Term) (x g : Poly) → Type 0
  Split t x g = All (λ s. Lt O s.word t.word) g ⊎ ((h : Poly) × (g ≡ t ∷ h) × Drops K O h x × Written K O (t ∷ h))

  -- the word that g lacks is below t's
  split_below : (t : Term) (x : Poly) → t.coef < K.size → t.coef ≢ 0 → All (λ s. Lt O s.word t.word) x → Written K O x
      → {g : Poly} → Written K O g → (d : Drops K O g (t ∷ x)) → Lt O d.word t.word → Split t x g
  unfolding Split
  split_below t x p q r c zero d a = absurd (q (sym (coeff-first F A t x p r) ∙ sym (d.agrees t.word a) ∙ coeff-nil F t.word))
  split_below t x p q r c (term {t = s} {f = h} p' q' r' c') d a = go (trichotomy A s.word t.word)
    where
      at_t : coeff K (s ∷ h) t.word ≡ t.coef
      at_t = d.agrees t.word a ∙ coeff-first F A t x p r

      go : Lt O s.word t.word ⊎ ((s.word ≡ t.word) ⊎ Lt O t.word s.word) → Split t x (s ∷ h)
      go (inl y) = absurd (q (sym at_t ∙ coeff-over F A s h t.word r' y))
      go (inr (inr y)) = absurd (q' (sym (coeff-first F A s h p' r') ∙ d.agrees s.word (A.trans _ _ _ a y) ∙ coeff-over F A t x s.word r y))
      go (inr (inl y)) = inr (h, ap (◌∷ h) st, drops, rw st at (term p' q' r' c'))
        where
          coefs : s.coef ≡ t.coef
          coefs = sym (coeff-first F A s h p' r') ∙ ap (coeff K (s ∷ h)) y ∙ at_t

          st : s ≡ t
          st = λ i. record { coef = coefs i; word = y i }

          nt : t.word ≢ d.word
          nt z = lt-ne A _ _ a (sym z)

          ns : s.word ≢ d.word
          ns z = nt (sym y ∙ z)

          agrees : (v : Word) → Lt O d.word v → coeff K h v ≡ coeff K x v
          agrees v b = by (word_discrete t.word v)
            where
              by : Dec (t.word ≡ v) → coeff K h v ≡ coeff K x v
              by (yes z) =
                  coeff-none F h v (all_map (λ i m n. lt-ne A _ _ m (n ∙ sym z ∙ sym y)) r')
                  ∙ sym (coeff-none F x v (all_map (λ i m n. lt-ne A _ _ m (n ∙ sym z)) r))
              by (no z) = sym (coeff_skip F s h v (λ n. z (sym y ∙ n))) ∙ d.agrees v b ∙ coeff_skip F t x v z

          drops : Drops K O h x
          drops = record {
            word = d.word;
            has = λ z. d.has (coeff_skip F t x _ nt ∙ z);
            lacks = sym (coeff_skip F s h _ ns) ∙ d.lacks;
            agrees = agrees;
            written = c';
          }

  split : (t : Term) (x g : Poly) → Written K O (t ∷ x) → Written K O g → Drops K O g (t ∷ x) → Split t x g
  unfolding Split
  split t x g (term p q r c) cg d = by (trichotomy A d.word t.word)
    where
      above : (v : Word) → Lt O t.word v → Lt O d.word v → coeff K g v ≡ 0
      above v a b = d.agrees v b ∙ coeff-over F A t x v r a

      -- the word that g lacks is t's
      here : d.word ≡ t.word → (u : Word) → coeff K g u ≢ 0 → Lt O u t.word
      here e u n = at (trichotomy A u t.word)
        where
          at : Lt O u t.word ⊎ ((u ≡ t.word) ⊎ Lt O t.word u) → Lt O u t.word
          at (inl y) = y
          at (inr (inl y)) = absurd (n (rw (y ∙ sym e) d.lacks))
          at (inr (inr y)) = absurd (n (above u y (rw e y)))

      by : Lt O d.word t.word ⊎ ((d.word ≡ t.word) ⊎ Lt O t.word d.word) → Split t x g
      by (inl y) = split_below t x p q r c cg d y
      by (inr (inl y)) = inl (written_all F A (λ u. Lt O u t.word) cg (here y))
      by (inr (inr y)) = absurd (d.has (coeff-over F A t x d.word r y))

  -- the inner induction: on the polynomial behind the first term
  behind : (t : Term) → ((h : Poly) → Written K O h → All (λ s. Lt O s.word t.word) h → Acc (Drops K O) h)
      → (f : Poly) → Acc (Drops K O) f → Written K O (t ∷ f) → Acc (Drops K O) (t ∷ f)
  unfolding Split
  behind t low f (Acc.intro x h) c = Acc.intro (t ∷ x) (λ g d. go g d (λ g' d' c'. behind t low g' (h g' d') c') (split t x g c d.written d))
    where
      go : (g : Poly) → Drops K O g (t ∷ x) → ((g' : Poly) → Drops K O g' x → Written K O (t ∷ g') → Acc (Drops K O) (t ∷ g'))
          → Split t x g → Acc (Drops K O) g
      go g d rest (inl b) = low g d.written b
      go g d rest (inr (h, e, d', c')) = rw e (rest h d' c')

  -- the outer induction: on a word above all words of the polynomial
  under : (w : Word) → Acc (Lt O) w → (f : Poly) → Written K O f → All (λ s. Lt O s.word w) f → Acc (Drops K O) f
  under w (Acc.intro x h) [] c b = Acc.intro [] (λ g d. absurd (d.has (coeff-nil F d.word)))
  under w (Acc.intro x h) (t ∷ f) (term p q r c) (b also bs) =
      behind t (under t.word (h t.word b)) f (under t.word (h t.word b) f c r) (term p q r c)

  -- every fall below a polynomial in written form ends
  drops_end : (f : Poly) → Written K O f → Acc (Drops K O) f
  drops_end [] c = Acc.intro [] (λ g d. absurd (d.has (coeff-nil F d.word)))
  drops_end (t ∷ f) (term p q r c) =
      behind t (under t.word (A.wf t.word)) f (under t.word (A.wf t.word) f c r) (term p q r c)

  module _ (G : Family) where
    step_drops : {f h : Poly} → Step K O G f h → Drops K O h f
    unfolding taken
    step_drops {f} {h} s = record {
      word = s.word;
      has = s.has;
      lacks = s.equal s.word ∙ coeff-sub F f _ s.word ∙ rw (coeff-scale F, one, mul_one, red-coeff F) (sub_self F (coeff K f s.word));
      agrees = λ v a. s.equal v ∙ coeff-sub F f _ v ∙ rw (coeff-scale F, none v a, mul-zero F, mul-zero F, add-zero) (red-coeff F f v);
      written = s.written;
    }
      where
        l : Word
        l = s.place.left

        r : Word
        r = s.place.right

        g : Poly
        g = G s.place.of

        one : coeff K (shift l r (monic K g)) s.word ≡ 1
        one = ap (coeff K (shift l r (monic K g))) (sym s.place.fits) ∙ coeff-shift F l r (monic K g) (lead g) ∙ coeff-monic-lead F A s.place.real

        none : (v : Word) → Lt O s.word v → coeff K (shift l r (monic K g)) v ≡ 0
        none v a = coeff-monic-above F A s.place.real l r v (rw s.place.fits a)

    -- every sequence of steps comes to an end
    pub terminates : (f : Poly) → Acc (λ h g. Step K O G g h) f
    terminates f = Acc.intro f (λ h s. Subrelation.accessible (λ x y r. step_drops r) (drops_end h s.written))

    -- a polynomial in written form from which no step leads has no leading word inside
    pub end-reduced : {h : Poly} → Written K O h → End K O G h → Reduced K O G h
    end-reduced {h} c e = written_all F A (λ u. Inside K O G u → ⊥) c (λ u n p. e (written K O (sub K h (taken K O G h p)))
        (record { word = u; has = n; place = p; written = written-written F A _; equal = written-coeff F A _ }))

    step_ideal : {f h : Poly} → Step K O G f h → InIdeal (λ a. Unit {0}) K G (sub K f h)
    unfolding taken monic
    step_ideal {f} {h} s =
        ideal_same F
        (λ w. coeff-sub F f h w
        ∙ rw (s.equal w, coeff-sub F f (taken K O G f s.place) w) (sub-add_self F _ _ ∙ neg-neg F _ ∙ red-coeff F (taken K O G f s.place) w))
        (ideal_times F (coeff K f s.word) (all_of (λ a. tt) s.place.left) (all_of (λ a. tt) s.place.right)
        (ideal_scale F (K.inv (lead_coef (G s.place.of))) (ideal_member F s.place.of)))

    -- what steps take away is a sum over the basis
    pub steps_ideal : {f h : Poly} → Steps K O G f h → InIdeal (λ a. Unit {0}) K G (sub K f h)
    steps_ideal (stay {f}) = differ_refl F f
    steps_ideal (next {f} {g} {h} s r) = differ_trans F f g h (step_ideal s) (steps_ideal r)

    steps-written : {f h : Poly} → Written K O f → Steps K O G f h → Written K O h
    steps-written c stay = c
    steps-written c (next s r) = steps-written s.written r

    -- all ends from one polynomial are equal
    pub ends_unique : Certified K O G → {f M N : Poly} → Written K O f → Steps K O G f M → End K O G M → Steps K O G f N → End K O G N → M ≡ N
    ends_unique b {f} {M} {N} c sm em sn en =
        reduced_unique F A b cm (end-reduced cm em) cn (end-reduced cn en) (differ_trans F M f N (differ_symm F f M (steps_ideal sm)) (steps_ideal sn))
      where
        cm : Written K O M
        cm = steps-written c sm

        cn : Written K O N
        cn = steps-written c sn

    -- and a short form is that end
    pub short_is_end : {L : ℕ → Type 0} {H : Family} → Accepted L K O H G
        → {f M N : Poly} → Written K O f → Steps K O G f M → End K O G M → Short L K O H G f N → M ≡ N
    short_is_end acc {f} {M} {N} c sm em n =
        reduced_unique F A acc.certified cm (end-reduced cm em) n.written n.reduced
        (differ_trans F M f N (differ_symm F f M (steps_ideal sm)) (ideal_weaken (λ a l. tt) (ideal_trans F acc.relation_sums n.differs)))
      where
        cm : Written K O M
        cm = steps-written c sm
