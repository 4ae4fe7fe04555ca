-- Where any two multiples of basis polynomials with the same leading word differ by lines below it, a sum over the basis is zero, or its greatest
-- word holds a leading word (`zero_or_inside`; source document 002, 3.6.1, from (h) to (d), with 4.3.4 (2) for (h)).
-- By well-founded induction on the greatest word that the lines bring. One turn is `lower`: lines over the zero polynomial are left out (`clean`);
-- a line is found that brings the greatest word m (`greatest`); all lines that bring m are gathered into one multiple of that line's polynomial,
-- divided by its leading coefficient, and lines below m (`gather`; here the multiples with leading word m differ by lines below it). Where the
-- coefficient of that multiple is not zero, m is the greatest word of the sum, and a leading word stands inside it. Where it is zero, only lines
-- below m are left, and the next turn takes those (`descend`).
use mathlib.Core.Path.{◌≡◌, refl, sym, ◌∙◌, ap}
use mathlib.Core.Logic.{◌⊎◌, inl, inr}
use mathlib.Core.List.{List, [], ◌∷◌, ◌++◌, append-nil}
use mathlib.Core.WellFounded.Acc
use Prim.Native.Nat.{ℕ}
use native.Mathlib.Decide.{ℕ_discrete}
use Rattle.field.specs.Field.{Operations, Field}
use Rattle.field.proofs.Derived.{red-zero, red-red, zero-add, red-mul-left, add_left_comm, mul-zero, zero-mul, collect}
use Rattle.lists.specs.All.{All, done, ◌also◌}
use Rattle.words.specs.Word.{Word, around}
use Rattle.words.specs.Order.{Order, Lt, Admissible}
use Rattle.lists.proofs.Every.{all_map, all_append, all_both, all_of}
use Rattle.words.proofs.Admissible.{Le, le_lt_trans, trichotomy}
use Rattle.algebra.specs.Poly.{Poly, coeff, Same, shift}
use Rattle.algebra.specs.Ideal.{Family, Line, value}
use Rattle.algebra.specs.Groebner.{lead, lead_coef, Led, monic, top, Resolved, GreatestInside}
use Rattle.algebra.proofs.Coefficients.{red-coeff, coeff-shift}
use Rattle.algebra.proofs.Lines.{shift-nil, times, coeff-value-cons, coeff-value-append, coeff_times}
use Rattle.algebra.proofs.Leading.{coeff-monic-lead, coeff_unmonic, coeff-monic-above, below_times, coeff_resolved, coeff_no_poly, coeff-below}

-- any two multiples of basis polynomials with the same leading word are resolved
abbrev pub Resolves : Operations → Order → Family → Type 0
Resolves K O G =
    (i : ℕ) (l r : Word) (j : ℕ) (l' r' : Word) → Led K O (G i) → Led K O (G j)
    → around l r (lead (G i)) ≡ around l' r' (lead (G j)) → Resolved K O G i l r j l' r'

module _ {K : Operations} (F : Field K) {O : Order} (A : Admissible O) (G : Family) (leads : (i : ℕ) → (G i ≡ []) ⊎ Led K O (G i)) where
  open K use {red, add, mul}
  open F use {add-zero, mul_assoc, mul_one}

  -- lines over no polynomial are left out
  Clean : (P : Line → Type 0) → List Line → Type 0
  Clean P xs = (ys : List Line) × Same K (value K G xs) (value K G ys) × All P ys × All (λ z. Led K O (G z.of)) ys

  clean : (P : Line → Type 0) (xs : List Line) → All P xs → Clean P xs
  unfolding Clean
  clean P [] done = ([], λ w. refl, done, done)
  clean P (x ∷ xs) (p also ps) = go (clean P xs ps) (leads x.of)
    where
      go : Clean P xs → (G x.of ≡ []) ⊎ Led K O (G x.of) → Clean P (x ∷ xs)
      go (ys, s, q, h) (inl e) = (
        ys,
        λ w. coeff-value-cons F G x xs w ∙ rw (coeff_no_poly F A G leads e x.left x.right w, mul-zero F, zero-add F, red-coeff F) (s w),
        q,
        h,
      )
      go (ys, s, q, h) (inr b) = (x ∷ ys, λ w. coeff-value-cons F G x xs w ∙ rw (s w) (sym (coeff-value-cons F G x ys w)), p also q, b also h)

  -- a line that brings the greatest word
  Greatest : (P : Line → Type 0) → List Line → Type 0
  Greatest P xs = (z : Line) × P z × All (λ y. Le O (top G y) (top G z)) xs

  greatest : (P : Line → Type 0) (x : Line) (xs : List Line) → All P (x ∷ xs) → Greatest P (x ∷ xs)
  unfolding Greatest
  greatest P x [] (p also done) = (x, p, inr refl also done)
  greatest P x (y ∷ ys) (p also ps) = go (greatest P y ys ps)
    where
      go : Greatest P (y ∷ ys) → Greatest P (x ∷ (y ∷ ys))
      go (z, q, h) = by (trichotomy A (top G x) (top G z))
        where
          by : Lt O (top G x) (top G z) ⊎ ((top G x ≡ top G z) ⊎ Lt O (top G z) (top G x)) → Greatest P (x ∷ (y ∷ ys))
          by (inl a) = (z, q, inl a also h)
          by (inr (inl a)) = (z, q, inr a also h)
          by (inr (inr a)) = (x, p, inr refl also all_map (λ w b. inl (le_lt_trans A _ _ _ b a)) h)

  module _ (resolves : Resolves K O G) where
    -- lines up to z's word are a multiple of z's polynomial, divided by its leading coefficient, and lines below that word
    Gathered : Line → List Line → Type 0
    Gathered z xs = (c : ℕ) × (ys : List Line) × All (λ y. Lt O (top G y) (top G z)) ys
        × ((w : Word) → coeff K (value K G xs) w ≡ add (mul c (coeff K (shift z.left z.right (monic K (G z.of))) w)) (coeff K (value K G ys) w))

    gather : (z : Line) → Led K O (G z.of) → (xs : List Line) → All (λ x. Led K O (G x.of)) xs → All (λ x. Le O (top G x) (top G z)) xs → Gathered z xs
    unfolding Gathered top
    gather z lz [] done done = (0, [], done, λ w. sym (rw (zero-mul F, zero-add F) (red-coeff F (value K G []) w)))
    gather z lz (x ∷ xs) (lx also ls) (p also ps) = go p (gather z lz xs ls ps)
      where
        go : Le O (top G x) (top G z) → Gathered z xs → Gathered z (x ∷ xs)
        go (inl a) (c, ys, b, e) =
            (c, x ∷ ys, a also b, λ w. coeff-value-cons F G x xs w ∙ rw (e w, add_left_comm F) (ap (add _) (sym (coeff-value-cons F G x ys w))))
        go (inr a) (c, ys, b, e) = (add k c, times K k [] [] q.lines ++ ys, all_append low b, same)
          where
            q : Resolved K O G x.of x.left x.right z.of z.left z.right
            q = resolves x.of x.left x.right z.of z.left z.right lx lz a

            k : ℕ
            k = mul x.coef (lead_coef (G x.of))

            low : All (λ y. Lt O (top G y) (top G z)) (times K k [] [] q.lines)
            low = rw (append-nil, a) at (below_times F A G k [] [] _ q.lines q.below)

            same : (w : Word) → coeff K (value K G (x ∷ xs)) w
                ≡ add (mul (add k c) (coeff K (shift z.left z.right (monic K (G z.of))) w)) (coeff K (value K G (times K k [] [] q.lines ++ ys)) w)
            same w = coeff-value-cons F G x xs w
                ∙ rw (
                  e w,
                  coeff_unmonic F A lx x.left x.right w,
                  ← mul_assoc x.coef,
                  coeff_resolved F A q w,
                  coeff-value-append F G (times K k [] [] q.lines) ys w,
                  coeff_times F G,
                  shift-nil,
                ) (collect F k c _ _ _)

    -- f is zero, its greatest word holds a leading word, or it is a sum of lines below some line's word
    Lower : (P : Line → Type 0) → Poly → Type 0
    Lower P f = (Same K f [] ⊎ GreatestInside K O G f) ⊎ ((z : Line) × P z × (ys : List Line) × All (λ y. Lt O (top G y) (top G z)) ys × Same K f (value K G ys))

    lower : (P : Line → Type 0) (xs : List Line) → All P xs → (f : Poly) → Same K f (value K G xs) → Lower P f
    unfolding Lower Clean Greatest Gathered value top
    lower P xs ps f s = start (clean P xs ps)
      where
        start : Clean P xs → Lower P f
        start ([], e, p, l) = inl (inl (λ w. s w ∙ e w))
        start (v ∷ vs, e, p, l) = from (greatest (λ y. P y × Led K O (G y.of)) v vs (all_both p l))
          where
            from : Greatest (λ y. P y × Led K O (G y.of)) (v ∷ vs) → Lower P f
            from (z, pz, le) = by (gather z pz.1 (v ∷ vs) l le)
              where
                by : Gathered z (v ∷ vs) → Lower P f
                by (c, ys, low, g) = decide (ℕ_discrete (coeff K f (top G z)) 0)
                  where
                    -- the coefficient of f at the greatest word is c, and above it there is none
                    here : coeff K f (top G z) ≡ red c
                    here = s (top G z) ∙ e (top G z) ∙ g (top G z)
                        ∙ rw (
                          coeff-shift F z.left z.right (monic K (G z.of)) (lead (G z.of)),
                          coeff-monic-lead F A pz.1,
                          coeff-below F A G leads (top G z) ys low,
                          mul_one,
                          add-zero,
                        ) (red-red F c)

                    above : (w : Word) → Lt O (top G z) w → coeff K f w ≡ 0
                    above w p = s w ∙ e w ∙ g w
                        ∙ rw (
                          coeff-monic-above F A pz.1 z.left z.right w p,
                          coeff-below F A G leads w ys (all_map (λ y b. A.trans _ _ _ b p) low),
                          mul-zero F,
                          zero-add F,
                        ) (red-zero F)

                    decide : Dec (coeff K f (top G z) ≡ 0) → Lower P f
                    decide (yes o) =
                        inr (z, pz.0, ys, low, λ w. s w ∙ e w ∙ g w ∙ rw (← red-mul-left F c, sym here ∙ o, zero-mul F, zero-add F) (red-coeff F (value K G ys) w))
                    decide (no o) = inl (inr (record {
                      word = top G z;
                      has = o;
                      above = above;
                      inside = record { of = z.of; left = z.left; right = z.right; real = pz.1; fits = refl };
                    }))

    -- what holds of every sum of lines below m
    Descends : Word → Type 0
    Descends m = (xs : List Line) → All (λ y. Lt O (top G y) m) xs → (f : Poly) → Same K f (value K G xs) → Same K f [] ⊎ GreatestInside K O G f

    descend : (m : Word) → ((n : Word) → Lt O n m → Descends n) → Descends m
    unfolding Descends Lower
    descend m rest xs low f s = go (lower (λ y. Lt O (top G y) m) xs low f s)
      where
        go : Lower (λ y. Lt O (top G y) m) f → Same K f [] ⊎ GreatestInside K O G f
        go (inl h) = h
        go (inr (z, p, ys, b, e)) = rest (top G z) p ys b f e

    pub zero_or_inside : (xs : List Line) (f : Poly) → Same K f (value K G xs) → Same K f [] ⊎ GreatestInside K O G f
    unfolding Descends Lower
    zero_or_inside xs f s = go (lower (λ y. Unit {0}) xs (all_of (λ y. tt) xs) f s)
      where
        go : Lower (λ y. Unit {0}) f → Same K f [] ⊎ GreatestInside K O G f
        go (inl h) = h
        go (inr (z, p, ys, b, e)) = Acc.ndrec {C = Descends} (λ m _ ih. descend m ih) (A.wf (top G z)) ys b f e
