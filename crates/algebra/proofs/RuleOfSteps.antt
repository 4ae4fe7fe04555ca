-- `target` computes the rule of steps and nothing else: of a polynomial in written form it gives a term, a place and a number exactly if the rule
-- names them (`target_iff`), and nothing exactly if no word has a leading word inside (`target-none_iff`). So the rule names at most one step
-- (`rule_unique`). The search goes through the terms in their order; 'greatest' is right because the words of a written form fall: a word above
-- another stands before it. What a word's spot is was shown in Spots.antt.
use mathlib.Core.Path.{◌≡◌, refl, sym, ◌∙◌, ap, subst}
use mathlib.Core.Logic.{◌⊎◌, inl, inr, ◌↔◌}
use mathlib.Core.List.{List, [], ◌∷◌, Memᴰ}
use Prim.Native.Nat.{ℕ}
use native.Mathlib.Omega.{arith}
use lib.ListN.{length}
use Rattle.field.specs.Field.{Operations}
use Rattle.lists.specs.All.{All, done, ◌also◌}
use Rattle.words.specs.Word.{Word}
use Rattle.words.specs.Order.{Order, Lt, Admissible}
use Rattle.lists.proofs.Every.{all_map, all-member}
use Rattle.words.proofs.Admissible.{lt_irrefl}
use Rattle.algebra.specs.Poly.{Term, Poly}
use Rattle.algebra.specs.Written.{Written, zero, term}
use Rattle.algebra.specs.Ideal.{family}
use Rattle.algebra.specs.Groebner.{Led, Inside}
use Rattle.algebra.specs.StepRule.{LeadStands, LeadInside, StepRule, NoStep}
use Rattle.algebra.specs.Spot.{Spot, nowhere, found, spot, reduced, reducible, target_of, target}
use Rattle.algebra.proofs.Leading.{led-ne-nil}
use Rattle.algebra.proofs.Spots.{spot_iff, spot-none_iff, target-reduced}

module _ (ps : List Poly) where
  -- nothing is found exactly if no word of f has a leading word inside
  pub target-none_iff : (f : Poly) → (target ps f ≡ reduced) ↔ NoStep ps f
  unfolding target target_of
  target-none_iff f = (λ e. all_map (λ t s. (spot-none_iff ps t.word).0 s) (target-reduced ps f e), from f)
    where
      from : (g : Poly) → NoStep ps g → target ps g ≡ reduced
      from [] done = refl
      from (t ∷ g) (p also q) = ap (λ (s : Spot). target_of t s (target ps g)) ((spot-none_iff ps t.word).1 p) ∙ from g q

  module _ {K : Operations} {O : Order} (A : Admissible O) where
    rule_of_target : {f : Poly} → Written K O f → (t : Term) (i n : ℕ) → target ps f ≡ reducible t i n → StepRule O ps f t i n
    unfolding target target_of
    rule_of_target zero t i n e = let z : ◌≡◌ {A = ℕ} 0 1 = cc in absurd (omega arith)
    rule_of_target (term {t = s} {f} a b c d) t i n e = go (spot ps s.word) refl e (rule_of_target d t i n)
      where
        go : (o : Spot) → spot ps s.word ≡ o → target_of s o (target ps f) ≡ reducible t i n
            → (target ps f ≡ reducible t i n → StepRule O ps f t i n) → StepRule O ps (s ∷ f) t i n
        go nowhere h e rest =
            let r = rest e in
            record {
              among = Memᴰ.tail r.among;
              greatest = (λ l. (spot-none_iff ps s.word).0 h) also r.greatest;
              place = r.place;
            }
        go (found j m) h e rest =
            let x : s ≡ t = cc in
            let y : found j m ≡ found i n = cc in
            let r : StepRule O ps (s ∷ f) s i n = record {
              among = Memᴰ.head refl;
              greatest = (λ l p. lt_irrefl A s.word l) also all_map (λ u q l p. lt_irrefl A s.word (A.trans _ _ _ l q)) c;
              place = (spot_iff ps s.word i n).0 (h ∙ y);
            } in
            subst (λ (u : Term). StepRule O ps (s ∷ f) u i n) x r

    target_of_rule : {f : Poly} → Written K O f → (t : Term) (i n : ℕ) → StepRule O ps f t i n → target ps f ≡ reducible t i n
    unfolding target target_of
    target_of_rule zero t i n r = elim r.among [ ]
    target_of_rule (term {t = s} {f} a b c d) t i n r = go r.among r.greatest (target_of_rule d t i n)
      where
        go : Memᴰ t (s ∷ f) → All (λ u. Lt O t.word u.word → LeadInside ps u.word → ⊥) (s ∷ f)
            → (StepRule O ps f t i n → target ps f ≡ reducible t i n) → target_of s (spot ps s.word) (target ps f) ≡ reducible t i n
        go (Memᴰ.head e) g rest =
            ap (λ (u : Term). target_of u (spot ps u.word) (target ps f)) (sym e)
            ∙ ap (λ (o : Spot). target_of t o (target ps f)) ((spot_iff ps t.word i n).1 r.place)
        go (Memᴰ.tail m) (p also q) rest =
            ap (λ (o : Spot). target_of s o (target ps f)) ((spot-none_iff ps s.word).1 (p (all-member c m)))
            ∙ rest (record { among = m; greatest = q; place = r.place })

    -- the computed step is the one that the rule names
    pub target_iff : {f : Poly} → Written K O f → (t : Term) (i n : ℕ) → (target ps f ≡ reducible t i n) ↔ StepRule O ps f t i n
    target_iff c t i n = (rule_of_target c t i n, target_of_rule c t i n)

    -- the rule names at most one step
    pub rule_unique : {f : Poly} → Written K O f → {t s : Term} {i j m n : ℕ} → StepRule O ps f t i m → StepRule O ps f s j n
        → (t ≡ s) × (i ≡ j) × (m ≡ n)
    rule_unique c {t} {s} {i} {j} {m} {n} a b =
        let e : reducible t i m ≡ reducible s j n = sym (target_of_rule c t i m a) ∙ target_of_rule c s j n b in (cc, cc, cc)

  -- where the polynomials of the list lead or are zero, 'inside' here is 'inside' in the definition of short forms
  pub inside_iff : {K : Operations} {O : Order} → ((i : ℕ) → (family ps i ≡ []) ⊎ Led K O (family ps i))
      → (w : Word) → LeadInside ps w ↔ Inside K O (family ps) w
  inside_iff {K} {O} leads w = (to, from)
    where
      to : LeadInside ps w → Inside K O (family ps) w
      to l = go (leads l.number)
        where
          s : LeadStands ps w l.place l.number
          s = l.stands

          go : (family ps l.number ≡ []) ⊎ Led K O (family ps l.number) → Inside K O (family ps) w
          go (inl e) = absurd (s.nonzero e)
          go (inr h) = record { of = l.number; left = s.stands.left; right = s.stands.right; real = h; fits = s.stands.fits }

      from : Inside K O (family ps) w → LeadInside ps w
      from p = record {
        place = length p.left;
        number = p.of;
        stands = record {
          nonzero = led-ne-nil p.real;
          stands = record { left = p.left; right = p.right; place = refl; fits = p.fits };
        };
      }
