-- What a step takes away: its words are at most the word that is rewritten. So the terms before that word stay.
use mathlib.Core.Path.{◌≡◌, refl, ◌∙◌, ap}
use mathlib.Core.Logic.{◌≢◌, ◌⊎◌, inl, inr}
use mathlib.Core.List.{List, [], ◌∷◌, ◌++◌}
use Prim.Native.Nat.{ℕ, suc, ◌+◌, ◌<◌}
use native.Mathlib.Omega.{arith}
use lib.ListN.{length, take, drop}
use lib.Seq.{split_at, take_at, length-take-le}
use Rattle.field.specs.Field.{Operations, Field}
use Rattle.lists.specs.All.{All, done, ◌also◌}
use Rattle.words.specs.Word.{around}
use Rattle.words.specs.Order.{Order, Lt, Admissible}
use Rattle.words.proofs.Admissible.{Le, le_lt_trans}
use Rattle.lists.proofs.Every.{all_map, all_split}
use Rattle.algebra.specs.Poly.{Term, Poly, scale, shift}
use Rattle.algebra.specs.Written.{Written, term, insert, plus}
use Rattle.algebra.specs.Ideal.{family}
use Rattle.algebra.specs.Groebner.{lead, lead_coef, Led}
use Rattle.working.proofs.Families.{family-written}
use Rattle.algebra.specs.Spot.{spot, found}
use Rattle.algebra.specs.Steps.{take_away, line_at, stepped}
use Rattle.algebra.proofs.Coefficients.{scale-words}
use Rattle.algebra.proofs.Insertion.{insert-behind}
use Rattle.algebra.proofs.Leading.{words-le, shift-words-le}
use Rattle.algebra.proofs.Spots.{spot-found}
use Rattle.algebra.proofs.WrittenForm.{written-led}
use Rattle.working.specs.Change.{single}
use Rattle.packedsteps.specs.Spots.{term_of_of, NoSpots}

-- terms below all of p are added behind p
plus-behind : (K : Operations) (O : Order) (p f g : Poly) → All (λ t. All (λ s. Lt O t.word s.word) p) g → plus K O (p ++ f) g ≡ p ++ plus K O f g
unfolding plus
plus-behind K O p f [] done = refl
plus-behind K O p f (t ∷ g) (h also hs) =
    ap (λ (q : Poly). plus K O q g) (insert-behind K O t p f h) ∙ plus-behind K O p (insert K O t f) g hs

-- the words before a term are above it
before_above : {K : Operations} {O : Order} (p : Poly) (t : Term) (r : Poly) → Written K O (p ++ (t ∷ r)) → All (λ s. Lt O t.word s.word) p
before_above [] t r h = done
before_above (s ∷ p) t r (term a b c d) = head (all_split p (t ∷ r) c).1 also before_above p t r d
  where
    head : {P : Term → Type 0} {x : Term} {xs : Poly} → All P (x ∷ xs) → P x
    head (q also qs) = q

module _ {K : Operations} (laws : Field K) {O : Order} (A : Admissible O) (ps : List Poly) (valid : All (λ f. Written K O f) ps) where
  -- what a step at a spot takes away
  abbrev pub taken : Term → ℕ → ℕ → Poly
  taken t i g = scale K (K.neg (K.mul t.coef (K.inv (lead_coef (family ps g))))) (shift (take i t.word) (drop (i + length (lead (family ps g))) t.word) (family ps g))

  pub stepped_is : (f : Poly) (t : Term) (i g : ℕ) → stepped K O ps f t i g ≡ plus K O f (taken t i g)
  unfolding stepped take_away line_at
  stepped_is f t i g = refl

  pub taken-le : (t : Term) (i g : ℕ) → spot ps t.word ≡ found i g → All (λ s. Le O s.word t.word) (taken t i g)
  taken-le t i g e =
      scale-words K (λ u. Le O u t.word) (K.neg (K.mul t.coef (K.inv (lead_coef (family ps g))))) _ (go (written-led laws A (family ps g) (family-written K O ps valid g)))
    where
      cut : (family ps g ≢ []) × (around (take i t.word) (drop (i + length (lead (family ps g))) t.word) (lead (family ps g)) ≡ t.word)
      cut = spot-found ps t.word i g e

      go : (family ps g ≡ []) ⊎ Led K O (family ps g)
          → All (λ s. Le O s.word t.word) (shift (take i t.word) (drop (i + length (lead (family ps g))) t.word) (family ps g))
      go (inl z) = absurd (cut.0 z)
      go (inr l) = all_map (λ s q. rw cut.1 at q) (shift-words-le laws A _ _ (lead (family ps g)) (family ps g) (words-le laws A l))

  -- the terms before the step's term stay, so no leading word is inside their words
  pub stepped_no_spots : (f : Poly) (k i g : ℕ) → Written K O f → k < length f → NoSpots ps f k → spot ps (term_of_of f k).word ≡ found i g
      → NoSpots ps (stepped K O ps f (term_of_of f k) i g) k
  stepped_no_spots f k i g wr l h e =
      let t = term_of_of f k in
      let p = take k f in
      let r : Poly = t ∷ drop (suc k) f in
      let s : f ≡ p ++ r = split_at f k (single 0 []) l in
      let above = before_above p t (drop (suc k) f) (rw s at wr) in
      let low = all_map (λ x q. all_map (λ y z. le_lt_trans A x.word t.word y.word q z) above) (taken-le t i g e) in
      let q : stepped K O ps f t i g ≡ p ++ plus K O r (taken t i g) =
      stepped_is f t i g ∙ ap (λ (x : Poly). plus K O x (taken t i g)) s ∙ plus-behind K O p r (taken t i g) low in
      let z : take k (stepped K O ps f t i g) ≡ p = ap (take k) q ∙ take_at p (plus K O r (taken t i g)) k (length-take-le k f (omega arith)) in
      rw z h
