-- What `spot` computes: the leftmost place of a leading word in a word, with the lowest number of a polynomial whose leading word stands there, and
-- nowhere exactly where no leading word is inside (`spot_iff`, `spot-none_iff`). The search goes through the word from the left. Where a leading
-- word stands at the first letter, that place is the spot, and none is before it; else a place in what is left is one further right in the whole.
-- LowestNumber.antt has what stands at the first letter. At the end: the word cut at its spot, and the terms of a polynomial as they are searched.
use mathlib.Core.Path.{◌≡◌, refl, sym, ◌∙◌, ap}
use mathlib.Core.Logic.{◌≢◌, ◌↔◌}
use mathlib.Core.Option.{Option, none, some}
use mathlib.Core.List.{List, [], ◌∷◌, ◌++◌, cons≢nil}
use Prim.Native.Nat.{ℕ, zero, suc, ◌+◌, ◌<◌}
use native.Mathlib.Omega.{arith}
use lib.ListN.{length, take, drop}
use lib.Seq.{take_at, drop-append_seam, drop-append-add}
use Rattle.lists.specs.All.{All, done, ◌also◌}
use Rattle.words.specs.Word.{Word, around}
use Rattle.words.specs.Place.{Stands}
use Rattle.algebra.specs.Poly.{Term, Poly}
use Rattle.algebra.specs.Ideal.{family}
use Rattle.algebra.specs.Groebner.{lead}
use Rattle.algebra.specs.StepRule.{LeadStands, LeadInside, LeftmostLead}
use Rattle.algebra.specs.Spot.{first_begins, Spot, nowhere, found, spot_at, spot_from, spot, reduced, reducible, target_of, target}
use Rattle.algebra.proofs.LowestNumber.{number-lowest, number-none}

module _ (ps : List Poly) where
  -- a place in w is one further right in a ∷ w
  stands-cons : (a : ℕ) (w : Word) (i n : ℕ) → LeadStands ps w i n → LeadStands ps (a ∷ w) (suc i) n
  stands-cons a w i n s = record {
    nonzero = s.nonzero;
    stands = record { left = a ∷ s.stands.left; right = s.stands.right; place = ap suc s.stands.place; fits = ap (a ∷◌) s.stands.fits };
  }

  stands_tail : (a : ℕ) (w : Word) (i n : ℕ) → LeadStands ps (a ∷ w) (suc i) n → LeadStands ps w i n
  stands_tail a w i n s = go s.stands.left s.stands.place s.stands.fits
    where
      go : (l : Word) → length l ≡ suc i → around l s.stands.right (lead (family ps n)) ≡ a ∷ w → LeadStands ps w i n
      go [] e f = absurd (omega arith)
      go (b ∷ l) e f = record { nonzero = s.nonzero; stands = record { left = l; right = s.stands.right; place = omega arith; fits = tail f } }
        where
          tail : (b ∷ around l s.stands.right (lead (family ps n))) ≡ a ∷ w → around l s.stands.right (lead (family ps n)) ≡ w
          tail q = cc

  stands_in_nil : (i n : ℕ) → LeadStands ps [] (suc i) n → ⊥
  stands_in_nil i n s = go s.stands.left s.stands.place s.stands.fits
    where
      go : (l : Word) → length l ≡ suc i → around l s.stands.right (lead (family ps n)) ≡ [] → ⊥
      go [] e f = omega arith
      go (b ∷ l) e f = cons≢nil f

  -- what a spot says of the leading words in w, whose first letter has place i
  At : Word → ℕ → Spot → Type 0
  At w i nowhere = (j n : ℕ) → LeadStands ps w j n → ⊥
  At w i (found m n) = (k : ℕ) × (m ≡ i + k) × LeftmostLead ps w k n

  -- a leading word stands at the first letter: no place is before it
  at_here : (w : Word) (i n : ℕ) → first_begins ps 1 w ≡ some n → At w i (found i n)
  unfolding At
  at_here w i n e =
      let (s, l) = number-lowest ps w n e in (0, omega arith, record { stands = s; leftmost = λ j m b t. absurd (omega arith); lowest = l })

  -- the spot is at the first letter, where a leading word stands there; else where it is behind that letter, if there is one
  spot_here : (a : ℕ) (w : Word) (i n : ℕ) → first_begins ps 1 (a ∷ w) ≡ some n → spot_from ps (a ∷ w) i ≡ found i n
  unfolding spot_from spot_at
  spot_here a w i n e = rw (spot_from, e)

  spot-later : (a : ℕ) (w : Word) (i : ℕ) → first_begins ps 1 (a ∷ w) ≡ none → spot_from ps (a ∷ w) i ≡ spot_from ps w (suc i)
  unfolding spot_from spot_at
  spot-later a w i e = rw (spot_from, e)

  -- the spot behind the first letter, where no leading word stands at that letter
  at_later : (a : ℕ) (w : Word) (i : ℕ) → first_begins ps 1 (a ∷ w) ≡ none → (s : Spot) → At w (suc i) s → At (a ∷ w) i s
  unfolding At
  at_later a w i e nowhere t = λ j. at j
    where
      at : (j n : ℕ) → LeadStands ps (a ∷ w) j n → ⊥
      at zero n s = number-none ps (a ∷ w) e n s
      at (suc j) n s = t j n (stands_tail a w j n s)
  at_later a w i e (found m n) (k, p, l) = (
    suc k,
    omega arith,
    record {
      stands = stands-cons a w k n l.stands;
      leftmost = leftmost;
      lowest = λ q b s. l.lowest q b (stands_tail a w k q s);
    },
  )
    where
      leftmost : (j q : ℕ) → j < suc k → LeadStands ps (a ∷ w) j q → ⊥
      leftmost zero q b s = number-none ps (a ∷ w) e q s
      leftmost (suc j) q b s = l.leftmost j q (omega arith) (stands_tail a w j q s)

  spot_from_lem : (w : Word) (i : ℕ) → At w i (spot_from ps w i)
  unfolding spot_from spot_at At
  spot_from_lem [] i = go (first_begins ps 1 []) refl
    where
      go : (o : Option ℕ) → first_begins ps 1 [] ≡ o → At [] i (spot_at i o nowhere)
      go (some n) e = at_here [] i n e
      go none e = λ j. at j
        where
          at : (j n : ℕ) → LeadStands ps [] j n → ⊥
          at zero n s = number-none ps [] e n s
          at (suc j) n s = stands_in_nil j n s
  spot_from_lem (a ∷ w) i = go (first_begins ps 1 (a ∷ w)) refl (spot_from_lem w (suc i))
    where
      go : (o : Option ℕ) → first_begins ps 1 (a ∷ w) ≡ o → At w (suc i) (spot_from ps w (suc i)) → At (a ∷ w) i (spot_from ps (a ∷ w) i)
      go (some n) e t = rw (spot_here a w i n e) (at_here (a ∷ w) i n e)
      go none e t = rw (spot-later a w i e) (at_later a w i e (spot_from ps w (suc i)) t)

  -- a word has one leftmost place of a leading word, and one lowest number there
  leftmost_unique : {w : Word} {i j m n : ℕ} → LeftmostLead ps w i m → LeftmostLead ps w j n → (i ≡ j) × (m ≡ n)
  leftmost_unique {w} {i} {j} {m} {n} a b = (
    z,
    neither_less m n (λ h. b.lowest m h (rw z at a.stands)) (λ h. a.lowest n h (rw (← z) at b.stands)),
  )
    where
      neither_less : (x y : ℕ) → (x < y → ⊥) → (y < x → ⊥) → x ≡ y
      neither_less x y g h = omega arith

      z : i ≡ j
      z = neither_less i j (λ h. b.leftmost i m h a.stands) (λ h. a.leftmost j n h b.stands)

  -- a spot is found exactly at the leftmost place of a leading word, with the lowest number there
  pub spot_iff : (w : Word) (i n : ℕ) → (spot ps w ≡ found i n) ↔ LeftmostLead ps w i n
  unfolding spot At
  spot_iff w i n = (λ e. to (rw e at (spot_from_lem w 0)), λ l. from l (spot ps w) (spot_from_lem w 0))
    where
      to : At w 0 (found i n) → LeftmostLead ps w i n
      to (k, p, l) = let z : k ≡ i = omega arith in rw z at l

      from : LeftmostLead ps w i n → (s : Spot) → At w 0 s → s ≡ found i n
      from l nowhere h = absurd (h i n l.stands)
      from l (found j m) (k, p, h) =
          let (y, z) = leftmost_unique h l in
          let x : j ≡ i = omega arith in
          rw (x, z)

  -- and nowhere exactly where no leading word is inside
  pub spot-none_iff : (w : Word) → (spot ps w ≡ nowhere) ↔ (LeadInside ps w → ⊥)
  unfolding spot At
  spot-none_iff w = (λ e. to (rw e at (spot_from_lem w 0)), λ h. from h (spot ps w) (spot_from_lem w 0))
    where
      to : At w 0 nowhere → LeadInside ps w → ⊥
      to h l = h l.place l.number l.stands

      from : (LeadInside ps w → ⊥) → (s : Spot) → At w 0 s → s ≡ nowhere
      from h nowhere a = refl
      from h (found m n) (k, p, l) = absurd (h (record { place = k; number = n; stands = l.stands }))

-- the word cut at a spot: what stands left and right of the leading word
module _ (ps : List Poly) (w : Word) (i n : ℕ) where
  abbrev pub left_of : Word
  left_of = take i w

  abbrev pub right_of : Word
  right_of = drop (i + length (lead (family ps n))) w

  -- a spot is a place of a leading word
  pub spot-found : spot ps w ≡ found i n → (family ps n ≢ []) × (around left_of right_of (lead (family ps n)) ≡ w)
  spot-found e = let s = ((spot_iff ps w i n).0 e).stands in (s.nonzero, go s.stands)
    where
      go : Stands (lead (family ps n)) w i → around left_of right_of (lead (family ps n)) ≡ w
      go c = rw (left_is, right_is) c.fits
        where
          left_is : left_of ≡ c.left
          left_is = rw (← c.fits) (take_at c.left (lead (family ps n) ++ c.right) i c.place)

          right_is : right_of ≡ c.right
          right_is = rw (← c.fits, ← c.place, drop-append-add) (drop-append_seam (lead (family ps n)) c.right)

-- where there is no spot, no leading word stands inside
pub spot-nowhere : (ps : List Poly) (w : Word) → spot ps w ≡ nowhere → (j : ℕ) (l r : Word) → family ps j ≢ [] → around l r (lead (family ps j)) ≡ w → ⊥
spot-nowhere ps w e j l r q f = (spot-none_iff ps w).0 e (record {
  place = length l;
  number = j;
  stands = record { nonzero = q; stands = record { left = l; right = r; place = refl; fits = f } };
})

-- a target is a term of the polynomial, with its word's spot
pub target-reducible : (ps : List Poly) (P : Term → Type 0) (f : Poly) (t : Term) (i n : ℕ) → All P f
    → target ps f ≡ reducible t i n → P t × (spot ps t.word ≡ found i n)
unfolding target target_of
target-reducible ps P [] t i n done e = let z : ◌≡◌ {A = ℕ} 0 1 = cc in absurd (omega arith)
target-reducible ps P (s ∷ f) t i n (p also q) e = go (spot ps s.word) refl e (target-reducible ps P f t i n q)
  where
    go : (o : Spot) → spot ps s.word ≡ o → target_of s o (target ps f) ≡ reducible t i n
        → (target ps f ≡ reducible t i n → P t × (spot ps t.word ≡ found i n)) → P t × (spot ps t.word ≡ found i n)
    go nowhere d e rest = rest e
    go (found j m) d e rest =
        let x : s ≡ t = cc in
        let y : found j m ≡ found i n = cc in
        (rw x at p, ap (λ (r : Term). spot ps r.word) (sym x) ∙ d ∙ y)

-- where there is no target, no word has a spot
pub target-reduced : (ps : List Poly) (f : Poly) → target ps f ≡ reduced → All (λ t. spot ps t.word ≡ nowhere) f
unfolding target target_of
target-reduced ps [] e = done
target-reduced ps (t ∷ f) e = go (spot ps t.word) refl e (target-reduced ps f)
  where
    go : (o : Spot) → spot ps t.word ≡ o → target_of t o (target ps f) ≡ reduced
        → (target ps f ≡ reduced → All (λ s. spot ps s.word ≡ nowhere) f) → All (λ s. spot ps s.word ≡ nowhere) (t ∷ f)
    go nowhere d e rest = d also rest e
    go (found j m) d e rest = let z : ◌≡◌ {A = ℕ} 0 1 = cc in absurd (omega arith)
