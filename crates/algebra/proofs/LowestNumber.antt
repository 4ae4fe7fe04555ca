-- `first_begins` gives the lowest number of a polynomial whose leading word stands at the beginning of a word, and none exactly where none stands
-- there (`number-lowest`, `number-none`). It is shown by going through the list: the first polynomial's number is given where the word begins with
-- its leading word, and else what the others give; zero polynomials have no leading word. Inside this file numbers count from 0, as places of the
-- list do; from outside they count from 1.
use mathlib.Core.Path.{◌≡◌, refl, sym, ◌∙◌}
use mathlib.Core.Bool.{Bool, true, false, true≢false}
use mathlib.Core.Logic.{◌≢◌}
use mathlib.Core.Option.{Option, none, some}
use mathlib.Core.List.{List, [], ◌∷◌, cons≢nil}
use Prim.Native.Nat.{ℕ, zero, suc, ◌+◌, ◌<◌}
use native.Mathlib.Omega.{arith}
use lib.ListN.{length, get_or}
use Rattle.words.specs.Word.{Word, around}
use Rattle.words.specs.Place.{begins}
use Rattle.words.proofs.Standing.{begins-append, begins-rest}
use Rattle.algebra.specs.Poly.{Term, Poly}
use Rattle.algebra.specs.Ideal.{family}
use Rattle.algebra.specs.Groebner.{lead}
use Rattle.algebra.specs.StepRule.{LeadStands}
use Rattle.algebra.specs.Spot.{first_begins}

-- w begins with the leading word of the polynomial at place k of the list
Leads : List Poly → ℕ → Word → Type 0
Leads ps k w = (get_or ps k [] ≢ []) × (begins (lead (get_or ps k [])) w ≡ true)

-- what `first_begins`, which counts from n, says: the first such k, or none
First : List Poly → ℕ → Word → Option ℕ → Type 0
First ps n w none = (k : ℕ) → Leads ps k w → ⊥
First ps n w (some m) = (k : ℕ) × (m ≡ n + k) × Leads ps k w × ((j : ℕ) → j < k → Leads ps j w → ⊥)

-- the same behind a polynomial with whose leading word w does not begin
first-behind : (p : Poly) (ps : List Poly) (n : ℕ) (w : Word) → (Leads (p ∷ ps) 0 w → ⊥) → (o : Option ℕ) → First ps (suc n) w o → First (p ∷ ps) n w o
unfolding First Leads
first-behind p ps n w h none r = λ k. at k
  where
    at : (k : ℕ) → Leads (p ∷ ps) k w → ⊥
    at zero l = h l
    at (suc k) l = r k l
first-behind p ps n w h (some m) (k, e, l, r) = (suc k, omega arith, l, before)
  where
    before : (j : ℕ) → j < suc k → Leads (p ∷ ps) j w → ⊥
    before zero b l = h l
    before (suc j) b l = r j (omega arith) l

-- the first polynomial's number, where w begins with its leading word; else what the others give
first_here : (t : Term) (f : Poly) (ps : List Poly) (n : ℕ) (w : Word) → begins t.word w ≡ true → first_begins ((t ∷ f) ∷ ps) n w ≡ some n
unfolding first_begins
first_here t f ps n w e = rw (first_begins, e)

first-later : (t : Term) (f : Poly) (ps : List Poly) (n : ℕ) (w : Word)
    → begins t.word w ≡ false → first_begins ((t ∷ f) ∷ ps) n w ≡ first_begins ps (suc n) w
unfolding first_begins
first-later t f ps n w e = rw (first_begins, e)

first-begins : (ps : List Poly) (n : ℕ) (w : Word) → First ps n w (first_begins ps n w)
unfolding First Leads first_begins lead
first-begins [] n w = λ k l. l.0 refl
first-begins ([] ∷ ps) n w = first-behind [] ps n w (λ l. l.0 refl) (first_begins ps (suc n) w) (first-begins ps (suc n) w)
first-begins ((t ∷ f) ∷ ps) n w = go (begins t.word w) refl (first-begins ps (suc n) w)
  where
    go : (b : Bool) → begins t.word w ≡ b → First ps (suc n) w (first_begins ps (suc n) w) → First ((t ∷ f) ∷ ps) n w (first_begins ((t ∷ f) ∷ ps) n w)
    go true e r = rw (first_here t f ps n w e) (0, omega arith, (cons≢nil, e), λ j b l. absurd (omega arith))
    go false e r = rw (first-later t f ps n w e) (first-behind (t ∷ f) ps n w (λ l. true≢false (sym l.1 ∙ e)) (first_begins ps (suc n) w) r)

module _ (ps : List Poly) (w : Word) where
  -- a word begins with what stands in it at place 0
  stands_of_leads : (k : ℕ) → Leads ps k w → LeadStands ps w 0 (suc k)
  unfolding Leads family
  stands_of_leads k (q, e) =
      let (r, f) = begins-rest (lead (get_or ps k [])) w e in record { nonzero = q; stands = record { left = []; right = r; place = refl; fits = f } }

  leads_of_stands : (k : ℕ) → LeadStands ps w 0 (suc k) → Leads ps k w
  unfolding Leads family
  leads_of_stands k s = (s.nonzero, go s.stands.left s.stands.place s.stands.fits)
    where
      go : (l : Word) → length l ≡ 0 → around l s.stands.right (lead (get_or ps k [])) ≡ w → begins (lead (get_or ps k [])) w ≡ true
      go [] e f = rw (← f) (begins-append (lead (get_or ps k [])) s.stands.right)
      go (a ∷ l) e f = absurd (omega arith)

  -- number 0 names no polynomial
  stands-zero : LeadStands ps w 0 0 → ⊥
  unfolding family
  stands-zero s = s.nonzero refl

  -- a number that is given leads at the word's beginning, and no lower one does
  pub number-lowest : (n : ℕ) → first_begins ps 1 w ≡ some n → LeadStands ps w 0 n × ((m : ℕ) → m < n → LeadStands ps w 0 m → ⊥)
  unfolding First
  number-lowest n e = go (rw e at (first-begins ps 1 w))
    where
      go : First ps 1 w (some n) → LeadStands ps w 0 n × ((m : ℕ) → m < n → LeadStands ps w 0 m → ⊥)
      go (k, p, l, r) = let z : suc k ≡ n = omega arith in (rw z at (stands_of_leads k l), lower)
        where
          lower : (m : ℕ) → m < n → LeadStands ps w 0 m → ⊥
          lower zero b s = stands-zero s
          lower (suc m) b s = r m (omega arith) (leads_of_stands m s)

  -- where no number is given, no leading word stands there
  pub number-none : first_begins ps 1 w ≡ none → (n : ℕ) → LeadStands ps w 0 n → ⊥
  unfolding First
  number-none e zero s = stands-zero s
  number-none e (suc k) s = let h : First ps 1 w none = rw e at (first-begins ps 1 w) in h k (leads_of_stands k s)
