-- The computed places are those of the meaning: `stands_at` says where a word stands, and `leftmost` the first such place.
use mathlib.Core.Path.{◌≡◌, refl, sym, ◌∙◌, ap}
use mathlib.Core.Bool.{Bool, true, false, true≢false, false≢true}
use mathlib.Core.Logic.{◌↔◌}
use mathlib.Core.List.{[], ◌∷◌, ◌++◌}
use Prim.Native.Nat.{ℕ, zero, suc, ◌+◌, ◌<◌, ◌≤◌}
use native.Mathlib.Omega.{arith}
use lib.Dec.{eqb}
use lib.ListN.{length, get_or, take, drop, length-append, take-append-drop, get_or-append}
use lib.Seq.{length-take-le, get_or-append-add}
use borrow.Author.Tests.{eq-eqb, eqb-true}
use Rattle.lists.proofs.Bools.{not_true}
use Rattle.std.specs.Prelude.{Option, None, Some}
use Rattle.words.specs.Word.{Word, around}
use Rattle.words.specs.Place.{Stands, begins, stands_at, leftmost_from, leftmost}

pub begins-append : (b r : Word) → begins b (b ++ r) ≡ true
unfolding begins
begins-append [] r = refl
begins-append (x ∷ b) r = rw (begins, eq-eqb x x refl) (begins-append b r)

-- what stands behind b in a word that begins with it
pub begins-rest : (b w : Word) → begins b w ≡ true → (r : Word) × (b ++ r ≡ w)
unfolding begins
begins-rest [] w e = (w, refl)
begins-rest (x ∷ b) [] e = absurd (false≢true e)
begins-rest (x ∷ b) (y ∷ w) e = go (eqb x y) refl (begins-rest b w)
  where
    go : (t : Bool) → eqb x y ≡ t → (begins b w ≡ true → (r : Word) × (b ++ r ≡ w)) → (r : Word) × ((x ∷ b) ++ r ≡ y ∷ w)
    go true p rest =
        let (r, q) = rest (rw (begins, p) at e) in
        let z = eqb-true x y p in
        (r, cc)
    go false p rest = absurd (false≢true (rw (begins, p) at e))

stands_of_true : (b w : Word) (i : ℕ) → stands_at b w i ≡ true → Stands b w i
unfolding stands_at
stands_of_true b w zero e = let (r, q) = begins-rest b w e in record { left = []; right = r; place = refl; fits = q }
stands_of_true b [] (suc i) e = absurd (false≢true e)
stands_of_true b (a ∷ w) (suc i) e =
    let s = stands_of_true b w i e in
    record { left = a ∷ s.left; right = s.right; place = ap suc s.place; fits = ap (a ∷◌) s.fits }

true_at_length : (b l r : Word) → stands_at b (around l r b) (length l) ≡ true
unfolding stands_at
true_at_length b [] r = begins-append b r
true_at_length b (a ∷ l) r = true_at_length b l r

-- b stands in w at i exactly if the computation says so
pub stands_iff : (b w : Word) (i : ℕ) → (stands_at b w i ≡ true) ↔ Stands b w i
stands_iff b w i = (stands_of_true b w i, λ s. rw (← s.fits, ← s.place) (true_at_length b s.left s.right))

not_stands : (b w : Word) (i : ℕ) → stands_at b w i ≡ false → Stands b w i → ⊥
not_stands b w i e s = true≢false (sym ((stands_iff b w i).1 s) ∙ e)

pub stands_not : (b w : Word) (i : ℕ) → (Stands b w i → ⊥) → stands_at b w i ≡ false
stands_not b w i n = not_true (stands_at b w i) (λ e. n ((stands_iff b w i).0 e))

-- a word that stands ends no later than the other, and its letters are the other's
module _ (b w : Word) (i : ℕ) (s : Stands b w i) where
  pub stands_ends : i + length b ≤ length w
  stands_ends =
      omega (arith, s.place, ap length s.fits, length-append s.left (b ++ s.right), length-append b s.right)

  pub stands-letter : (j : ℕ) → j < length b → get_or w (i + j) 0 ≡ get_or b j 0
  stands-letter j h =
      rw (← s.fits, ← s.place, get_or-append-add s.left (b ++ s.right) j 0) (get_or-append b s.right 0 j h)

-- and one that would run past the other's end does not stand
pub stands-past : (b w : Word) (i : ℕ) → length w < i + length b → stands_at b w i ≡ false
stands-past b w i h = stands_not b w i (λ s. absurd (omega (arith, stands_ends b w i s)))

-- the empty word stands at every place from 0 to the length
pub stands-empty : (w : Word) (i : ℕ) → i ≤ length w → Stands [] w i
stands-empty w i h = record { left = take i w; right = drop i w; place = length-take-le i w h; fits = take-append-drop i w }

-- the answer of the search from place k on
First : Word → Word → ℕ → Option ℕ → Type 0
First b w k None = (i : ℕ) → stands_at b w i ≡ false
First b w k (Some n) = (i : ℕ) × (n ≡ k + i) × (stands_at b w i ≡ true) × ((j : ℕ) → j < i → stands_at b w j ≡ false)

first_from : (b w : Word) (k : ℕ) → First b w k (leftmost_from b w k)
unfolding First leftmost_from stands_at
first_from b [] k = go (begins b []) refl
  where
    none : begins b [] ≡ false → (i : ℕ) → stands_at b [] i ≡ false
    none e zero = e
    none e (suc i) = refl

    go : (t : Bool) → begins b [] ≡ t → First b [] k (elim t [ true ↦ Some k | false ↦ None ])
    go true e = (0, omega arith, e, λ j h. absurd (omega arith))
    go false e = none e
first_from b (a ∷ w) k = go (begins b (a ∷ w)) refl (leftmost_from b w (suc k)) (first_from b w (suc k))
  where
    moved : begins b (a ∷ w) ≡ false → (o : Option ℕ) → First b w (suc k) o → First b (a ∷ w) k o
    moved e None f = none
      where
        none : (i : ℕ) → stands_at b (a ∷ w) i ≡ false
        none zero = e
        none (suc i) = f i
    moved e (Some n) (i, p, q, r) = (suc i, omega arith, q, before)
      where
        before : (j : ℕ) → j < suc i → stands_at b (a ∷ w) j ≡ false
        before zero h = e
        before (suc j) h = r j (omega arith)

    go : (t : Bool) → begins b (a ∷ w) ≡ t → (o : Option ℕ) → First b w (suc k) o → First b (a ∷ w) k (elim t [ true ↦ Some k | false ↦ o ])
    go true e o f = (0, omega arith, e, λ j h. absurd (omega arith))
    go false e o f = moved e o f

-- an answer is the leftmost place where b stands in w
pub leftmost_at : (b w : Word) (i : ℕ) → leftmost b w ≡ Some i → Stands b w i × ((j : ℕ) → j < i → Stands b w j → ⊥)
unfolding leftmost First
leftmost_at b w i e = go (rw e at (first_from b w 0))
  where
    go : First b w 0 (Some i) → Stands b w i × ((j : ℕ) → j < i → Stands b w j → ⊥)
    go (k, p, q, r) =
        let z : k ≡ i = omega arith in
        (rw z at ((stands_iff b w k).0 q), λ j h. not_stands b w j (r j (omega arith)))

-- no answer: b stands nowhere in w
pub leftmost-nowhere : (b w : Word) → leftmost b w ≡ None → (i : ℕ) → Stands b w i → ⊥
unfolding leftmost First
leftmost-nowhere b w e i = let f : First b w 0 None = rw e at (first_from b w 0) in not_stands b w i (f i)
