-- A term put behind the others, or before term k: the arrays hold one term more, and the polynomial has the term there.
use mathlib.Core.Path.{◌≡◌, ap, ◌∙◌}
use mathlib.Core.List.{List, [], ◌∷◌, ◌++◌}
use Prim.Native.Nat.{ℕ, ◌+◌, ◌-◌, ◌*◌, ◌≤◌, ◌<◌}
use native.Mathlib.Decide.{dec_lt}
use native.Mathlib.Omega.{arith}
use lib.ListN.{length, get_or, take, length-set}
use lib.Seq.{length-sets, get_or-set_same, get_or-set_other}
use Rattle.algebra.specs.Poly.{Term}
use Rattle.working.specs.Working.{terms}
use Rattle.working.specs.Rotation.{rotated_right, rotated_left}
use Rattle.working.specs.Change.{single, before}
use Rattle.working.proofs.Terms.{terms-last, terms-same, terms-right}
use Rattle.working.proofs.Rotations.{left-right, right-below}
use Rattle.table.specs.Words.{word_of, Held, Built}
use Rattle.packedterms.specs.Change.{Stored, PutBefore}
use Rattle.packedterms.specs.Formula.{blocks_at, placed, term_at, formula, Holds}
use Rattle.packedterms.proofs.BuiltWords.{built-six, built-held, built-word}
use Rattle.packedterms.proofs.StoredBlocks.{blocks-kept, blocks-new}
use Rattle.packedterms.proofs.Places.{entry_place, place_inside, holds_moved}

-- A term stored at the first free place.
module _ (t c l w o : List ℕ) (n x e : ℕ) (bs c' l' w' : List ℕ) (f : Holds t c l w o n) (free : n < 560)
    (six : length bs ≡ 6) (own : Held t e bs) (put : Stored c l w (get_or o n 0) x e bs c' l' w') where
  abbrev s : ℕ
  s = get_or o n 0

  -- the place is that of no term
  other : (i : ℕ) → i < n → get_or o i 0 ≡ s → ⊥
  other i q z = let p = f.room.places in let d = f.arranged.apart i n (omega arith) (omega arith) z in omega arith

  there : s < 560
  there = entry_place t c l w o n f n free

  inside : s * 6 + 6 ≤ length w
  inside = place_inside t c l w o n f n free

  coef-kept : (i : ℕ) → i < n → get_or c' (get_or o i 0) 0 ≡ get_or c (get_or o i 0) 0
  coef-kept i q = rw put.coefs (get_or-set_other c s (get_or o i 0) x 0 (other i q))

  size-kept : (i : ℕ) → i < n → get_or l' (get_or o i 0) 0 ≡ get_or l (get_or o i 0) 0
  size-kept i q = rw put.sizes (get_or-set_other l s (get_or o i 0) e 0 (other i q))

  kept : (i : ℕ) → i < n → blocks_at w' (get_or o i 0) ≡ blocks_at w (get_or o i 0)
  kept i q = rw put.blocks (blocks-kept w bs s six inside (get_or o i 0) (place_inside t c l w o n f i (omega arith)) (other i q))

  coef-new : get_or c' s 0 ≡ x
  coef-new = rw put.coefs (get_or-set_same c s x 0 (omega (arith, f.room.coefs, there)))

  size-new : get_or l' s 0 ≡ e
  size-new = rw put.sizes (get_or-set_same l s e 0 (omega (arith, f.room.sizes, there)))

  new : blocks_at w' s ≡ bs
  new = rw put.blocks (blocks-new w bs s six inside)

  term-kept : (i : ℕ) → i < n → term_at t c' l' w' o i ≡ term_at t c l w o i
  term-kept i q = rw (coef-kept i q, size-kept i q, kept i q)

  term-new : term_at t c' l' w' o n ≡ single x (word_of t e bs)
  term-new = rw (coef-new, size-new, new)

  -- one term more, behind the others
  pub last-holds : Holds t c' l' w' o (n + 1)
  last-holds = record {
    count = omega arith;
    room = record {
      coefs = rw (put.coefs, length-set) f.room.coefs;
      sizes = rw (put.sizes, length-set) f.room.sizes;
      blocks = rw (put.blocks, length-sets) f.room.blocks;
      places = f.room.places;
    };
    arranged = f.arranged;
    held = λ i q. held i q (dec_lt i n);
  }
    where
      held : (i : ℕ) → i < n + 1 → Dec (i < n) → Held t (get_or l' (get_or o i 0) 0) (blocks_at w' (get_or o i 0))
      held i q (yes r) = rw (size-kept i r, kept i r) (f.held i r)
      held i q (no r) = let z : i ≡ n = omega arith in rw (z, size-new, new) own

  pub last-formula : formula t c' l' w' o (n + 1) ≡ formula t c l w o n ++ (single x (word_of t e bs) ∷ [])
  last-formula =
      let G : ℕ → Term = term_at t c' l' w' o in
      let front : terms G 0 n ≡ formula t c l w o n = terms-same G (term_at t c l w o) 0 n (λ j _ q. term-kept j (omega arith)) in
      terms-last G n ∙ rw (front, term-new)

-- A term put before term k.
module _ (t c l w o : List ℕ) (n k x : ℕ) (v : List ℕ) (e : ℕ) (c' l' w' o' : List ℕ) (f : Holds t c l w o n)
    (free : n < 560) (h : k ≤ n) (b : Built t e v) (put : PutBefore c l w o n k x v e c' l' w' o') where
  pub before-holds : Holds t c' l' w' o' (n + 1)
  before-holds =
      let p = f.room.places in
      holds_moved t c' l' w' o o' (n + 1) (rotated_right k n) (rotated_left k n) (left-right k n h)
      (λ j q. right-below k n h (length o) j (omega arith) q) (λ j q. right-below k n h (n + 1) j (omega arith) q) put.entries
      (last-holds t c l w o n x e (take 6 v) c' l' w' f free (built-six t e v b) (built-held t e v b) put.stored)

  pub before-formula : formula t c' l' w' o' (n + 1) ≡ before (term_at t c l w o) n k x (word_of t e v)
  before-formula =
      let G : ℕ → Term = term_at t c' l' w' o in
      let F : ℕ → Term = term_at t c l w o in
      let same = term-kept t c l w o n x e (take 6 v) c' l' w' f free (built-six t e v b) (built-held t e v b) put.stored in
      let last = term-new t c l w o n x e (take 6 v) c' l' w' f free (built-six t e v b) (built-held t e v b) put.stored in
      let front : terms G 0 k ≡ terms F 0 k = terms-same G F 0 k (λ j _ q. same j (omega arith)) in
      let back : terms G k (n - k) ≡ terms F k (n - k) = terms-same G F k (n - k) (λ j q r. same j (omega arith)) in
      terms-right (term_at t c' l' w' o') G k n h (λ j. ap (placed t c' l' w') (put.entries.at j))
      ∙ rw (front, back, last, built-word t e v b)
