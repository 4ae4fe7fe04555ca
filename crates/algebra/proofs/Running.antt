-- What running gives: a sequence of steps, their number, and a short form.
-- First: a line that is taken away is its product subtracted, and the result is in written form (`take_away-coeff`, `take_away-written`). Then
-- `run`, by induction on the budget: an answer ends a sequence that is as long as the step count (`run_sequence`). Then any sequence, by induction
-- on its steps: its end is in written form with no leading word inside, and the lines taken away add up to the difference (`sequence_ran`, for any
-- property of words and one of lines that the steps keep). With words in the package's letters for that property: the lines are over the letters
-- (`sequence_over`), the end is in them (`sequence_letters`), and under an accepted basis the end is the short form (`sequence_short`).
use mathlib.Core.Path.{◌≡◌, refl, sym, ◌∙◌}
use mathlib.Core.Bool.{Bool, true, false}
use mathlib.Core.List.{List, [], ◌∷◌, ◌++◌}
use Prim.Native.Nat.{ℕ, zero, suc, ◌+◌}
use native.Mathlib.Omega.{arith}
use lib.Dec.{ltb}
use lib.ListN.{length}
use Rattle.field.specs.Field.{Operations, Field}
use Rattle.field.proofs.Derived.{neg-eq-mul, sub_self, add-sub-add_cancel}
use Rattle.lists.specs.All.{All, done, ◌also◌}
use Rattle.words.specs.Word.{Word}
use Rattle.words.specs.Order.{Order, Admissible}
use Rattle.lists.proofs.Every.{all_map, all_split}
use Rattle.algebra.specs.Poly.{Term, Poly, coeff, Same, scale, shift, sub, InLetters}
use Rattle.algebra.specs.Written.{Written}
use Rattle.algebra.specs.Ideal.{Family, family, Line, product, value, Over}
use Rattle.algebra.specs.Groebner.{lead}
use Rattle.algebra.specs.Short.{Reduced, Accepted, Short}
use Rattle.algebra.specs.Spot.{spot, found, Target, reduced, reducible, target}
use Rattle.algebra.specs.Steps.{take_away, line_at, stepped, Sequence, ended, step, Ended, answer, over, spent, onward, run}
use Rattle.algebra.proofs.Coefficients.{scale-words, shift-letters, coeff-nil, coeff-append, coeff-scale, coeff-sub}
use Rattle.algebra.proofs.Sums.{ideal_trans}
use Rattle.algebra.proofs.Leading.{led-ne-nil}
use Rattle.algebra.proofs.Insertion.{plus-coeff, plus-written, plus-words}
use Rattle.algebra.proofs.Spots.{spot-found, spot-nowhere, target-reducible, target-reduced}

module _ {K : Operations} (F : Field K) {O : Order} (A : Admissible O) (G : Family) where
  open K use {add, mul, neg}
  open F use {mul_assoc}

  -- taking a line away is subtracting its product
  pub take_away-coeff : (f : Poly) (x : Line) (w : Word) → coeff K (take_away K O G f x) w ≡ coeff K (sub K f (product K G x)) w
  unfolding take_away product
  take_away-coeff f x w =
      let g = shift x.left x.right (G x.of) in
      plus-coeff F A f (scale K (neg x.coef) g) w
      ∙ rw (coeff-scale F (neg x.coef) g w, neg-eq-mul F x.coef, mul_assoc)
      (sym (coeff-sub F f (product K G x) w ∙ rw (coeff-scale F x.coef g w)))

  pub take_away-written : (f : Poly) (x : Line) → Written K O f → Written K O (take_away K O G f x)
  unfolding take_away
  take_away-written f x c = plus-written F A f (scale K (neg x.coef) (shift x.left x.right (G x.of))) c

module _ (limit : ℕ) (K : Operations) (O : Order) (ps : List Poly) where
  -- an answer after m steps in all: its sequence has the steps that were made since `used`
  Since : ℕ → Poly → Ended → Type 0
  Since used f (answer N m) = (xs : List Line) × Sequence K O ps f xs N × (m ≡ used + length xs)
  Since used f (over m) = Unit {0}
  Since used f spent = Unit {0}

  since : (b used : ℕ) (f : Poly) → Since used f (run limit K O ps b used f)
  unfolding Since run onward
  since zero used f = go (target ps f) refl
    where
      go : (o : Target) → target ps f ≡ o → Since used f (onward (λ t i n. spent) f used o)
      go reduced e = ([], ended e, omega arith)
      go (reducible t i n) e = tt
  since (suc b) used f = go (target ps f) refl (λ t i n. since b (suc used) (stepped K O ps f t i n))
    where
      more : (t : Term) (i n : ℕ) → target ps f ≡ reducible t i n → (o : Ended) → Since (suc used) (stepped K O ps f t i n) o → Since used f o
      more t i n e (answer N m) (xs, s, p) = (line_at K ps t i n ∷ xs, step e s, omega arith)
      more t i n e (over m) h = tt
      more t i n e spent h = tt

      by : (t : Term) (i n : ℕ) → target ps f ≡ reducible t i n → (c : Bool)
          → Since (suc used) (stepped K O ps f t i n) (run limit K O ps b (suc used) (stepped K O ps f t i n))
          → Since used f (elim c [ true ↦ over (suc used) | false ↦ run limit K O ps b (suc used) (stepped K O ps f t i n) ])
      by t i n e true h = tt
      by t i n e false h = more t i n e (run limit K O ps b (suc used) (stepped K O ps f t i n)) h

      go : (o : Target) → target ps f ≡ o
          → ((t : Term) (i n : ℕ) → Since (suc used) (stepped K O ps f t i n) (run limit K O ps b (suc used) (stepped K O ps f t i n)))
          → Since used f (onward (λ t i n. elim (ltb limit (length (stepped K O ps f t i n))) [ true ↦ over (suc used) | false ↦ run limit K O ps b (suc used) (stepped K O ps f t i n) ]) f used o)
      go reduced e rest = ([], ended e, omega arith)
      go (reducible t i n) e rest = by t i n e (ltb limit (length (stepped K O ps f t i n))) (rest t i n)

  -- the answer ends the sequence of steps, and the step count is the sequence's length
  pub run_sequence : (b : ℕ) (f N : Poly) (m : ℕ) → run limit K O ps b 0 f ≡ answer N m → (xs : List Line) × Sequence K O ps f xs N × (length xs ≡ m)
  unfolding Since
  run_sequence b f N m e = go (rw e at (since b 0 f))
    where
      go : Since 0 f (answer N m) → (xs : List Line) × Sequence K O ps f xs N × (length xs ≡ m)
      go (xs, s, p) = (xs, s, omega arith)

-- What holds of a sequence: its end is in written form with no leading word inside, its lines have the property Q, and they add up to the difference.
pub record Ran (Q : Line → Type 0) (K : Operations) (O : Order) (ps : List Poly) (f : Poly) (xs : List Line) (N : Poly) : Type 0 where
  pub written : Written K O N
  pub reduced : Reduced K O (family ps) N
  pub lines : All Q xs
  pub equal : Same K (sub K f N) (value K (family ps) xs)

module _ {K : Operations} (F : Field K) {O : Order} (A : Admissible O) (ps : List Poly) where
  -- where no word has a spot, no leading word stands inside
  pub reduced_of_target : (f : Poly) → target ps f ≡ reduced → Reduced K O (family ps) f
  reduced_of_target f e =
      all_map (λ t s p. spot-nowhere ps t.word s p.of p.left p.right (led-ne-nil p.real) p.fits) (target-reduced ps f e)

  -- a property P of words and one Q of lines that the steps keep
  module _ (P : Word → Type 0) (Q : Line → Type 0)
      (line_ok : (t : Term) (i n : ℕ) → P t.word → spot ps t.word ≡ found i n → Q (line_at K ps t i n))
      (words-ok : (x : Line) → Q x → All (λ t. P t.word) (shift x.left x.right (family ps x.of))) where
    stepped-words : (f : Poly) (x : Line) → All (λ t. P t.word) f → Q x → All (λ t. P t.word) (take_away K O (family ps) f x)
    unfolding take_away
    stepped-words f x v q = plus-words K O P f _ v (scale-words K P (K.neg x.coef) (shift x.left x.right (family ps x.of)) (words-ok x q))

    -- a property of all words that the steps keep
    pub sequence_words : {f N : Poly} {xs : List Line} → All (λ t. P t.word) f → Sequence K O ps f xs N → All (λ t. P t.word) N
    unfolding stepped
    sequence_words v (ended e) = v
    sequence_words {f} v (step {t = t} {i} {n} e s) =
        let (a, b) = target-reducible ps (λ r. P r.word) f t i n v e in sequence_words (stepped-words f (line_at K ps t i n) v (line_ok t i n a b)) s

    pub sequence_ran : {f N : Poly} {xs : List Line} → Written K O f → All (λ t. P t.word) f → Sequence K O ps f xs N → Ran Q K O ps f xs N
    unfolding stepped value
    sequence_ran {f} c v (ended e) = record {
      written = c;
      reduced = reduced_of_target f e;
      lines = done;
      equal = λ w. coeff-sub F f f w ∙ rw (sub_self F) (sym (coeff-nil F w));
    }
    sequence_ran {f} {N} c v (step {xs = xs} {t} {i} {n} e s) =
        go (sequence_ran (take_away-written F A (family ps) f x c) (stepped-words f x v q) s)
      where
        x : Line
        x = line_at K ps t i n

        q : Q x
        q = let (a, b) = target-reducible ps (λ r. P r.word) f t i n v e in line_ok t i n a b

        go : Ran Q K O ps (take_away K O (family ps) f x) xs N → Ran Q K O ps f (x ∷ xs) N
        go r = record {
          written = r.written;
          reduced = r.reduced;
          lines = q also r.lines;
          equal = λ w. coeff-sub F f N w ∙ sym (coeff-append F (product K (family ps) x) (value K (family ps) xs) w
              ∙ rw (
                sym (r.equal w) ∙ coeff-sub F (take_away K O (family ps) f x) N w,
                take_away-coeff F A (family ps) f x w,
                coeff-sub F f (product K (family ps) x) w,
              ) (add-sub-add_cancel F _ _ _));
        }

  module _ (L : ℕ → Type 0) (valid : (i : ℕ) → InLetters L (family ps i)) where
    line-over : (t : Term) (i n : ℕ) → All L t.word → spot ps t.word ≡ found i n → Over L (line_at K ps t i n)
    unfolding line_at
    line-over t i n a e =
        let (c, d) = spot-found ps t.word i n e in
        let (x, y) = all_split (line_at K ps t i n).left (lead (family ps n) ++ (line_at K ps t i n).right) (rw (← d) at a) in
        let (z, u) = all_split (lead (family ps n)) (line_at K ps t i n).right y in
        (x, u)

    -- the lines taken away are over the letters
    pub sequence_over : {f N : Poly} {xs : List Line} → Written K O f → InLetters L f → Sequence K O ps f xs N → Ran (Over L) K O ps f xs N
    sequence_over = sequence_ran (All L) (Over L) line-over (λ x o. shift-letters L x.left x.right _ o.0 o.1 (valid x.of))

    -- the end of the sequence is in the letters
    pub sequence_letters : {f N : Poly} {xs : List Line} → InLetters L f → Sequence K O ps f xs N → InLetters L N
    sequence_letters = sequence_words (All L) (Over L) line-over (λ x o. shift-letters L x.left x.right _ o.0 o.1 (valid x.of))

    -- the end of the sequence is the short form
    pub sequence_short : {H : Family} → Accepted L K O H (family ps) → {f N : Poly} {xs : List Line}
        → Written K O f → InLetters L f → Sequence K O ps f xs N → Short L K O H (family ps) f N
    sequence_short acc {xs = xs} c v s =
        let r = sequence_over c v s in
        record { written = r.written; reduced = r.reduced; differs = ideal_trans F acc.basis-sums (record { lines = xs; words = r.lines; equal = r.equal }) }
