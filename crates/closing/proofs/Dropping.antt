-- What closing up keeps and what it drops, and that the polynomial stays the same.
use mathlib.Core.Path.{◌≡◌, refl, sym, ap, ◌∙◌}
use mathlib.Core.Logic.{◌≢◌}
use mathlib.Core.List.{List, [], ◌∷◌, ◌++◌, map}
use Prim.Native.Nat.{ℕ, suc, ◌≤◌, ◌<◌}
use native.Mathlib.Decide.{ℕ_discrete}
use native.Mathlib.Omega.{arith}
use lib.ListN.{length, take, drop, length-append, length-take, length-drop}
use lib.Seq.{take-append_seam, drop-append_seam}
use borrow.Author.Tests.{eq-eqb, ne_eqb}
use Rattle.field.specs.Field.{Operations, Field}
use Rattle.field.proofs.Derived.{zero-add}
use Rattle.lists.specs.All.{All, done, ◌also◌}
use Rattle.words.specs.Word.{Word}
use Rattle.words.specs.Order.{Order, Admissible}
use Rattle.algebra.specs.Poly as P
use Rattle.algebra.specs.Poly.{Poly, where_same, coeff, Same}
use Rattle.algebra.specs.Written.{Written, zero as no-term, term as one-term, written}
use Rattle.algebra.proofs.Coefficients.{coeff-cons, red-coeff, word_discrete, where_same_lem, where_other}
use Rattle.algebra.proofs.Insertion.{written-coeff, written-written}
use Rattle.algebra.proofs.WrittenForm.{written_unique}
use Rattle.working.specs.Working.{terms}
use Rattle.working.specs.Polynomial.{poly_term, poly_at}
use Rattle.working.proofs.Terms.{terms-shift}
use Rattle.closing.specs.declared.Term.{Term}
use Rattle.closing.specs.Closing.{kept, closed}
use Rattle.closing.specs.Denoted.{denoted_term, denoted, InOrder, none, away, left, Falling, next}

kept-nil : kept [] ≡ []
unfolding kept
kept-nil = refl

module _ (t : Term) (ts : List Term) where
  kept-zero : t.coef ≡ 0 → kept (t ∷ ts) ≡ kept ts
  unfolding kept
  kept-zero e = rw (kept, eq-eqb t.coef 0 e)

  kept_other : t.coef ≢ 0 → kept (t ∷ ts) ≡ t ∷ kept ts
  unfolding kept
  kept_other n = rw (kept, ne_eqb t.coef 0 n)

-- No term with coefficient 0 is kept.
pub kept-nonzero : (ts : List Term) → All (λ t. t.coef ≢ 0) (kept ts)
kept-nonzero [] = rw kept-nil done
kept-nonzero (t ∷ ts) = elim (ℕ_discrete t.coef 0) [
  | yes e ↦ rw (kept-zero t ts e) (kept-nonzero ts)
  | no n ↦ rw (kept_other t ts n) (n also kept-nonzero ts)
]

-- The kept terms are terms of the list, in its order.
pub kept_in_order : (ts : List Term) → InOrder (kept ts) ts
kept_in_order [] = rw kept-nil none
kept_in_order (t ∷ ts) = elim (ℕ_discrete t.coef 0) [
  | yes e ↦ rw (kept-zero t ts e) (away (kept_in_order ts))
  | no n ↦ rw (kept_other t ts n) (left (kept_in_order ts))
]

-- No other term is dropped: the kept terms of two parts are kept terms of the whole, and where there is no 0 all are kept.
pub kept_append : (ts us : List Term) → kept (ts ++ us) ≡ kept ts ++ kept us
kept_append [] us = rw kept-nil
kept_append (t ∷ ts) us = elim (ℕ_discrete t.coef 0) [
  | yes e ↦ kept-zero t (ts ++ us) e ∙ kept_append ts us ∙ ap (λ (l : List Term). l ++ kept us) (sym (kept-zero t ts e))
  | no n ↦ kept_other t (ts ++ us) n ∙ ap (λ (l : List Term). t ∷ l) (kept_append ts us) ∙ ap (λ (l : List Term). l ++ kept us) (sym (kept_other t ts n))
]

pub kept_whole : (ts : List Term) → All (λ t. t.coef ≢ 0) ts → kept ts ≡ ts
kept_whole [] done = kept-nil
kept_whole (t ∷ ts) (n also ns) = kept_other t ts n ∙ ap (λ (l : List Term). t ∷ l) (kept_whole ts ns)

kept_shorter : (ts : List Term) → length (kept ts) ≤ length ts
kept_shorter [] = rw kept-nil (omega arith)
kept_shorter (t ∷ ts) = let h = kept_shorter ts in elim (ℕ_discrete t.coef 0) [
  | yes e ↦ rw (kept-zero t ts e) (omega arith)
  | no n ↦ rw (kept_other t ts n) (omega arith)
]

-- The slice at exit: as long as before, with the kept terms at the front, and behind them every entry as it was.
module _ (n : ℕ) (ts : List Term) where
  abbrev count : ℕ
  count = length (kept (take n ts))

  pub closed-length : length (closed n ts) ≡ length ts
  unfolding closed
  closed-length =
      let a = kept_shorter (take n ts) in
      let b = length-take n ts in
      let c = length-drop count ts in
      length-append (kept (take n ts)) (drop count ts) ∙ omega arith

  pub closed-front : take count (closed n ts) ≡ kept (take n ts)
  unfolding closed
  closed-front = take-append_seam (kept (take n ts)) (drop count ts)

  pub closed-behind : drop count (closed n ts) ≡ drop count ts
  unfolding closed
  closed-behind = drop-append_seam (kept (take n ts)) (drop count ts)

-- The polynomial is the one of the parallel number slices that hold the same coefficients, starts and lengths.
module _ (bytes : List ℕ) where
  pub denoted_parallel : (ts : List Term) → denoted bytes ts ≡ poly_at (map (λ t. t.coef) ts) (map (λ t. t.start) ts) (map (λ t. t.len) ts) bytes
  unfolding denoted terms
  denoted_parallel [] = refl
  denoted_parallel (t ∷ ts) =
      ap (λ (f : Poly). denoted_term bytes t ∷ f)
      (denoted_parallel ts
      ∙ sym (one_later (poly_term (map (λ t. t.coef) (t ∷ ts)) (map (λ t. t.start) (t ∷ ts)) (map (λ t. t.len) (t ∷ ts)) bytes)))
    where
      one_later : (F : ℕ → P.Term) → terms F 1 (length (map (λ (t : Term). t.coef) ts)) ≡ terms (λ j. F (suc j)) 0 (length (map (λ (t : Term). t.coef) ts))
      one_later F = terms-shift F (λ j. F (suc j)) 1 0 (length (map (λ (t : Term). t.coef) ts)) (λ j l. ap F (omega arith))

module _ {K : Operations} (F : Field K) (bytes : List ℕ) where
  where_zero : (u w : Word) → where_same u w 0 ≡ 0
  where_zero u w = elim (word_discrete u w) [ yes e ↦ where_same_lem u w 0 e | no n ↦ where_other u w 0 n ]

  coeff-zero : (t : P.Term) (f : Poly) (w : Word) → t.coef ≡ 0 → coeff K (t ∷ f) w ≡ coeff K f w
  coeff-zero t f w e = coeff-cons F t f w ∙ rw (e, where_zero t.word w, zero-add F) (red-coeff F f w)

  coeff-rest : (t : P.Term) (f g : Poly) (w : Word) → coeff K f w ≡ coeff K g w → coeff K (t ∷ f) w ≡ coeff K (t ∷ g) w
  coeff-rest t f g w e = coeff-cons F t f w ∙ ap (K.add (where_same t.word w t.coef)) e ∙ sym (coeff-cons F t g w)

  -- Dropping terms with coefficient 0 changes the coefficient at no word.
  pub kept_same : (ts : List Term) → Same K (denoted bytes (kept ts)) (denoted bytes ts)
  unfolding denoted
  kept_same [] w = rw kept-nil
  kept_same (t ∷ ts) w = elim (ℕ_discrete t.coef 0) [
    | yes e ↦ rw (kept-zero t ts e) (kept_same ts w ∙ sym (coeff-zero (denoted_term bytes t) (denoted bytes ts) w e))
    | no n ↦ rw (kept_other t ts n) (coeff-rest (denoted_term bytes t) (denoted bytes (kept ts)) (denoted bytes ts) w (kept_same ts w))
  ]

  -- So the terms that are left at exit are the polynomial that the first n were at entry.
  pub closed_same : (n : ℕ) (ts : List Term) → Same K (denoted bytes (take (length (kept (take n ts))) (closed n ts))) (denoted bytes (take n ts))
  closed_same n ts w = rw (closed-front n ts) (kept_same (take n ts) w)

  kept-all : {Q : P.Term → Type 0} (ts : List Term) → All Q (denoted bytes ts) → All Q (denoted bytes (kept ts))
  unfolding denoted
  kept-all [] done = rw kept-nil done
  kept-all (t ∷ ts) (q also qs) = elim (ℕ_discrete t.coef 0) [
    | yes e ↦ rw (kept-zero t ts e) (kept-all ts qs)
    | no n ↦ rw (kept_other t ts n) (q also kept-all ts qs)
  ]

  -- Where the words fall and the coefficients are elements, 0 or not, the kept terms are in written form.
  pub kept-written : {O : Order} (ts : List Term) → All (λ t. t.coef < K.size) ts → Falling O (denoted bytes ts) → Written K O (denoted bytes (kept ts))
  unfolding denoted
  kept-written [] done none = rw kept-nil no-term
  kept-written (t ∷ ts) (h also hs) (next a f) = elim (ℕ_discrete t.coef 0) [
    | yes e ↦ rw (kept-zero t ts e) (kept-written ts hs f)
    | no n ↦ rw (kept_other t ts n) (one-term h n (kept-all ts a) (kept-written ts hs f))
  ]

  -- They are the written form of the polynomial.
  pub kept_is_written : {O : Order} → Admissible O → (ts : List Term) → All (λ t. t.coef < K.size) ts → Falling O (denoted bytes ts)
      → denoted bytes (kept ts) ≡ written K O (denoted bytes ts)
  kept_is_written A ts h f =
      written_unique F A (kept-written ts h f) (written-written F A (denoted bytes ts)) (λ w. kept_same ts w ∙ sym (written-coeff F A (denoted bytes ts) w))
