-- The terms of a multiple added one after the other: what is held, with those that are left added to it, is the sum.
use mathlib.Core.Path.{◌≡◌, refl, sym, ap, ap₂, ◌∙◌}
use mathlib.Core.List.{List, [], ◌∷◌}
use Prim.Native.Nat.{ℕ, zero, suc, ◌+◌, ◌-◌, ◌≤◌, ◌<◌}
use native.Mathlib.Omega.{arith}
use lib.ListN.{drop}
use Rattle.words.specs.Word.{Word, around}
use Rattle.words.specs.Order.{Order}
use Rattle.field.specs.Field.{Operations, Field, field_of}
use Rattle.field.proofs.Derived.{one_mul}
use Rattle.field.proofs.Fields.{element_of}
use Rattle.algebra.specs.Poly.{Term, Poly, scale, shift}
use Rattle.algebra.specs.Written.{insert, plus}
use Rattle.algebra.proofs.Insertion.{insert-written}
use Rattle.working.specs.Working.{terms}
use Rattle.working.specs.Change.{single, without}
use Rattle.working.proofs.Terms.{terms-next, terms-end}
use Rattle.table.specs.Polynomials.{word_in, term_in}
use Rattle.table.specs.Table.{prime_in, field_in, order_in, terms_in, coef_in}
use Rattle.table.specs.Tabled.{Tabled}
use Rattle.packedterms.specs.Formula.{term_at, formula, Holds, Working}
use Rattle.packedterms.proofs.LeftOut.{without-written}

-- k terms are held in written form, and with `rest` added they are `whole`
pub record Adding (t c l w o : List ℕ) (k : ℕ) (rest whole : Poly) : Type 0 where
  pub working : Working t c l w o k
  pub sum : plus (field_in t) (order_in t) (formula t c l w o k) rest ≡ whole

plus-next : (K : Operations) (O : Order) (f : Poly) (s : Term) (g : Poly) → plus K O f (s ∷ g) ≡ plus K O (insert K O s f) g
unfolding plus
plus-next K O f s g = refl

pub plus-end : (K : Operations) (O : Order) (f : Poly) → plus K O f [] ≡ f
unfolding plus
plus-end K O f = refl

-- The first term of what is left was inserted.
pub sum-next : (K : Operations) (O : Order) (d : Poly) (s : Term) (f r r' : Poly) → f ≡ insert K O s d → r ≡ s ∷ r' → plus K O f r' ≡ plus K O d r
sum-next K O d s f r r' e q = ap (λ (g : Poly). plus K O g r') e ∙ sym (plus-next K O d s r') ∙ ap (plus K O d) (sym q)

-- The last term of what is left was inserted.
pub sum-end : (K : Operations) (O : Order) (d : Poly) (s : Term) (f r r' : Poly) → f ≡ insert K O s d → r ≡ s ∷ r' → r' ≡ [] → f ≡ plus K O d r
sum-end K O d s f r r' e q z = sym (ap (plus K O f) z ∙ plus-end K O f) ∙ sum-next K O d s f r r' e q

-- A coefficient times x, as it is computed: p is the field's number, c the coefficient.
pub times_coef : (t : List ℕ) (j p x c z : ℕ) → p ≡ prime_in t → c ≡ coef_in t j → z ≡ (field_of p).mul x c → z ≡ (field_in t).mul x (coef_in t j)
times_coef t j p x c z prime coef product = product ∙ rw (coef, prime)

-- The same where x is 1: it is the coefficient, an element.
pub times_one : (t : List ℕ) → Tabled t → (j x c : ℕ) → j < terms_in t → x ≡ 1 → c ≡ coef_in t j → c ≡ (field_in t).mul x (coef_in t j)
times_one t T j x c h one coef =
    coef ∙ sym (rw one (one_mul T.field (coef_in t j) ∙ T.field.red_elem (coef_in t j) (element_of (prime_in t) (T.small j h))))

-- The coefficient of a term, times the opposite of x, as it is computed: p is the field's number, y the opposite, c the coefficient.
pub opposite_times : (t : List ℕ) (j p x y c z : ℕ) → p ≡ prime_in t → y ≡ (field_of p).neg x → c ≡ coef_in t j → z ≡ (field_of p).mul y c
    → z ≡ (field_in t).mul ((field_in t).neg x) (coef_in t j)
opposite_times t j p x y c z prime opposite coef product = product ∙ rw (opposite, coef, prime)

-- The same where the coefficient is 1: it is the opposite.
pub opposite_one : (t : List ℕ) → Field (field_in t) → (j p x y : ℕ) → p ≡ prime_in t → y ≡ (field_of p).neg x → coef_in t j ≡ 1
    → y ≡ (field_in t).mul ((field_in t).neg x) (coef_in t j)
opposite_one t laws j p x y prime opposite one =
    opposite ∙ rw (prime, one) (sym (laws.mul_one ((field_in t).neg x) ∙ laws.red-neg x))

-- A run of terms without its first k.
drop-terms : (F : ℕ → Term) (i n k : ℕ) → drop k (terms F i n) ≡ terms F (i + k) (n - k)
unfolding terms
drop-terms F i n zero =
    let a : i ≡ i + 0 = omega arith in
    let b : n ≡ n - 0 = omega arith in
    ap₂ (terms F) a b
drop-terms F i zero (suc k) =
    let b : 0 ≡ 0 - suc k = omega arith in
    ap (terms F (i + suc k)) b
drop-terms F i (suc n) (suc k) =
    let a : suc i + k ≡ i + suc k = omega arith in
    let b : n - k ≡ suc n - suc k = omega arith in
    drop-terms F (suc i) n k ∙ ap₂ (terms F) a b

module _ (t : List ℕ) (x : ℕ) (left right : Word) (end : ℕ) where
  -- the terms of the multiple from term j of the table on
  abbrev pub rest : ℕ → Poly
  rest j = scale (field_in t) x (shift left right (terms (term_in t) j (end - j)))

  multiple_next : (s : Term) (g : Poly)
      → scale (field_in t) x (shift left right (s ∷ g))
      ≡ single ((field_in t).mul x s.coef) (around left right s.word) ∷ scale (field_in t) x (shift left right g)
  unfolding scale shift
  multiple_next s g = refl

  multiple_end : scale (field_in t) x (shift left right []) ≡ []
  unfolding scale shift
  multiple_end = refl

  pub rest_end : (j : ℕ) → end ≤ j → rest j ≡ []
  rest_end j h = ap (λ (g : Poly). scale (field_in t) x (shift left right g)) (terms-end (term_in t) j end h) ∙ multiple_end

  -- the multiple of the terms from j on without their first k
  pub rest_skip : (j k : ℕ) → scale (field_in t) x (shift left right (drop k (terms (term_in t) j (end - j)))) ≡ rest (j + k)
  rest_skip j k =
      let e : end - j - k ≡ end - (j + k) = omega arith in
      ap (λ (g : Poly). scale (field_in t) x (shift left right g)) (drop-terms (term_in t) j (end - j) k ∙ ap (terms (term_in t) (j + k)) e)

  -- the first of them, with the coefficient y and the word v
  pub rest-next : (j y : ℕ) (v : Word) → j < end → y ≡ (field_in t).mul x (coef_in t j) → v ≡ around left right (word_in t j)
      → rest j ≡ single y v ∷ rest (j + 1)
  rest-next j y v h d e =
      ap (λ (g : Poly). scale (field_in t) x (shift left right g)) (terms-next (term_in t) j end h)
      ∙ multiple_next (term_in t j) (terms (term_in t) (j + 1) (end - (j + 1)))
      ∙ rw (d, e)

module _ (t : List ℕ) (tabled : Tabled t) (c l w o : List ℕ) (k : ℕ) where
  -- the arrays were in written form, and a term was inserted
  module _ (held : Working t c l w o k) (c' l' w' o' : List ℕ) (k' : ℕ) (s : Term) (f : Holds t c' l' w' o' k')
      (d : formula t c' l' w' o' k' ≡ insert (field_in t) (order_in t) s (formula t c l w o k)) where
    pub inserted_working : Working t c' l' w' o' k'
    inserted_working = record {
      holds = f;
      written = rw d (insert-written tabled.field tabled.suits.admissible s held.written);
    }

    pub inserted_sum : (g g' : Poly) → g ≡ s ∷ g' → plus (field_in t) (order_in t) (formula t c' l' w' o' k') g' ≡ plus (field_in t) (order_in t) (formula t c l w o k) g
    inserted_sum g g' = sum-next (field_in t) (order_in t) (formula t c l w o k) s (formula t c' l' w' o' k') g g' d

  pub adding_next : (r whole : Poly) → Adding t c l w o k r whole → (c' l' w' o' : List ℕ) (k' : ℕ) (s : Term) (r' : Poly) → r ≡ s ∷ r'
      → Holds t c' l' w' o' k' → formula t c' l' w' o' k' ≡ insert (field_in t) (order_in t) s (formula t c l w o k) → Adding t c' l' w' o' k' r' whole
  adding_next r whole g c' l' w' o' k' s r' e f d = record {
    working = inserted_working g.working c' l' w' o' k' s f d;
    sum = inserted_sum g.working c' l' w' o' k' s f d r r' e ∙ g.sum;
  }

pub adding_end : (t c l w o : List ℕ) (k : ℕ) (r whole : Poly) → Adding t c l w o k r whole → r ≡ [] → formula t c l w o k ≡ whole
adding_end t c l w o k r whole g e =
    sym (ap (plus (field_in t) (order_in t) (formula t c l w o k)) e ∙ plus-end (field_in t) (order_in t) (formula t c l w o k)) ∙ g.sum

-- A term was left out, and another inserted.
pub replaced_working : (t : List ℕ) → Tabled t → (c l w o : List ℕ) (n k : ℕ) → Working t c l w o n → k < n → (c' l' w' o' : List ℕ) (r : ℕ) (s : Term)
    → Holds t c' l' w' o' r → formula t c' l' w' o' r ≡ insert (field_in t) (order_in t) s (without (term_at t c l w o) n k) → Working t c' l' w' o' r
replaced_working t tabled c l w o n k held h c' l' w' o' r s f d = record {
  holds = f;
  written = rw d (insert-written tabled.field tabled.suits.admissible s (without-written t c l w o n k h held));
}

-- what holds of the numbers at the top of a turn: the item's terms start at first, and the first `skip` of them are left out
pub record Going (first skip n i k : ℕ) : Type 0 where
  pub from : first ≤ i
  pub low : i ≤ first + 48
  pub less : k + (first + skip) ≤ n + i
