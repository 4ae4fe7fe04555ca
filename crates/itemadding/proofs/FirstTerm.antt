-- The first term of a multiple cancels a term of the formula: the formula without that term is left, and the other terms of the multiple to add.
use mathlib.Core.Path.{◌≡◌, refl, sym, ap, ◌∙◌}
use mathlib.Core.List.{List}
use Prim.Native.Nat.{ℕ, ◌+◌, ◌-◌, ◌≤◌, ◌<◌}
use native.Mathlib.Decide.{dec_lt}
use native.Mathlib.Omega.{arith}
use lib.ListN.{get_or}
use Rattle.field.proofs.Derived.{opposite_cancels}
use Rattle.words.specs.Word.{Word, around}
use Rattle.words.specs.Order.{Lt}
use Rattle.words.proofs.Admissible.{order_refl}
use Rattle.algebra.specs.Groebner.{lead, lead_coef}
use Rattle.algebra.specs.Written.{insert, plus}
use Rattle.algebra.proofs.Insertion.{put-zero}
use Rattle.working.specs.Working.{terms}
use Rattle.working.specs.Change.{single, onto, without}
use Rattle.working.proofs.Inserted.{insert-equal}
use Rattle.table.specs.Polynomials.{word_in, term_in}
use Rattle.table.specs.Table.{field_in, order_in, coef_in}
use Rattle.table.specs.Tabled.{Tabled}
use Rattle.table.proofs.LeadingTerms.{terms-first}
use Rattle.packedterms.specs.Behind.{Behind}
use Rattle.packedterms.specs.Formula.{word_at, term_at, formula, Working}
use Rattle.packedterms.proofs.BehindTerms.{behind-first}
use Rattle.packedterms.proofs.Places.{words_fall}
use Rattle.itemadding.specs.LeadPlace.{LeadPlace}
use Rattle.itemadding.proofs.Sums.{rest, rest-next, rest_end, sum-next, plus-end}

module _ (t : List ℕ) (tabled : Tabled t) (a b : ℕ) (x : ℕ) (left right : Word) (c l w o : List ℕ) (n k : ℕ) (held : Working t c l w o n) (h : k < n)
    (at : LeadPlace (field_in t) x left right (terms (term_in t) a (b - a)) (term_at t c l w o k)) where
  abbrev v : Word
  v = word_at t l w (get_or o k 0)

  first : (0 < b - a) × (lead (terms (term_in t) a (b - a)) ≡ word_in t a) × (lead_coef (terms (term_in t) a (b - a)) ≡ coef_in t a)
  first = terms-first (term_in t) a (b - a) at.some

  some : a < b
  some = let q = first.0 in omega arith

  word_is : v ≡ around left right (word_in t a)
  word_is = sym at.word ∙ ap (around left right) first.1

  coef_is : (field_in t).mul x (coef_in t a) ≡ get_or c (get_or o k 0) 0
  coef_is = ap ((field_in t).mul x) (sym first.2) ∙ at.coef

  falling : (j : ℕ) → j < k → Lt (order_in t) v (word_at t l w (get_or o j 0))
  falling j z = words_fall t c l w o n held j k z h

  -- a word that is less than the product of the first term is behind term k
  pub second-behind : (u : Word) → Lt (order_in t) (around left right u) (around left right (word_in t a))
      → Behind (order_in t) (around left right u) (k + 1) (formula t c l w o n)
  second-behind u d = behind-first (order_in t) (around left right u) (term_at t c l w o) (k + 1) n (omega arith) (λ j z. go j z (dec_lt j k))
    where
      go : (j : ℕ) → j < k + 1 → Dec (j < k) → Lt (order_in t) (around left right u) (word_at t l w (get_or o j 0))
      go j z (yes g) = tabled.suits.admissible.trans (around left right u) v (word_at t l w (get_or o j 0)) (rw word_is d) (falling j g)
      go j z (no g) = let e : j ≡ k = omega arith in rw (e, word_is) d

  -- the first term taken away
  abbrev y : ℕ
  y = (field_in t).mul ((field_in t).neg x) (coef_in t a)

  left_out : without (term_at t c l w o) n k ≡ insert (field_in t) (order_in t) (single y v) (formula t c l w o n)
  left_out =
      let none = tabled.field.red-add y (get_or c (get_or o k 0) 0) ∙ opposite_cancels tabled.field x (coef_in t a) (get_or c (get_or o k 0) 0) coef_is in
      let out : without (term_at t c l w o) n k ≡ onto (field_in t) (term_at t c l w o) n k y = rw (put-zero (field_in t) _ v (terms (term_at t c l w o) (k + 1) (n - (k + 1))) none) in
      out ∙ sym (insert-equal (field_in t) (order_in t) (single y v) (term_at t c l w o) n k falling h (order_refl tabled.suits.admissible v))

  -- what is left, with the other terms
  pub cancelled_sum : plus (field_in t) (order_in t) (without (term_at t c l w o) n k) (rest t ((field_in t).neg x) left right b (a + 1))
      ≡ plus (field_in t) (order_in t) (formula t c l w o n) (rest t ((field_in t).neg x) left right b a)
  cancelled_sum =
      sum-next (field_in t) (order_in t) (formula t c l w o n) (single y v) (without (term_at t c l w o) n k) (rest t ((field_in t).neg x) left right b a)
      (rest t ((field_in t).neg x) left right b (a + 1)) left_out (rest-next t ((field_in t).neg x) left right b a y v some refl word_is)

  -- where there are none, that is all
  pub cancelled_all : b ≤ a + 1
      → without (term_at t c l w o) n k ≡ plus (field_in t) (order_in t) (formula t c l w o n) (rest t ((field_in t).neg x) left right b a)
  cancelled_all q =
      sym (ap (plus (field_in t) (order_in t) (without (term_at t c l w o) n k)) (rest_end t ((field_in t).neg x) left right b (a + 1) q) ∙ plus-end (field_in t) (order_in t) _)
      ∙ cancelled_sum
