-- Words of letters and words of their codes, whatever the codes are: the order, the places and the leftmost place are the same.
use mathlib.Core.Path.{◌≡◌, refl, sym, ◌∙◌, ap, ap₂}
use mathlib.Core.Bool.{Bool, true, false}
use mathlib.Core.Logic.{◌↔◌}
use mathlib.Core.List.{[], ◌∷◌, map}
use Prim.Native.Nat.{ℕ, zero, suc, ◌<◌}
use native.Mathlib.Decide.{ℕ_discrete, dec_lt}
use native.Mathlib.Omega.{arith}
use borrow.Author.Tests.{eq-eqb, ne_eqb}
use Rattle.lists.specs.All.{All, done, ◌also◌}
use Rattle.std.specs.declared.cmp.Ordering.{Ordering}
use Rattle.std.specs.Prelude.{Option, None, Some}
use Rattle.words.specs.Word.{Word}
use Rattle.words.specs.Order.{by_number_of, by_letters}
use Rattle.words.specs.Place.{begins, stands_at, leftmost_from, leftmost}
use Rattle.words.proofs.Lexicographic.{number-less, number-greater, number_same}
use Rattle.packedwords.specs.Codes.{itself}

-- Letters are those numbers that have P. Where a letter of higher rank has the higher number, comparing by rank is comparing the numbers.
module _ (P : ℕ → Type 0) (rank number : ℕ → ℕ) (agree : (a b : ℕ) → P a → P b → (rank a < rank b) ↔ (number a < number b)) where
  letter_by_code : (a b : ℕ) (c : Ordering) → P a → P b → by_number_of (rank a) (rank b) c ≡ by_number_of (number a) (number b) c
  letter_by_code a b c p q = go (dec_lt (rank a) (rank b)) (dec_lt (rank b) (rank a))
    where
      go : Dec (rank a < rank b) → Dec (rank b < rank a) → by_number_of (rank a) (rank b) c ≡ by_number_of (number a) (number b) c
      go (yes l) _ = number-less c l ∙ sym (number-less c ((agree a b p q).0 l))
      go (no _) (yes l) = number-greater c l ∙ sym (number-greater c ((agree b a q p).0 l))
      go (no k) (no l) = number_same c (omega arith) ∙ sym (number_same c (same (dec_lt (number a) (number b)) (dec_lt (number b) (number a))))
        where
          same : Dec (number a < number b) → Dec (number b < number a) → number a ≡ number b
          same (yes m) _ = absurd (k ((agree a b p q).1 m))
          same (no _) (yes m) = absurd (l ((agree b a q p).1 m))
          same (no m) (no o) = omega arith

  pub order_by_codes : (u v : Word) → All P u → All P v → by_letters rank u v ≡ by_letters itself (map number u) (map number v)
  unfolding by_letters
  order_by_codes [] [] done done = refl
  order_by_codes [] (b ∷ v) done (q also qs) = refl
  order_by_codes (a ∷ u) [] (p also ps) done = refl
  order_by_codes (a ∷ u) (b ∷ v) (p also ps) (q also qs) =
      letter_by_code a b (by_letters rank u v) p q ∙ ap (by_number_of (number a) (number b)) (order_by_codes u v ps qs)

-- Where no two letters have one number, words stand where the words of numbers do.
module _ (P : ℕ → Type 0) (number : ℕ → ℕ) (own : (a b : ℕ) → P a → P b → number a ≡ number b → a ≡ b) where
  begins_by_codes : (b w : Word) → All P b → All P w → begins (map number b) (map number w) ≡ begins b w
  unfolding begins
  begins_by_codes [] w done qs = refl
  begins_by_codes (x ∷ b) [] (p also ps) done = refl
  begins_by_codes (x ∷ b) (y ∷ w) (p also ps) (q also qs) = go (ℕ_discrete x y) (begins_by_codes b w ps qs)
    where
      go : Dec (x ≡ y) → begins (map number b) (map number w) ≡ begins b w → begins (map number (x ∷ b)) (map number (y ∷ w)) ≡ begins (x ∷ b) (y ∷ w)
      go (yes e) rest = rw (begins, eq-eqb x y e, eq-eqb (number x) (number y) (ap number e)) rest
      go (no n) rest = rw (begins, ne_eqb x y n, ne_eqb (number x) (number y) (λ e. n (own x y p q e)))

  pub stands_by_codes : (b w : Word) (i : ℕ) → All P b → All P w → stands_at (map number b) (map number w) i ≡ stands_at b w i
  unfolding stands_at
  stands_by_codes b w zero p q = begins_by_codes b w p q
  stands_by_codes b [] (suc i) p q = refl
  stands_by_codes b (a ∷ w) (suc i) p (q also qs) = stands_by_codes b w i p qs

  leftmost_from_codes : (b w : Word) (i : ℕ) → All P b → All P w → leftmost_from (map number b) (map number w) i ≡ leftmost_from b w i
  unfolding leftmost_from
  leftmost_from_codes b [] i p done =
      ap (λ (t : Bool). elim t [ true ↦ Some i | false ↦ None ]) (begins_by_codes b [] p done)
  leftmost_from_codes b (a ∷ w) i p (q also qs) =
      ap₂ (λ (t : Bool) (o : Option ℕ). elim t [ true ↦ Some i | false ↦ o ]) (begins_by_codes b (a ∷ w) p (q also qs))
      (leftmost_from_codes b w (suc i) p qs)

  pub leftmost_by_codes : (b w : Word) → All P b → All P w → leftmost (map number b) (map number w) ≡ leftmost b w
  unfolding leftmost
  leftmost_by_codes b w p q = leftmost_from_codes b w 0 p q
