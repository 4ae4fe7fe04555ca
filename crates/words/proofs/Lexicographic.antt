-- The comparison by a number, and the comparison by letters as a relation, for ranks that no two letters share.
use mathlib.Core.Path.{◌≡◌, refl, sym, ◌∙◌, ap₂}
use mathlib.Core.Logic.{◌⊎◌, inl, inr}
use mathlib.Core.List.{[], ◌∷◌, ◌++◌}
use Prim.Native.Nat.{ℕ, ◌≤◌, ◌<◌}
use native.Mathlib.Decide.{dec_lt}
use native.Mathlib.Omega.{arith}
use borrow.Author.Tests.{lt-ltb, le-ltb}
use Rattle.std.specs.declared.cmp.Ordering.{Ordering}
use Rattle.std.specs.declared.cmp.Ordering.TheVariants.{Less, Equal, Greater}
use Rattle.std.specs.Ordering.{nat_cmp, MatchOrdering}
use Rattle.std.proofs.lemmas.Cmp.{ranked}
use Rattle.words.specs.Word.{Word}
use Rattle.words.specs.Order.{by_number_of, by_letters}

-- the greater number decides
module _ {m n : ℕ} (c : Ordering) where
  pub number-less : m < n → by_number_of m n c ≡ Less
  unfolding by_number_of
  number-less h = rw (by_number_of, lt-ltb m n h)

  pub number-greater : n < m → by_number_of m n c ≡ Greater
  unfolding by_number_of
  number-greater h = let k : n ≤ m = omega arith in rw (by_number_of, le-ltb m n k, lt-ltb n m h)

  pub number_same : m ≡ n → by_number_of m n c ≡ c
  unfolding by_number_of
  number_same e =
      let k : n ≤ m = omega arith in
      let l : m ≤ n = omega arith in
      rw (by_number_of, le-ltb m n k, le-ltb n m l)

-- what `cmp` answers of two numbers that differ is what they decide
pub number_cmp : {a b : ℕ} {r : Ordering} (c : Ordering) → r ≡ nat_cmp a b → (a ≡ b → ⊥) → r ≡ by_number_of a b c
number_cmp {a} {b} {r} c e n = go r refl (ranked a b r e)
  where
    go : (o : Ordering) → r ≡ o → MatchOrdering o (a < b) (a ≡ b) (b < a) → r ≡ by_number_of a b c
    go Less p l = p ∙ sym (number-less c l)
    go Equal p same = absurd (n same)
    go Greater p l = p ∙ sym (number-greater c l)

module _ (rank : ℕ → ℕ) where
  -- u comes before v: it ends first, or has the lower letter at the first difference
  unfoldable pub Lex : Word → Word → Type 0
  Lex [] [] = ⊥
  Lex [] (b ∷ v) = Unit {0}
  Lex (a ∷ u) [] = ⊥
  Lex (a ∷ u) (b ∷ v) = (rank a < rank b) ⊎ ((a ≡ b) × Lex u v)

  pub lex_irrefl : (u : Word) → Lex u u → ⊥
  unfolding Lex
  lex_irrefl [] p = p
  lex_irrefl (a ∷ u) (inl p) = omega arith
  lex_irrefl (a ∷ u) (inr p) = lex_irrefl u p.1

  pub lex_trans : (u v w : Word) → Lex u v → Lex v w → Lex u w
  unfolding Lex
  lex_trans [] [] w p q = absurd p
  lex_trans [] (b ∷ v) [] p q = absurd q
  lex_trans [] (b ∷ v) (c ∷ w) p q = tt
  lex_trans (a ∷ u) [] w p q = absurd p
  lex_trans (a ∷ u) (b ∷ v) [] p q = absurd q
  lex_trans (a ∷ u) (b ∷ v) (c ∷ w) (inl p) (inl q) = inl (omega arith)
  lex_trans (a ∷ u) (b ∷ v) (c ∷ w) (inl p) (inr q) = inl (rw q.0 at p)
  lex_trans (a ∷ u) (b ∷ v) (c ∷ w) (inr p) (inl q) = inl (rw p.0 q)
  lex_trans (a ∷ u) (b ∷ v) (c ∷ w) (inr p) (inr q) = inr (p.0 ∙ q.0, lex_trans u v w p.1 q.1)

  pub lex_left : (l u v : Word) → Lex u v → Lex (l ++ u) (l ++ v)
  unfolding Lex
  lex_left [] u v p = p
  lex_left (a ∷ l) u v p = inr (refl, lex_left l u v p)

  -- each answer of the comparison, with what it means
  abbrev pub LetterCases : Word → Word → Type 0
  LetterCases u v =
      ((by_letters rank u v ≡ Less) × Lex u v)
      ⊎ (((by_letters rank u v ≡ Equal) × (u ≡ v))
      ⊎ ((by_letters rank u v ≡ Greater) × Lex v u))

  module _ (own : (a b : ℕ) → rank a ≡ rank b → a ≡ b) where
    pub letter-cases : (u v : Word) → LetterCases u v
    unfolding Lex by_letters
    letter-cases [] [] = inr (inl (refl, refl))
    letter-cases [] (b ∷ v) = inl (refl, tt)
    letter-cases (a ∷ u) [] = inr (inr (refl, tt))
    letter-cases (a ∷ u) (b ∷ v) = go (dec_lt (rank a) (rank b)) (dec_lt (rank b) (rank a)) (letter-cases u v)
      where
        same : rank a ≡ rank b → LetterCases u v → LetterCases (a ∷ u) (b ∷ v)
        same e (inl p) = inl (number_same _ e ∙ p.0, inr (own a b e, p.1))
        same e (inr (inl p)) = inr (inl (number_same _ e ∙ p.0, ap₂ ◌∷◌ (own a b e) p.1))
        same e (inr (inr p)) = inr (inr (number_same _ e ∙ p.0, inr (sym (own a b e), p.1)))

        go : Dec (rank a < rank b) → Dec (rank b < rank a) → LetterCases u v → LetterCases (a ∷ u) (b ∷ v)
        go (yes p) q r = inl (number-less _ p, inl p)
        go (no p) (yes q) r = inr (inr (number-greater _ q, inl q))
        go (no p) (no q) r = same (omega arith) r
