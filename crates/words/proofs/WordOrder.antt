-- Document 01's order: it is the weighted order in which each letter weighs 1, so it is admissible; and on words of bytes it is what 01 says.
use mathlib.Core.Path.{◌≡◌, refl, sym, ◌∙◌, subst}
use mathlib.Core.Logic.{◌↔◌, inl, inr}
use mathlib.Core.List.{[], ◌∷◌}
use Prim.Native.Nat.{ℕ, zero, suc, ◌-◌, ◌≤◌, ◌<◌}
use native.Mathlib.Decide.{dec_lt}
use native.Mathlib.Omega.{arith}
use lib.ListN.{length, get_or}
use borrow.Author.Tests.{lt-ltb, le-ltb}
use Rattle.std.specs.declared.cmp.Ordering.TheVariants.{Less}
use Rattle.lists.specs.All.{All, ◌also◌}
use Rattle.words.specs.Word.{Word}
use Rattle.words.specs.Order.{Admissible, FirstDiffers, IsBelow, letter_rank, word_order}
use Rattle.words.specs.Weighted.{Proper, weight, weighted_order, unit_weighing}
use Rattle.words.proofs.Lexicographic.{Lex}
use Rattle.words.proofs.WeightedOrder.{Precedes, less_of_lt, lt_of_less, weighted_admissible}

rank_byte : (a : ℕ) → a < 256 → letter_rank a ≡ 255 - a
unfolding letter_rank
rank_byte a h = rw (letter_rank, lt-ltb a 256 h)

rank_other : (a : ℕ) → 256 ≤ a → letter_rank a ≡ a
unfolding letter_rank
rank_other a h = rw (letter_rank, le-ltb a 256 h)

-- the earlier letter has the higher rank
pub rank_lt : (a b : ℕ) → a < 256 → b < 256 → (letter_rank a < letter_rank b) ↔ (b < a)
rank_lt a b p q = rw (rank_byte a p, rank_byte b q) (omega arith)

pub rank-own : (a b : ℕ) → letter_rank a ≡ letter_rank b → a ≡ b
rank-own a b e = go (dec_lt a 256) (dec_lt b 256)
  where
    go : Dec (a < 256) → Dec (b < 256) → a ≡ b
    go (yes p) (yes q) = omega (arith, rank_byte a p, rank_byte b q)
    go (yes p) (no q) = let m : 256 ≤ b = omega arith in omega (arith, rank_byte a p, rank_other b m)
    go (no p) (yes q) = let m : 256 ≤ a = omega arith in omega (arith, rank_other a m, rank_byte b q)
    go (no p) (no q) =
        let m : 256 ≤ a = omega arith in
        let n : 256 ≤ b = omega arith in
        omega (arith, rank_other a m, rank_other b n)

pub unit_proper : Proper unit_weighing
unfolding unit_weighing
unit_proper = record { some = λ a. omega arith; own = rank-own }

-- where each letter weighs 1, the weight is the length
unit_weight : (w : Word) → weight unit_weighing.weigh w ≡ length w
unfolding unit_weighing weight
unit_weight [] = refl
unit_weight (a ∷ w) = omega (arith, unit_weight w)

-- 01's order is the unit-weight case of the weighted orders
pub word-order_weighted : (u v : Word) → weighted_order unit_weighing u v ≡ word_order u v
unfolding weighted_order word_order unit_weighing
word-order_weighted u v = rw (unit_weight u, unit_weight v)

pub word-order-admissible : Admissible word_order
word-order-admissible = subst Admissible (λ i u v. word-order_weighted u v i) (weighted_admissible unit_weighing unit_proper)

first_of_lex : (u v : Word) → All (λ a. a < 256) u → All (λ a. a < 256) v → length u ≡ length v → Lex letter_rank u v → FirstDiffers u v
unfolding Lex
first_of_lex [] [] hu hv e p = absurd p
first_of_lex [] (b ∷ v) hu hv e p = absurd (omega arith)
first_of_lex (a ∷ u) [] hu hv e p = absurd p
first_of_lex (a ∷ u) (b ∷ v) (ha also hu) (hb also hv) e (inl p) =
    record { place = 0; inside = omega arith; before = λ i h. absurd (omega arith); later = (rank_lt a b ha hb).0 p }
first_of_lex (a ∷ u) (b ∷ v) (ha also hu) (hb also hv) e (inr p) = go (first_of_lex u v hu hv (omega arith) p.1)
  where
    go : FirstDiffers u v → FirstDiffers (a ∷ u) (b ∷ v)
    go d = record { place = suc d.place; inside = let h = d.inside in omega arith; before = before; later = d.later }
      where
        before : (i : ℕ) → i < suc d.place → get_or (a ∷ u) i 0 ≡ get_or (b ∷ v) i 0
        before zero h = p.0
        before (suc i) h = d.before i (omega arith)

lex_of_first : (u v : Word) → All (λ a. a < 256) u → All (λ a. a < 256) v → (k : ℕ) → k < length u → length u ≡ length v
    → ((i : ℕ) → i < k → get_or u i 0 ≡ get_or v i 0) → get_or v k 0 < get_or u k 0 → Lex letter_rank u v
unfolding Lex
lex_of_first [] v hu hv k h e b l = absurd (omega arith)
lex_of_first (x ∷ u) [] hu hv k h e b l = absurd (omega arith)
lex_of_first (x ∷ u) (y ∷ v) (hx also hu) (hy also hv) zero h e b l = inl ((rank_lt x y hx hy).1 l)
lex_of_first (x ∷ u) (y ∷ v) (hx also hu) (hy also hv) (suc k) h e b l =
    inr (b 0 (omega arith), lex_of_first u v hu hv k (omega arith) (omega arith) (λ i q. b (suc i) (omega arith)) l)

-- On words of bytes the computed order says below exactly where 01 does.
pub below_iff : (u v : Word) → All (λ a. a < 256) u → All (λ a. a < 256) v → (word_order u v ≡ Less) ↔ IsBelow u v
unfolding Precedes unit_weighing
below_iff u v hu hv = (
  λ e. from (less_of_lt unit_weighing unit_proper u v (word-order_weighted u v ∙ e)),
  λ b. sym (word-order_weighted u v) ∙ lt_of_less unit_weighing unit_proper u v (to b),
)
  where
    from : Precedes unit_weighing u v → IsBelow u v
    from (inl p) = inl (omega (arith, unit_weight u, unit_weight v))
    from (inr p) =
        let e : length u ≡ length v = sym (unit_weight u) ∙ p.0 ∙ unit_weight v in
        inr (e, first_of_lex u v hu hv e p.1)

    to : IsBelow u v → Precedes unit_weighing u v
    to (inl p) = inl (omega (arith, unit_weight u, unit_weight v))
    to (inr p) =
        let d = p.1 in
        inr (unit_weight u ∙ p.0 ∙ sym (unit_weight v), lex_of_first u v hu hv d.place d.inside p.0 d.before d.later)
