-- Weighted orders are admissible, where every letter weighs at least 1 and has a rank of its own.
use mathlib.Core.Path.{◌≡◌, refl, sym, ◌∙◌, ap}
use mathlib.Core.Logic.{◌⊎◌, inl, inr}
use mathlib.Core.List.{[], ◌∷◌, ◌++◌}
use mathlib.Core.WellFounded.Subrelation
use mathlib.Core.WellFounded.{Acc}
use Prim.Native.Nat.{ℕ, ◌<◌}
use native.Mathlib.Decide.{dec_lt}
use native.Mathlib.Omega.{arith}
use lib.WfN.{lt-wf_rel}
use Rattle.std.specs.declared.cmp.Ordering.TheVariants.{Less, Equal, Greater}
use Rattle.words.specs.Word.{Word}
use Rattle.words.specs.Order.{Lt, opposite, Admissible}
use Rattle.words.specs.Weighted.{Weighing, Proper, weight, weighted_order}
use Rattle.words.proofs.Weights.{weight-append}
use Rattle.words.proofs.Lexicographic.{number-less, number-greater, number_same, Lex, lex_irrefl, lex_trans, lex_left, LetterCases, letter-cases}

module _ (W : Weighing) where
  open W use {weigh, rank}

  -- u is lighter, or of equal weight and first by letters
  unfoldable pub Precedes : Word → Word → Type 0
  Precedes u v = (weight weigh u < weight weigh v) ⊎ ((weight weigh u ≡ weight weigh v) × Lex rank u v)

  less_irrefl : (u : Word) → Precedes u u → ⊥
  unfolding Precedes
  less_irrefl u (inl p) = omega arith
  less_irrefl u (inr p) = lex_irrefl rank u p.1

  less-trans : (u v w : Word) → Precedes u v → Precedes v w → Precedes u w
  unfolding Precedes
  less-trans u v w (inl p) (inl q) = inl (omega arith)
  less-trans u v w (inl p) (inr q) = inl (omega arith)
  less-trans u v w (inr p) (inl q) = inl (omega arith)
  less-trans u v w (inr p) (inr q) = inr (p.0 ∙ q.0, lex_trans rank u v w p.1 q.1)

  less-left : (l u v : Word) → Precedes u v → Precedes (l ++ u) (l ++ v)
  unfolding Precedes
  less-left l u v (inl p) = inl (rw (weight-append weigh l u, weight-append weigh l v) (omega arith))
  less-left l u v (inr p) = inr (rw (weight-append weigh l u, weight-append weigh l v, p.0), lex_left rank l u v p.1)

  module _ (h : Proper W) where
    open h use {some, own}

    -- of words of equal weight neither goes on from the other, so the first difference stays where it is
    lex_right : (r u v : Word) → weight weigh u ≡ weight weigh v → Lex rank u v → Lex rank (u ++ r) (v ++ r)
    unfolding Lex weight
    lex_right r [] [] e p = absurd p
    lex_right r [] (b ∷ v) e p = absurd (omega (arith, some b))
    lex_right r (a ∷ u) [] e p = absurd p
    lex_right r (a ∷ u) (b ∷ v) e (inl p) = inl p
    lex_right r (a ∷ u) (b ∷ v) e (inr p) = let q : weigh a ≡ weigh b = ap weigh p.0 in inr (p.0, lex_right r u v (omega arith) p.1)

    less-right : (r u v : Word) → Precedes u v → Precedes (u ++ r) (v ++ r)
    unfolding Precedes
    less-right r u v (inl p) = inl (rw (weight-append weigh u r, weight-append weigh v r) (omega arith))
    less-right r u v (inr p) = inr (rw (weight-append weigh u r, weight-append weigh v r, p.0), lex_right r u v p.0 p.1)

    -- Well-foundedness: by weight, then by the rank of the first letter, then by what stands behind it.
    Lighter : ℕ → Type 0
    Lighter n = (u : Word) → weight weigh u < n → Acc Precedes u

    Begins : ℕ → ℕ → Type 0
    Begins n a = (w : Word) → weight weigh (a ∷ w) ≡ n → Acc Precedes (a ∷ w)

    by_tail : (n : ℕ) → Lighter n → (a : ℕ) → ((b : ℕ) → rank b < rank a → Begins n b)
        → (w : Word) → Acc Precedes w → weight weigh (a ∷ w) ≡ n → Acc Precedes (a ∷ w)
    unfolding Lighter Begins Precedes Lex weight
    by_tail n lighter a lower w (Acc.intro x rest) e =
        Acc.intro (a ∷ x) (λ v p. go v p (λ y q d. by_tail n lighter a lower y (rest y q) d))
      where
        go : (v : Word) → Precedes v (a ∷ x) → ((y : Word) → Precedes y x → weight weigh (a ∷ y) ≡ n → Acc Precedes (a ∷ y)) → Acc Precedes v
        go v (inl p) again = lighter v (omega arith)
        go [] (inr (q, p)) again = absurd (omega (arith, some a))
        go (b ∷ y) (inr (q, inl p)) again = lower b p y (omega arith)
        go (b ∷ y) (inr (q, inr p)) again =
            let z : weigh b ≡ weigh a = ap weigh p.0 in rw p.0 (again y (inr (omega arith, p.1)) (omega arith))

    by_rank : (n : ℕ) → Lighter n → (k : ℕ) → Acc ◌<◌ k → (a : ℕ) → rank a ≡ k → Begins n a
    unfolding Lighter Begins weight
    by_rank n lighter k (Acc.intro x rest) a e w q =
        by_tail n lighter a (λ b p. by_rank n lighter (rank b) (rest (rank b) (rw e at p)) b refl) w (lighter w (omega (arith, some a))) q

    nothing_less : (v : Word) → Precedes v [] → ⊥
    unfolding Precedes Lex weight
    nothing_less v (inl p) = omega arith
    nothing_less [] (inr (q, p)) = p
    nothing_less (b ∷ v) (inr (q, p)) = p

    by_weight : (n : ℕ) → Acc ◌<◌ n → (w : Word) → weight weigh w ≡ n → Acc Precedes w
    unfolding Lighter Begins
    by_weight n (Acc.intro x rest) [] e = Acc.intro [] (λ v p. absurd (nothing_less v p))
    by_weight n (Acc.intro x rest) (a ∷ w) e =
        by_rank x (λ u p. by_weight (weight weigh u) (rest (weight weigh u) p) u refl) (rank a) (lt-wf_rel.wf.apply (rank a)) a refl w e

    less_wf : (w : Word) → Acc Precedes w
    less_wf w = by_weight (weight weigh w) (lt-wf_rel.wf.apply (weight weigh w)) w refl

    -- each answer of the order, with what it means
    Cases : Word → Word → Type 0
    Cases u v =
        ((weighted_order W u v ≡ Less) × Precedes u v)
        ⊎ (((weighted_order W u v ≡ Equal) × (u ≡ v))
        ⊎ ((weighted_order W u v ≡ Greater) × Precedes v u))

    cases : (u v : Word) → Cases u v
    unfolding Cases Precedes weighted_order
    cases u v = go (dec_lt (weight weigh u) (weight weigh v)) (dec_lt (weight weigh v) (weight weigh u))
      where
        by : weight weigh u ≡ weight weigh v → LetterCases rank u v → Cases u v
        by e (inl p) = inl (number_same _ e ∙ p.0, inr (e, p.1))
        by e (inr (inl p)) = inr (inl (number_same _ e ∙ p.0, p.1))
        by e (inr (inr p)) = inr (inr (number_same _ e ∙ p.0, inr (sym e, p.1)))

        go : Dec (weight weigh u < weight weigh v) → Dec (weight weigh v < weight weigh u) → Cases u v
        go (yes p) q = inl (number-less _ p, inl p)
        go (no p) (yes q) = inr (inr (number-greater _ q, inl q))
        go (no p) (no q) = by (omega arith) (letter-cases rank own u v)

    pub less_of_lt : (u v : Word) → Lt (weighted_order W) u v → Precedes u v
    unfolding Cases
    less_of_lt u v e = go (cases u v)
      where
        go : Cases u v → Precedes u v
        go (inl p) = p.1
        go (inr (inl p)) = let z : ◌≡◌ {A = ℕ} 0 1 = cc p.0 in absurd (omega arith)
        go (inr (inr p)) = let z : ◌≡◌ {A = ℕ} 0 1 = cc p.0 in absurd (omega arith)

    pub lt_of_less : (u v : Word) → Precedes u v → Lt (weighted_order W) u v
    unfolding Cases
    lt_of_less u v l = go (cases u v)
      where
        go : Cases u v → Lt (weighted_order W) u v
        go (inl p) = p.0
        go (inr (inl p)) = absurd (less_irrefl v (rw p.1 at l))
        go (inr (inr p)) = absurd (less_irrefl u (less-trans u v u l p.1))

    flipped : (u v : Word) → weighted_order W v u ≡ opposite (weighted_order W u v)
    unfolding Cases opposite
    flipped u v = go (cases u v) (cases v u)
      where
        go : Cases u v → Cases v u → weighted_order W v u ≡ opposite (weighted_order W u v)
        go (inl p) (inl q) = absurd (less_irrefl u (less-trans u v u p.1 q.1))
        go (inl p) (inr (inl q)) = absurd (less_irrefl u (rw q.1 at p.1))
        go (inl p) (inr (inr q)) = rw (p.0, q.0)
        go (inr (inl p)) (inl q) = absurd (less_irrefl v (rw p.1 at q.1))
        go (inr (inl p)) (inr (inl q)) = rw (p.0, q.0)
        go (inr (inl p)) (inr (inr q)) = absurd (less_irrefl v (rw p.1 at q.1))
        go (inr (inr p)) (inl q) = rw (p.0, q.0)
        go (inr (inr p)) (inr (inl q)) = absurd (less_irrefl v (rw (sym q.1) at p.1))
        go (inr (inr p)) (inr (inr q)) = absurd (less_irrefl u (less-trans u v u q.1 p.1))

    pub weighted_admissible : Admissible (weighted_order W)
    unfolding Cases
    weighted_admissible = record {
      equal = equal;
      flip = flipped;
      trans = λ u v w p q. lt_of_less u w (less-trans u v w (less_of_lt u v p) (less_of_lt v w q));
      left = λ l u v p. lt_of_less (l ++ u) (l ++ v) (less-left l u v (less_of_lt u v p));
      right = λ r u v p. lt_of_less (u ++ r) (v ++ r) (less-right r u v (less_of_lt u v p));
      wf = λ w. Subrelation.accessible (λ x y r. less_of_lt x y r) (less_wf w);
    }
      where
        equal : (u v : Word) → weighted_order W u v ≡ Equal → u ≡ v
        equal u v e = go (cases u v)
          where
            go : Cases u v → u ≡ v
            go (inl p) = let z : ◌≡◌ {A = ℕ} 0 1 = cc p.0 in absurd (omega arith)
            go (inr (inl p)) = p.1
            go (inr (inr p)) = let z : ◌≡◌ {A = ℕ} 0 1 = cc p.0 in absurd (omega arith)
