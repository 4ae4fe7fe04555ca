-- The search by halves: what one comparison says of the words before, and where the word belongs when the search ends.
use mathlib.Core.Path.{◌≡◌, refl, sym, ◌∙◌}
use mathlib.Core.Bool.{Bool, true, false, true≢false}
use Prim.Native.Nat.{ℕ, ◌+◌, ◌≤◌, ◌<◌}
use native.Mathlib.Decide.{dec_lt}
use native.Mathlib.Omega.{arith}
use Rattle.std.specs.declared.cmp.Ordering.{Ordering}
use Rattle.std.specs.declared.cmp.Ordering.TheVariants.{Less, Equal, Greater}
use Rattle.lists.proofs.Entries.{below_next}
use Rattle.packedterms.specs.Finding.{Sinking, BelowFirst, Belonging}

module _ (S : ℕ → Ordering) (n : ℕ) where
  -- q is the answer for word m
  module _ (s : Sinking S n) (m : ℕ) (h : m < n) {q : Ordering} (answer : q ≡ S m) where
    pub below_all : q ≡ Less → (i : ℕ) → i < m + 1 → S i ≡ Less
    below_all e = below_next (λ (i : ℕ). S i ≡ Less) m (λ i r. s.under-below i m r h (sym answer ∙ e)) (sym answer ∙ e)

    pub belonging_equal : q ≡ Equal → Belonging S n m true
    belonging_equal e = record {
      low = omega arith;
      below = λ i r. s.under-equal i m r h (sym answer ∙ e);
      equal = λ _. (h, sym answer ∙ e);
      new = λ z _. absurd (true≢false z);
    }

  -- no word is left between those that are above and those that are below
  pub belonging_new : (lo hi : ℕ) → lo ≡ hi → hi ≤ n → ((i : ℕ) → i < lo → S i ≡ Less) → (hi < n → S hi ≡ Greater)
      → Belonging S n lo false
  belonging_new lo hi e h b a = record {
    low = omega arith;
    below = b;
    equal = λ z. absurd (true≢false (sym z));
    new = λ _. rw e a;
  }

  -- a word that is below the first k belongs behind them
  pub index_from : {k index : ℕ} {present : Bool} → BelowFirst S k n → Belonging S n index present → k ≤ index
  index_from {k} {index} {present} first b = go (dec_lt index k) present refl
    where
      go : Dec (index < k) → (p : Bool) → present ≡ p → k ≤ index
      go (no h) p e = omega arith
      go (yes h) true e = let z : ◌≡◌ {A = ℕ} 0 1 = cc (sym (first.below index h) ∙ (b.equal e).1) in omega arith
      go (yes h) false e =
          let most = first.count in
          let z : ◌≡◌ {A = ℕ} 0 1 = cc (sym (first.below index h) ∙ b.new e (omega arith)) in
          omega arith
