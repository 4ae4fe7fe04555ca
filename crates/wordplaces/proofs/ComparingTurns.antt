-- One law for each way through a comparison from the end.
use mathlib.Core.Path.{◌≡◌, refl, sym, ◌∙◌}
use mathlib.Core.Bool.{Bool, true, false, true≢false}
use Prim.Native.Nat.{ℕ, zero, suc, ◌+◌, ◌-◌, ◌≤◌, ◌<◌}
use native.Mathlib.Nat.{add-zero}
use native.Mathlib.Omega.{arith}
use lib.ListN.{length, get_or, drop}
use Rattle.words.specs.Word.{Word}
use Rattle.words.specs.Place.{Stands, stands_at, compared_at, past, all}
use Rattle.words.proofs.Standing.{stands_iff, stands_not, stands-past, stands-letter}
use Rattle.words.proofs.Comparing.{behind-all, behind-same, behind-differs, compared_iff}
use Rattle.wordplaces.specs.TwoLetters.{two_same}
use Rattle.wordplaces.specs.EightLetters.{same_for}
use Rattle.wordplaces.proofs.TwoLetters.{both_same, same_both}
use Rattle.wordplaces.proofs.EightLetters.{same_each}

-- b fits at place i of w, and all letters behind its first n were compared and none differed: they stand in w where b would have them.
pub record Agreed (b w : Word) (i n : ℕ) : Type 0 where
  pub fits : i + length b ≤ length w
  pub most : n ≤ length b
  pub stands : Stands (drop n b) w (i + n)

-- two equations each, one behind the other
pub both_joined : (x y : Bool) (m n : ℕ) {z : Bool} {k : ℕ} → (x ≡ y) × (m ≡ n) → (y ≡ z) × (n ≡ k) → (x ≡ z) × (m ≡ k)
both_joined x y m n (e, f) (g, h) = (e ∙ g, f ∙ h)

module _ (b w : Word) (i : ℕ) where
  pub said-past : length w < i + length b → (false ≡ stands_at b w i) × (0 ≡ compared_at b w i)
  said-past h = (sym (stands-past b w i h), sym ((compared_iff b w i 0).1 (past h refl)))

  pub none_compared : i + length b ≤ length w → Agreed b w i (length b)
  none_compared h = record { fits = h; most = omega arith; stands = behind-all b w i h }

  pub some_compared : i + length b ≤ length w → (n : ℕ) → (n ≤ length b) × Stands (drop n b) w (i + n) → Agreed b w i n
  some_compared h n (m, s) = record { fits = h; most = m; stands = s }

  -- the last of n + 1 letters
  module _ (n m : ℕ) (e : m ≡ suc n) (a : Agreed b w i m) where
    inside : n < length b
    inside = omega (arith, a.most)

    behind : Stands (drop (suc n) b) w (i + suc n)
    behind = rw e at a.stands

    one_agrees : get_or b n 0 ≡ get_or w (i + n) 0 → Agreed b w i n
    one_agrees f = record { fits = a.fits; most = omega (arith, inside); stands = behind-same b w i n inside behind f }

    said-differs : (get_or b n 0 ≡ get_or w (i + n) 0 → ⊥) → (false ≡ stands_at b w i) × (length b - n ≡ compared_at b w i)
    said-differs d = (
      sym (stands_not b w i (λ s. d (sym (stands-letter b w i s n inside)))),
      sym ((compared_iff b w i (length b - n)).1 (behind-differs b w i n inside behind d)),
    )

  -- m letters behind the first n
  some_agree : (m n : ℕ) → Agreed b w i (n + m) → ((k : ℕ) → k < m → get_or b (n + k) 0 ≡ get_or w (i + n + k) 0) → Agreed b w i n
  some_agree zero n a f = rw (add-zero n) at a
  some_agree (suc m) n a f =
      let e : i + n + m ≡ i + (n + m) = omega arith in
      some_agree m n (one_agrees (n + m) (n + suc m) (omega arith) a (rw e at (f m (omega arith)))) (λ k h. f k (omega arith))

  pub eight_agree : (n : ℕ) → 7 < n → Agreed b w i n → same_for b (n - 8) w (i + (n - 8)) 8 ≡ true → Agreed b w i (n - 8)
  eight_agree n h a t =
      let e : n - 8 + 8 ≡ n = omega arith in
      some_agree 8 (n - 8) (rw e a) (same_each b w 8 (n - 8) (i + (n - 8)) t)

  -- the last two of n letters, the places of which the code writes as n - 2 and n - 1
  module _ (n : ℕ) (h : 1 < n) (a : Agreed b w i n) where
    pub two_agree : two_same b (n - 2) w (i + (n - 2)) ≡ true → Agreed b w i (n - 2)
    two_agree t =
        let (p, q) = both_same b w (n - 2) (i + (n - 2)) t in
        let k : n - 2 + 1 ≡ n - 1 = omega arith in
        let m : i + (n - 2) + 1 ≡ i + (n - 1) = omega arith in
        one_agrees (n - 2) (n - 1) (omega arith) (one_agrees (n - 1) n (omega arith) a (rw (k, m) at q)) p

    -- the later one differs
    pub later-differs : (get_or b (n - 1) 0 ≡ get_or w (i + (n - 1)) 0 → ⊥) → (false ≡ stands_at b w i) × (length b - (n - 1) ≡ compared_at b w i)
    later-differs d = said-differs (n - 1) n (omega arith) a d

    -- the later one is the same, and so the other differs
    pub earlier_differs : two_same b (n - 2) w (i + (n - 2)) ≡ false → get_or b (n - 1) 0 ≡ get_or w (i + (n - 1)) 0 → (false ≡ stands_at b w i) × (length b - (n - 2) ≡ compared_at b w i)
    earlier_differs t e =
        let k : n - 2 + 1 ≡ n - 1 = omega arith in
        let m : i + (n - 2) + 1 ≡ i + (n - 1) = omega arith in
        said-differs (n - 2) (n - 1) (omega arith) (one_agrees (n - 1) n (omega arith) a e)
        (λ f. true≢false (sym (same_both b w (n - 2) (i + (n - 2)) f (rw (k, m) e)) ∙ t))

  -- one letter is left, the first
  module _ (n : ℕ) (e : n ≡ 1) (a : Agreed b w i n) where
    pub first_agrees : get_or b 0 0 ≡ get_or w i 0 → Agreed b w i 0
    first_agrees f = one_agrees 0 n e a (rw (add-zero i) f)

    pub first-differs : (get_or b 0 0 ≡ get_or w i 0 → ⊥) → (false ≡ stands_at b w i) × (length b ≡ compared_at b w i)
    first-differs d = let k : length b - 0 ≡ length b = omega arith in rw k at (said-differs 0 n e a (λ f. d (rw (add-zero i) at f)))

  pub said-stands : Agreed b w i 0 → (true ≡ stands_at b w i) × (length b ≡ compared_at b w i)
  said-stands a =
      let s : Stands b w i = rw (add-zero i) at a.stands in
      (sym ((stands_iff b w i).1 s), sym ((compared_iff b w i (length b)).1 (all s refl)))
