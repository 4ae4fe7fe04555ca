-- The search for shared letters passes over the numbers where the last two letters are not those of the first word: so many are not shared.
use mathlib.Core.Path.{◌≡◌, refl, sym, ◌∙◌, ap}
use mathlib.Core.Bool.{Bool, true, false, true≢false}
use Prim.Native.Nat.{ℕ, zero, suc, ◌+◌, ◌-◌, ◌≤◌, ◌<◌}
use native.Mathlib.Numerals.{add-one}
use native.Mathlib.Omega.{arith}
use lib.ListN.{length, get_or, take, length-take}
use lib.Seq.{get_or-take, drop-length}
use Rattle.words.specs.Word.{Word}
use Rattle.words.proofs.Standing.{stands_iff, stands-letter}
use Rattle.wordplaces.specs.TwoLetters.{two_same}
use Rattle.wordplaces.proofs.TwoLetters.{same_both}
use Rattle.lists.specs.Same.{same}
use Rattle.lists.proofs.Bools.{not_true}
use Rattle.overlaps.specs.Overlaps.{shares}
use Rattle.overlapsearch.specs.Position.{next_passing, next_agreeing}
use Rattle.overlapsearch.proofs.Passing.{shares-stands}

module _ (u v : Word) where
  -- 0 letters are shared by any two words
  pub shares-some : (n : ℕ) → shares u v n ≡ false → 1 ≤ n
  unfolding shares same
  shares-some zero e = let z : length u - 0 ≡ length u = omega arith in absurd (true≢false (rw (shares, z, drop-length u) at e))
  shares-some (suc n) e = omega arith

  module _ (k : ℕ) (l : 2 ≤ k) (h : k ≤ length u) (m : k ≤ length v) where
    shared_two : shares u v k ≡ true → two_same v (k - 2) u (length u - 2) ≡ true
    shared_two e =
        same_both v u (k - 2) (length u - 2)
        (letter (k - 2) (omega arith) (length u - 2) (omega arith))
        (letter (k - 2 + 1) (omega arith) (length u - 2 + 1) (omega arith))
      where
        letter : (j : ℕ) → j < k → (p : ℕ) → length u - k + j ≡ p → get_or v j 0 ≡ get_or u p 0
        letter j b p q =
            let s = (stands_iff (take k v) u (length u - k)).0 (shares-stands u v k h m ∙ e) in
            let t : j < length (take k v) = omega (arith, length-take k v) in
            sym (get_or-take k v j 0 b) ∙ sym (stands-letter (take k v) u (length u - k) s j t) ∙ ap (λ (z : ℕ). get_or u z 0) q

    not_shared : two_same v (k - 2) u (length u - 2) ≡ false → shares u v k ≡ false
    not_shared t = not_true (shares u v k) (λ e. true≢false (sym (shared_two e) ∙ t))

  -- what is found from n on, among d numbers: it is no earlier, and the numbers before it are not shared
  Passed : ℕ → ℕ → ℕ → Type 0
  Passed n d r = (n ≤ r) × (next_passing (shares u v) r (n + d - r) ≡ next_passing (shares u v) n d)

  passed : (n d : ℕ) → 2 ≤ n → n + d ≤ length u → n + d ≤ length v → Passed n d (next_agreeing u v n d)
  unfolding Passed next_agreeing next_passing
  passed n zero l h m = let z : n + 0 - n ≡ 0 = omega arith in (omega arith, rw z)
  passed n (suc d) l h m = go (two_same v (n - 2) u (length u - 2)) refl (passed (suc n) d (omega arith) (omega arith) (omega arith))
    where
      go : (t : Bool) → two_same v (n - 2) u (length u - 2) ≡ t → Passed (suc n) d (next_agreeing u v (suc n) d)
          → Passed n (suc d) (elim t [ true ↦ n | false ↦ next_agreeing u v (suc n) d ])
      go true e p = let z : n + suc d - n ≡ suc d = omega arith in (omega arith, rw z)
      go false e (a, b) =
          let z : n + suc d - next_agreeing u v (suc n) d ≡ suc n + d - next_agreeing u v (suc n) d = omega arith in
          (omega arith, rw (z, next_passing, not_shared n l (omega arith) (omega arith) e) b)

  module _ (most n : ℕ) (l : 2 ≤ n) (b : n ≤ most) (h : most ≤ length u) (m : most ≤ length v) where
    both : Passed n (most - n) (next_agreeing u v n (most - n))
    both = passed n (most - n) l (omega arith) (omega arith)

    pub agreeing_from : n ≤ next_agreeing u v n (most - n)
    unfolding Passed
    agreeing_from = both.0

    pub passed_over : next_passing (shares u v) (next_agreeing u v n (most - n)) (most - next_agreeing u v n (most - n)) ≡ next_passing (shares u v) n (most - n)
    unfolding Passed
    passed_over = let z : n + (most - n) ≡ most = omega arith in rw z at both.1

  -- one law for each way through a turn
  module _ (most k : ℕ) where
    pub agreeing_here : k < most → two_same v (k - 2) u (length u - 2) ≡ true → next_agreeing u v k (most - k) ≡ k
    unfolding next_agreeing
    agreeing_here h t = let d : most - k ≡ suc (most - suc k) = omega arith in rw (d, next_agreeing, t)

    pub agreeing_later : k < most → two_same v (k - 2) u (length u - 2) ≡ false → next_agreeing u v (k + 1) (most - (k + 1)) ≡ next_agreeing u v k (most - k)
    unfolding next_agreeing
    agreeing_later h t = let d : most - k ≡ suc (most - suc k) = omega arith in rw (d, add-one k, next_agreeing, t)

    pub agreeing_end : k ≡ most → next_agreeing u v k (most - k) ≡ most
    unfolding next_agreeing
    agreeing_end e = let d : most - k ≡ 0 = omega arith in rw d e
