-- At most 64 words of at most 24 letters have at most 98,304 pairs: no item of the list has over five digits.
use mathlib.Core.Path.{◌≡◌, sym, ◌∙◌, ap}
use mathlib.Core.List.{List, [], ◌∷◌}
use Prim.Native.Nat.{ℕ, suc, ◌+◌, ◌-◌, ◌*◌, ◌≤◌}
use native.Mathlib.Nat.{mul_comm, mul-add, mul-one, mul-zero, mul-le-mul}
use native.Mathlib.Numerals.{add-one}
use native.Mathlib.Omega.{arith}
use lib.ListN.{length, length-append}
use Rattle.lists.specs.All.{All, done, ◌also◌}
use Rattle.words.specs.Word.{Word}
use Rattle.overlaps.specs.Overlaps.{sharing, placing, pairs_of, with_first, from_first, overlaps}
use Rattle.overlaps.proofs.PartPairs.{given_few}
use Rattle.overlaps.proofs.Listed.{places-most}

-- 1 for an empty word, 0 for another
abbrev bare : Word → ℕ
bare w = 1 - length w

-- how many words are empty
bare_in : List Word → ℕ
bare_in [] = 0
bare_in (w ∷ ws) = bare w + bare_in ws

-- the pairs of two words: at most 24, one more where the second is empty, one less where the first is
two_most : (u v : Word) (i j : ℕ) → length u ≤ 24 → length v ≤ 24 → length (pairs_of sharing u v i j) + length (pairs_of placing u v i j) + bare u ≤ 24 + bare v
two_most u v i j h k = omega (arith, given_few sharing u v i j, given_few placing u v i j, places-most (length u) (length v) i j)

suc_times : (n x : ℕ) → suc n * x ≡ x + n * x
suc_times n x = mul_comm (suc n) x ∙ ap (λ (k : ℕ). x * k) (sym (add-one n)) ∙ mul-add x n 1 ∙ omega (arith, mul-one x, mul_comm x n)

-- those of one first word
row-most : (u : Word) (i : ℕ) (vs : List Word) (j : ℕ) → length u ≤ 24 → All (λ w. length w ≤ 24) vs
    → length (with_first sharing u i vs j) + length (with_first placing u i vs j) + length vs * bare u ≤ length vs * 24 + bare_in vs
unfolding with_first bare_in
row-most u i [] j h done = omega (arith, mul_comm 0 (bare u), mul-zero (bare u))
row-most u i (v ∷ vs) j h (k also ks) = omega (
  arith,
  two_most u v i j h k,
  row-most u i vs (suc j) h ks,
  length-append (pairs_of sharing u v i j) (with_first sharing u i vs (suc j)),
  length-append (pairs_of placing u v i j) (with_first placing u i vs (suc j)),
  suc_times (length vs) (bare u),
)

-- those of the listed first words
rows-most : (all us : List Word) (i : ℕ) → All (λ w. length w ≤ 24) all → All (λ w. length w ≤ 24) us
    → length (from_first sharing all us i) + length (from_first placing all us i) + length all * bare_in us
    ≤ length us * (length all * 24) + length us * bare_in all
unfolding from_first bare_in
rows-most all [] i h done =
    omega (arith, mul-zero (length all), mul_comm 0 (length all * 24), mul-zero (length all * 24), mul_comm 0 (bare_in all), mul-zero (bare_in all))
rows-most all (u ∷ us) i h (k also ks) = omega (
  arith,
  row-most u i all 1 k h,
  rows-most all us (suc i) h ks,
  length-append (with_first sharing u i all 1) (from_first sharing all us (suc i)),
  length-append (with_first placing u i all 1) (from_first placing all us (suc i)),
  mul-add (length all) (bare u) (bare_in us),
  suc_times (length us) (length all * 24),
  suc_times (length us) (bare_in all),
)

pub overlaps-few : (ws : List Word) → length ws ≤ 64 → All (λ w. length w ≤ 24) ws → length (overlaps ws) ≤ 98304
unfolding overlaps
overlaps-few ws n h =
    let m : length ws * 24 ≤ 1536 = omega arith in
    let q : length ws * (length ws * 24) ≤ 64 * 1536 = mul-le-mul n m in
    omega (arith, q, rows-most ws ws 1 h h, length-append (from_first sharing ws ws 1) (from_first placing ws ws 1))
