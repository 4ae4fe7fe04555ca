-- A word of two blocks put behind another: three stores make the blocks of the product.
use mathlib.Core.Path.{◌≡◌, ◌∙◌, ap}
use mathlib.Core.List.{List, ◌∷◌, ◌++◌}
use Prim.Native.Nat.{ℕ, zero, suc, ◌+◌, ◌-◌, ◌*◌, ◌/◌, ◌%◌, ◌^◌, ◌≤◌, ◌<◌}
use native.Mathlib.Nat.{add-zero, zero-add, zero-div, zero-mul}
use native.Mathlib.Omega.{arith}
use lib.ListN.{length, get_or, take, drop, set, replicate, length-set, get_or-eq_default}
use lib.Seq.{get_or-set_same, get_or-set_other}
use Rattle.packedwords.specs.Packed.{unpacked, Packs}
use Rattle.packedwords.proofs.Packing.{unpacked-length}
use Rattle.packedwords.proofs.Windows.{window-end}
use Rattle.packedwords.proofs.Blocks.{packs_any, packs-blocks}
use Rattle.packedwords.proofs.Appending.{product-holds}
use Rattle.lists.proofs.Entries.{part_at, zeros_at}

-- the two blocks of a part of a slice

pub first_of_two : (src : List ℕ) (from : ℕ) → get_or (take 2 (drop from src)) 0 0 ≡ get_or src from 0
first_of_two src from = part_at src from 2 0 (omega arith) ∙ ap (λ (x : ℕ). get_or src x 0) (add-zero from)

pub second_of_two : (src : List ℕ) (from : ℕ) → get_or (take 2 (drop from src)) 1 0 ≡ get_or src (from + 1) 0
second_of_two src from = part_at src from 2 1 (omega arith)

module _ (src : List ℕ) (from n : ℕ) (h : Packs n (take 2 (drop from src))) where
  pub first-lt : get_or src from 0 < 2 ^ 60
  first-lt = rw (first_of_two src from) at (packs-blocks n (take 2 (drop from src)) h 0)

  pub second_lt : get_or src (from + 1) 0 < 2 ^ 60
  second_lt = rw (second_of_two src from) at (packs-blocks n (take 2 (drop from src)) h 1)

-- Two blocks S, moved down by s bits, in a product's blocks from the seam on: the third of these has what leaves the second of S, and those
-- behind it have nothing of S.
module _ (S : List ℕ) (two : length S ≡ 2) (s t : ℕ) where
  none : (k : ℕ) → 2 ≤ k → get_or S k 0 ≡ 0
  none k l = let o : length S ≤ k = omega arith in get_or-eq_default S 0 o

  third_block : get_or S 1 0 * 2 ^ t % 2 ^ 60 ≡ get_or S 1 0 * 2 ^ t % 2 ^ 60 + get_or S 2 0 / 2 ^ s
  third_block = rw (none 2 (omega arith), zero-div (2 ^ s), add-zero (get_or S 1 0 * 2 ^ t % 2 ^ 60))

  later-block : (i : ℕ) → 0 ≡ get_or S (suc (suc i)) 0 * 2 ^ t % 2 ^ 60 + get_or S (suc (suc (suc i))) 0 / 2 ^ s
  later-block i = rw (none (suc (suc i)) (omega arith), none (suc (suc (suc i))) (omega arith), zero-mul (2 ^ t), zero-div (2 ^ s))

-- The block with the seam, the next, and what leaves that one.
pub three_stores : (D S : List ℕ) (m n : ℕ) → Packs m D → Packs n S → m + n ≤ 72 → length D ≡ 9 → length S ≡ 2
    → (a b c : ℕ)
    → a ≡ get_or D (m / 12) 0 + get_or S 0 0 / 2 ^ (m % 12 * 5)
    → b ≡ get_or S 0 0 * 2 ^ (60 - m % 12 * 5) % 2 ^ 60 + get_or S 1 0 / 2 ^ (m % 12 * 5)
    → c ≡ get_or S 1 0 * 2 ^ (60 - m % 12 * 5) % 2 ^ 60
    → (E : List ℕ) → E ≡ set (set (set D (m / 12) a) (m / 12 + 1) b) (m / 12 + 2) c
    → (length E ≡ 9) × Packs (m + n) E × (unpacked (m + n) E ≡ unpacked m D ++ unpacked n S)
three_stores D S m n hD hS room nine two a b c ea eb ec E eE =
    let p = product-holds D S m n hD hS E (omega (arith, size)) before first later in
    (size, p.0, p.1)
  where
    D₁ : List ℕ
    D₁ = set D (m / 12) a

    D₂ : List ℕ
    D₂ = set D₁ (m / 12 + 1) b

    size₁ : length D₁ ≡ 9
    size₁ = length-set D (m / 12) a ∙ nine

    size₂ : length D₂ ≡ 9
    size₂ = length-set D₁ (m / 12 + 1) b ∙ size₁

    size : length E ≡ 9
    size = ap length eE ∙ length-set D₂ (m / 12 + 2) c ∙ size₂

    at : (j : ℕ) → get_or E j 0 ≡ get_or (set D₂ (m / 12 + 2) c) j 0
    at j = ap (λ (x : List ℕ). get_or x j 0) eE

    not_third : (j : ℕ) → (j ≡ m / 12 + 2 → ⊥) → get_or E j 0 ≡ get_or D₂ j 0
    not_third j d = at j ∙ get_or-set_other D₂ (m / 12 + 2) j c 0 d

    before : (j : ℕ) → j < m / 12 → get_or E j 0 ≡ get_or D j 0
    before j l =
        not_third j (λ e. omega arith)
        ∙ get_or-set_other D₁ (m / 12 + 1) j b 0 (λ e. omega arith)
        ∙ get_or-set_other D (m / 12) j a 0 (λ e. omega arith)

    first : get_or E (m / 12) 0 ≡ get_or D (m / 12) 0 + get_or S 0 0 / 2 ^ (m % 12 * 5)
    first =
        not_third (m / 12) (λ e. omega arith)
        ∙ get_or-set_other D₁ (m / 12 + 1) (m / 12) b 0 (λ e. omega arith)
        ∙ get_or-set_same D (m / 12) a 0 (omega arith)
        ∙ ea

    later : (i : ℕ) → m / 12 + suc i < length E
        → get_or E (m / 12 + suc i) 0 ≡ get_or S i 0 * 2 ^ (60 - m % 12 * 5) % 2 ^ 60 + get_or S (suc i) 0 / 2 ^ (m % 12 * 5)
    later zero l =
        not_third (m / 12 + 1) (λ e. omega arith) ∙ get_or-set_same D₁ (m / 12 + 1) b 0 (omega (arith, size₁)) ∙ eb
    later (suc zero) l =
        at (m / 12 + 2)
        ∙ get_or-set_same D₂ (m / 12 + 2) c 0 (omega (arith, size₂))
        ∙ ec
        ∙ third_block S two (m % 12 * 5) (60 - m % 12 * 5)
    later (suc (suc i)) l =
        let j = m / 12 + suc (suc (suc i)) in
        not_third j (λ e. omega arith)
        ∙ get_or-set_other D₁ (m / 12 + 1) j b 0 (λ e. omega arith)
        ∙ get_or-set_other D (m / 12) j a 0 (λ e. omega arith)
        ∙ packs_any m D hD j
        ∙ window-end (unpacked m D) (12 * j) (omega (arith, unpacked-length m D))
        ∙ later-block S two (m % 12 * 5) (60 - m % 12 * 5) i

-- The same where the word before has fewer than twelve letters: the seam is in the first block, and no other block of that word is needed.
pub short_stores : (D S : List ℕ) (m n : ℕ) → Packs m D → Packs n S → m < 12 → n ≤ 24 → length S ≡ 2
    → (a b c : ℕ)
    → a ≡ get_or D 0 0 + get_or S 0 0 / 2 ^ (m * 5)
    → b ≡ get_or S 0 0 * 2 ^ (60 - m * 5) % 2 ^ 60 + get_or S 1 0 / 2 ^ (m * 5)
    → c ≡ get_or S 1 0 * 2 ^ (60 - m * 5) % 2 ^ 60
    → (E : List ℕ) → E ≡ a ∷ b ∷ c ∷ replicate 6 0
    → (length E ≡ 9) × Packs (m + n) E × (unpacked (m + n) E ≡ unpacked m D ++ unpacked n S)
short_stores D S m n hD hS short few two a b c ea eb ec E eE =
    let p = product-holds D S m n hD hS E (omega (arith, size)) (λ j l. absurd (omega arith))
    (rw (block, letters) first) (λ i l. rw (block, letters, zero-add (suc i)) (later i)) in
    (size, p.0, p.1)
  where
    block : m / 12 ≡ 0
    block = omega arith

    letters : m % 12 ≡ m
    letters = omega arith

    size : length E ≡ 9
    size = ap length eE

    at : (j : ℕ) → get_or E j 0 ≡ get_or (a ∷ b ∷ c ∷ replicate 6 0) j 0
    at j = ap (λ (x : List ℕ). get_or x j 0) eE

    first : get_or E 0 0 ≡ get_or D 0 0 + get_or S 0 0 / 2 ^ (m * 5)
    first = at 0 ∙ ea

    later : (i : ℕ) → get_or E (suc i) 0 ≡ get_or S i 0 * 2 ^ (60 - m * 5) % 2 ^ 60 + get_or S (suc i) 0 / 2 ^ (m * 5)
    later zero = at 1 ∙ eb
    later (suc zero) = at 2 ∙ ec ∙ third_block S two (m * 5) (60 - m * 5)
    later (suc (suc i)) = at (suc (suc (suc i))) ∙ zeros_at 6 i ∙ later-block S two (m * 5) (60 - m * 5) i
