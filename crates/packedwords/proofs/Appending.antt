-- The blocks of a product, from the blocks of its two words: those before the seam, the block with the seam, and those behind it.
use mathlib.Core.Path.{◌≡◌, sym, ◌∙◌, ap, ap₂}
use mathlib.Core.List.{List, [], ◌∷◌, ◌++◌}
use Prim.Native.Nat.{ℕ, zero, suc, ◌+◌, ◌-◌, ◌*◌, ◌/◌, ◌%◌, ◌^◌, ◌≤◌, ◌<◌}
use native.Mathlib.Nat.{add-zero, zero-add}
use native.Mathlib.Decide.{dec_lt}
use native.Mathlib.Omega.{arith}
use lib.ListN.{length, get_or, length-append}
use Rattle.words.specs.Word.{Word}
use Rattle.packedwords.specs.Packed.{Codes, window, unpacked, Packs}
use Rattle.packedwords.proofs.Packing.{unpacked-codes, unpacked-length, packs_of}
use Rattle.packedwords.proofs.Windows.{behind, window-end, window-product, behind-zero, behind-first, behind-later}
use Rattle.packedwords.proofs.Blocks.{packs_any}

codes-append : (u v : Word) → Codes u → Codes v → Codes (u ++ v)
codes-append [] v c d i = d i
codes-append (x ∷ u) v c d zero = c zero
codes-append (x ∷ u) v c d (suc i) = codes-append u v (λ j. c (suc j)) d i

-- D packs u, of m letters, and S packs v, of n letters. The seam is in block q behind r letters, so v's blocks are moved down by s bits, and
-- what leaves a block then is moved up by t in the next.
module _ (D S : List ℕ) (m n : ℕ) (hD : Packs m D) (hS : Packs n S) where
  abbrev u : Word
  u = unpacked m D

  abbrev v : Word
  v = unpacked n S

  abbrev q : ℕ
  q = m / 12

  abbrev s : ℕ
  s = m % 12 * 5

  abbrev t : ℕ
  t = 60 - m % 12 * 5

  down : 5 * (m % 12) ≡ s
  down = omega arith

  up : 5 * (12 - m % 12) ≡ t
  up = omega arith

  both : m % 12 + (12 - m % 12) ≡ 12
  both = omega arith

  -- the block from place i on, where the one of u and the one of v behind m zeros are known
  sum : (i x y : ℕ) → window u i ≡ x → window (behind m v) i ≡ y → window (u ++ v) i ≡ x + y
  sum i x y e f =
      window-product u v i ∙ ap₂ (λ (a b : ℕ). a + b) e (ap (λ (k : ℕ). window (behind k v) i) (unpacked-length m D) ∙ f)

  pub product-before : (j : ℕ) → j < q → window (u ++ v) (12 * j) ≡ get_or D j 0
  product-before j l =
      sum (12 * j) (get_or D j 0) 0 (sym (packs_any m D hD j)) (behind-zero v (unpacked-codes n S) m (12 * j) (omega arith))
      ∙ add-zero (get_or D j 0)

  pub product-first : window (u ++ v) (12 * q) ≡ get_or D q 0 + get_or S 0 0 / 2 ^ s
  product-first =
      sum (12 * q) (get_or D q 0) (get_or S 0 0 / 2 ^ s) (sym (packs_any m D hD q))
      (behind-first v (unpacked-codes n S) m (12 * q) (m % 12) (12 - m % 12) both (omega arith)
      ∙ ap₂ (λ (x y : ℕ). x / 2 ^ y) (sym (packs_any n S hS 0)) down)

  pub product-later : (i : ℕ) → window (u ++ v) (12 * (q + suc i)) ≡ get_or S i 0 * 2 ^ t % 2 ^ 60 + get_or S (suc i) 0 / 2 ^ s
  product-later i =
      let j = q + suc i in
      let y = get_or S i 0 * 2 ^ t % 2 ^ 60 + get_or S (suc i) 0 / 2 ^ s in
      let next : 12 * i + 12 ≡ 12 * suc i = omega arith in
      sum (12 * j) 0 y (window-end u (12 * j) (omega (arith, unpacked-length m D)))
      (behind-later v (unpacked-codes n S) m (12 * j) (m % 12) (12 - m % 12) both (12 * i) (omega arith)
      ∙ ap₂ (λ (x y : ℕ). x + y)
      (ap₂ (λ (x y : ℕ). x * 2 ^ y % 2 ^ 60) (sym (packs_any n S hS i)) up)
      (ap₂ (λ (x y : ℕ). x / 2 ^ y) (ap (window v) next ∙ sym (packs_any n S hS (suc i))) down))
      ∙ zero-add y

  -- A room for m + n letters with these numbers in it packs the product.
  pub product-holds : (E : List ℕ) → m + n ≤ 12 * length E
      → ((j : ℕ) → j < q → get_or E j 0 ≡ get_or D j 0)
      → get_or E q 0 ≡ get_or D q 0 + get_or S 0 0 / 2 ^ s
      → ((i : ℕ) → q + suc i < length E → get_or E (q + suc i) 0 ≡ get_or S i 0 * 2 ^ t % 2 ^ 60 + get_or S (suc i) 0 / 2 ^ s)
      → Packs (m + n) E × (unpacked (m + n) E ≡ u ++ v)
  product-holds E h before first later =
      packs_of E (u ++ v) (m + n) (codes-append u v (unpacked-codes m D) (unpacked-codes n S))
      (length-append u v ∙ ap₂ (λ (x y : ℕ). x + y) (unpacked-length m D) (unpacked-length n S)) h entry
    where
      entry : (j : ℕ) → j < length E → get_or E j 0 ≡ window (u ++ v) (12 * j)
      entry j l = go (dec_lt j q) (dec_lt q j)
        where
          go : Dec (j < q) → Dec (q < j) → get_or E j 0 ≡ window (u ++ v) (12 * j)
          go (yes p) _ = before j p ∙ sym (product-before j p)
          go (no a) (no b) = let e : j ≡ q = omega arith in rw e (first ∙ sym product-first)
          go (no a) (yes p) =
              let i = j - m / 12 - 1 in
              let e : j ≡ q + suc i = omega arith in
              ap (λ (x : ℕ). get_or E x 0) e ∙ later i (omega arith) ∙ sym (product-later i) ∙ ap (λ (x : ℕ). window (u ++ v) (12 * x)) (sym e)
