-- A word put behind another 24 letters at a time, or none.
use mathlib.Core.Path.{◌≡◌, sym, ◌∙◌, ap, ap₂}
use mathlib.Core.Logic.{◌⊎◌, inl, inr}
use mathlib.Core.List.{List, ◌++◌, append-nil, append_assoc}
use Prim.Native.Nat.{ℕ, ◌+◌, ◌*◌, ◌≤◌}
use native.Mathlib.Omega.{arith}
use lib.ListN.{length, take, drop, length-take, length-drop}
use lib.Seq.{take-add}
use Rattle.words.specs.Word.{Word, around}
use Rattle.packedwords.specs.Packed.{unpacked_from, unpacked, Packs}
use Rattle.packedwords.proofs.Packing.{unpacked-length}
use Rattle.packedwords.proofs.Parts.{packs-part}

-- The two blocks from block j on of a word of n letters: they have r letters of it, 24 or all that are left.
pub two_blocks : (S : List ℕ) (n : ℕ) → Packs n S → (j r : ℕ) → j + 2 ≤ length S → r ≤ 24 → 12 * j + r ≤ n → (r ≡ 24) ⊎ (12 * j + r ≡ n)
    → Packs r (take 2 (drop j S)) × (unpacked r (take 2 (drop j S)) ≡ take 24 (drop (12 * j) (unpacked n S)))
two_blocks S n h j r l few inside e = packs-part n S h j 2 r l (size e)
  where
    size : (r ≡ 24) ⊎ (12 * j + r ≡ n) → length (take 24 (drop (12 * j) (unpacked n S))) ≡ r
    size (inl q) =
        omega (arith, length-take 24 (drop (12 * j) (unpacked n S)), length-drop (12 * j) (unpacked n S), unpacked-length n S)
    size (inr q) =
        omega (arith, length-take 24 (drop (12 * j) (unpacked n S)), length-drop (12 * j) (unpacked n S), unpacked-length n S)

-- x is u and the first 12 * j letters of v; 24 letters more are put behind it.
pub long_more : (u v : Word) (j : ℕ) (x y z : Word) → x ≡ u ++ take (12 * j) v → y ≡ x ++ z → z ≡ take 24 (drop (12 * j) v)
    → y ≡ u ++ take (12 * (j + 2)) v
long_more u v j x y z p q r =
    let e : 12 * j + 24 ≡ 12 * (j + 2) = omega arith in
    q
    ∙ ap₂ (λ (s t : Word). s ++ t) p r
    ∙ append_assoc u (take (12 * j) v) (take 24 (drop (12 * j) v))
    ∙ ap (λ (s : Word). u ++ s) (sym (take-add (12 * j) 24 v) ∙ ap (λ (k : ℕ). take k v) e)

-- No letters put behind a word leave it.
pub append-none : (w : Word) (n : ℕ) (bs : List ℕ) → n ≡ 0 → w ++ unpacked n bs ≡ w
unfolding unpacked_from
append-none w n bs e = ap (λ (k : ℕ). w ++ unpacked k bs) e ∙ append-nil w

-- A word put behind the product of two others makes the product of the three.
pub product_of_three : (l w r x y : Word) → x ≡ l ++ w → y ≡ x ++ r → y ≡ around l r w
product_of_three l w r x y p q = q ∙ ap (λ (s : Word). s ++ r) p ∙ append_assoc l w r
