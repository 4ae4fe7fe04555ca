-- Words packed, by computation.
use mathlib.Core.Path.{◌≡◌, refl}
use mathlib.Core.List.{[], ◌∷◌, ◌++◌}
use Prim.Native.Nat.{◌+◌, ◌*◌, ◌^◌}
use lib.ListN.{replicate}
use Rattle.words.specs.Word.{Word}
use Rattle.packedwords.specs.Codes.{code, coded}
use Rattle.packedwords.specs.Packed.{value, window, packed_from, packed, letter_of, unpacked_from, unpacked}

abbrev ab : Word
ab = 97 ∷ 98 ∷ []

-- `ab` is one number: `a`, the highest code of all, 26, in bits 55 to 59, and `b`, 25, in the five below; `z` has 1.
pub ab_packed : (packed 1 (coded ab) ≡ 964896220164128768 ∷ []) × (964896220164128768 ≡ 26 * 2 ^ 55 + 25 * 2 ^ 50) × (code 122 ≡ 1)
unfolding packed_from value code
ab_packed = (refl, refl, refl)

-- Twelve times `a` and then `b`: the thirteenth letter is the first of the second block. The word comes back from its blocks.
pub long_packed : (packed 2 (coded (replicate 12 97 ++ 98 ∷ [])) ≡ window (replicate 12 26) 0 ∷ 25 * 2 ^ 55 ∷ [])
    × (coded (unpacked 13 (packed 2 (coded (replicate 12 97 ++ 98 ∷ [])))) ≡ replicate 12 97 ++ 98 ∷ [])
unfolding packed_from value code letter_of unpacked_from
long_packed = (refl, refl)
