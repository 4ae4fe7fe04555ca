-- A word of at most 24 letters in six blocks.
use mathlib.Core.Path.{◌≡◌, sym, ◌∙◌}
use mathlib.Core.List.{[], ◌∷◌}
use Prim.Native.Nat.{ℕ, zero, suc, ◌*◌, ◌≤◌, ◌<◌}
use native.Mathlib.Omega.{arith}
use lib.ListN.{length, get_or}
use Rattle.words.specs.Word.{Word}
use Rattle.packedwords.specs.Packed.{window, packed}
use Rattle.packedwords.proofs.Packing.{packed_unique}
use Rattle.packedwords.proofs.Windows.{window-end}
use Rattle.lists.proofs.Entries.{zeros_at}

-- Two blocks and four zeros are a word of at most 24 letters packed.
pub short-packed : (w : Word) (x y : ℕ) → length w ≤ 24 → x ≡ window w 0 → y ≡ window w 12 → x ∷ y ∷ 0 ∷ 0 ∷ 0 ∷ 0 ∷ [] ≡ packed 6 w
short-packed w x y h p q = packed_unique (x ∷ y ∷ 0 ∷ 0 ∷ 0 ∷ 0 ∷ []) w entry
  where
    -- behind the two blocks there are zeros, as behind the end of the word
    entry : (i : ℕ) → i < 6 → get_or (x ∷ y ∷ 0 ∷ 0 ∷ 0 ∷ 0 ∷ []) i 0 ≡ window w (12 * i)
    entry zero l = p
    entry (suc zero) l = q
    entry (suc (suc i)) l = zeros_at 4 i ∙ sym (window-end w (12 * suc (suc i)) (omega arith))
