-- Words of the letters `a` to `z`: those in the letters in use, and those whose bytes are between 97 and 122.
use mathlib.Core.Path.{◌≡◌}
use mathlib.Core.Bool.{true}
use mathlib.Core.List.{[], ◌∷◌}
use Prim.Native.Nat.{ℕ, ◌≤◌}
use native.Mathlib.Omega.{arith}
use Rattle.lists.specs.All.{All, done, ◌also◌}
use Rattle.lists.proofs.Every.{all_map}
use Rattle.words.specs.Word.{Word, Letter}
use Rattle.text.specs.Bytes.{all_within}
use Rattle.text.proofs.Bytewise.{within-bounds, all_cons}

-- At most 26 letters are in use.
pub letters_wider : {n : ℕ} → n ≤ 26 → {w : Word} → All (Letter n) w → All (Letter 26) w
letters_wider {n} l = all_map wider
  where
    wider : (a : ℕ) → Letter n a → Letter 26 a
    wider a x = let y = x.most in record { least = x.least; most = omega arith }

-- The form of a word in a text.
pub within-letters : (w : Word) → all_within 97 122 w ≡ true → All (Letter 26) w
within-letters [] e = done
within-letters (a ∷ w) e =
    let (x, y) = all_cons 97 122 a w e in
    let (l, h) = within-bounds 97 122 a x in
    record { least = l; most = omega arith } also within-letters w y
