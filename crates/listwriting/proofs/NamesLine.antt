-- The list is its names line, and behind it the lines of the pairs.
use mathlib.Core.Path.{◌≡◌, ◌∙◌}
use mathlib.Core.List.{List, [], ◌∷◌, ◌++◌}
use Prim.Native.Nat.{ℕ, ◌+◌}
use native.Mathlib.Omega.{arith}
use lib.ListN.{length}
use lib.Seq.{sets}
use Rattle.words.specs.Word.{Word}
use Rattle.overlaps.specs.Listing.{overlap_names, all_lines, overlap_text}

module _ (ws : List Word) where
  pub text-length : length (overlap_text ws) ≡ 33 + length (all_lines ws)
  unfolding overlap_text
  text-length = omega arith

  pub text-stored : (l l₁ l₂ : List ℕ) (p r : ℕ) → (p ≡ 33) × (l₁ ≡ sets l 0 (overlap_names ++ (10 ∷ [])))
      → (r ≡ p + length (all_lines ws)) × (l₂ ≡ sets l₁ p (all_lines ws))
      → (r ≡ length (overlap_text ws)) × (l₂ ≡ sets l 0 (overlap_text ws))
  unfolding overlap_text
  text-stored l l₁ l₂ p r (x, y) (z, w) = (omega arith, w ∙ rw (y, x))
