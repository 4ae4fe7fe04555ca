-- What two blocks of eight letters, as numbers, say of the words they stand in.
use mathlib.Core.Path.{◌≡◌, refl, sym, ◌∙◌, ap}
use Prim.Native.Nat.{ℕ, ◌+◌, ◌≤◌, ◌<◌}
use native.Mathlib.Nat.{add-zero}
use native.Mathlib.Omega.{arith}
use lib.ListN.{length, get_or, drop}
use Rattle.std.specs.declared.cmp.Ordering.TheVariants.{Equal}
use Rattle.words.specs.Word.{Word}
use Rattle.words.specs.Order.{letter_rank, by_number_of, by_letters}
use Rattle.wordorder.specs.Block.{block_at}
use Rattle.words.proofs.Lexicographic.{number_same}
use Rattle.wordorder.proofs.Numbers.{value, number_decides, letters-number}

-- letters of a slice of bytes
abbrev pub Bytes : Word → Type 0
Bytes u = (i : ℕ) → get_or u i 0 < 256

-- the letters from place i on
abbrev from : Word → ℕ → ℕ → ℕ
from u i j = get_or u (i + j) 0

block-value : (u : Word) (i : ℕ) → block_at u i ≡ value (from u i) 8
unfolding value
block-value u i =
    let z : get_or u (i + 0) 0 ≡ get_or u i 0 = ap (λ (j : ℕ). get_or u j 0) (add-zero i) in
    omega arith

module _ (u v : Word) (p : Bytes u) (q : Bytes v) (i : ℕ) (h : i + 8 ≤ length u) (k : i + 8 ≤ length v) where
  block-letters : by_number_of (value (from v i) 8) (value (from u i) 8) (by_letters letter_rank (drop (i + 8) u) (drop (i + 8) v)) ≡ by_letters letter_rank (drop i u) (drop i v)
  block-letters = letters-number u v i (from u i) (from v i) (λ j. p (i + j)) (λ j. q (i + j)) 8 h k (λ j l. refl) (λ j l. refl)

  -- The eight letters may be left out.
  pub block-equal : block_at u i ≡ block_at v i → by_letters letter_rank (drop (i + 8) u) (drop (i + 8) v) ≡ by_letters letter_rank (drop i u) (drop i v)
  block-equal e = sym (number_same _ (sym (block-value v i) ∙ sym e ∙ block-value u i)) ∙ block-letters

  -- Or they decide.
  pub block-differs : (block_at u i ≡ block_at v i → ⊥) → by_number_of (block_at v i) (block_at u i) Equal ≡ by_letters letter_rank (drop i u) (drop i v)
  block-differs d =
      rw (block-value u i, block-value v i) (number_decides _ _ Equal _ (λ e. d (block-value u i ∙ sym e ∙ sym (block-value v i))) ∙ block-letters)
