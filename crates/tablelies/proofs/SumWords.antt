-- The two words of a sum line that stands in the bytes are words of letters: without them the line would have no sum line's form.
use mathlib.Core.Path.{◌≡◌, refl, subst}
use mathlib.Core.Bool.{true}
use mathlib.Core.List.{List}
use Prim.Native.Nat.{ℕ, suc}
use native.Mathlib.Omega.{arith}
use lib.ListN.{drop}
use Rattle.std.specs.Prelude.{Some}
use Rattle.lists.specs.All.{All, done, ◌also◌}
use Rattle.lists.proofs.Every.{all_at}
use Rattle.words.specs.Word.{Letter}
use Rattle.text.specs.Pieces.{Pieces, final, piece, lines, fields, part}
use Rattle.package.specs.declared.Head.{Head}
use Rattle.package.specs.Sums.{SumLine, SumForm, no_sum, sum, sum_form, with_sum, sums_of}
use Rattle.package.proofs.SumTexts.{sum-text}
use Rattle.package.specs.declared.SumAt.{SumAt}
use Rattle.sumlines.specs.Lines.{held_line, held_from, first_is}
use Rattle.sumorder.proofs.NextLine.{NextLine, lines_are, next_fits}
use Rattle.tablesums.specs.Lines.{LineWords}
use Rattle.tablelies.proofs.Letters.{within-letters}

-- Both words are words of letters.
abbrev BothLettered : SumLine → Type 0
BothLettered x = All (Letter 26) x.left × All (Letter 26) x.right

-- Every line that has the form of a sum line.
sums_lettered : (n : ℕ) (ps : Pieces) → All BothLettered (sums_of n ps)
unfolding sums_of with_sum
sums_lettered n (final x) = done
sums_lettered n (piece l ls) = go (sum_form (fields l)) refl (sums_lettered (suc n) ls)
  where
    go : (f : SumForm) → sum_form (fields l) ≡ f → All BothLettered (sums_of (suc n) ls) → All BothLettered (with_sum n f (sums_of (suc n) ls))
    go no_sum e r = r
    go (sum k i c a o b) e r = let t = sum-text (fields l) k i c a o b e in (within-letters a t.lefts, within-letters b t.rights) also r

module _ (h : Head) (kind i : ℕ) (bytes : List ℕ) (at line : ℕ) (s : SumAt)
    (d : NextLine h kind i bytes at line (Some s)) (q : first_is kind i (held_from bytes line (Some s)) ≡ true) where
  -- The next line, where it is one of the item.
  pub next-letters : All (Letter 26) (part bytes s.left s.left_len) × All (Letter 26) (part bytes s.right s.right_len)
  next-letters =
      let all = subst (All BothLettered) (lines_are h kind i bytes at line s d q) (sums_lettered line (lines (drop at bytes))) in
      all_at all (held_line bytes line s) 0 (omega arith)

  -- Its words lie in the bytes as they are packed from there.
  pub line-words : LineWords bytes s
  line-words =
      let fits = next_fits h kind i bytes at line s d q in
      record {
        left-short = fits.left-short;
        right-short = fits.right-short;
        left_in = fits.left_in;
        right_in = fits.right_in;
        left-letters = next-letters.0;
        right-letters = next-letters.1;
      }
