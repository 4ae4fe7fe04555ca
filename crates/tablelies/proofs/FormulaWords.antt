-- The words of a formula that was read are words of letters, and lie in the slices as a table's functions ask.
use mathlib.Core.Path.{◌≡◌}
use mathlib.Core.List.{List}
use Prim.Native.Nat.{ℕ, ◌≤◌}
use native.Mathlib.Omega.{arith}
use lib.ListN.{length}
use Rattle.lists.specs.All.{All}
use Rattle.lists.proofs.Every.{all_map}
use Rattle.words.specs.Word.{Letter}
use Rattle.algebra.specs.Poly.{InLetters}
use Rattle.package.specs.declared.Limits.{Limits}
use Rattle.package.specs.Formula.{formula, read_formula}
use Rattle.working.specs.Polynomial.{poly_term, poly_at, Given}
use Rattle.working.proofs.Terms.{all-terms}
use Rattle.acceptance.proofs.FormulaContent.{formula-content}
use Rattle.tabulating.specs.Lies.{WordsLie}
use Rattle.tablelies.proofs.Letters.{letters_wider}

module _ (p letters : ℕ) (m : Limits) (fc fs fl text : List ℕ) (l : letters ≤ 26)
    (reads : read_formula p letters m text ≡ formula (poly_at fc fs fl text)) where
  -- Its polynomial is in the letters `a` to `z`.
  pub formula-letters : InLetters (Letter 26) (poly_at fc fs fl text)
  formula-letters = all_map (λ t x. letters_wider l x) (formula-content p letters m text (poly_at fc fs fl text) reads).1

  -- Its words lie in the slices, where these are well formed.
  pub formula-words_lie : Given p fc fs fl text → WordsLie fs fl text (length fc)
  formula-words_lie g =
      let a = g.starts in
      let b = g.lens in
      record {
        starting = omega arith;
        ending = omega arith;
        inside = g.inside;
        short = g.short;
        letters = λ i q. all-terms (poly_term fc fs fl text) (λ t. All (Letter 26) t.word) 0 (length fc) formula-letters i (omega arith) (omega arith);
      }
