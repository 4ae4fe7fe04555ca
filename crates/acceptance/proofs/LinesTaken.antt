-- Lines taken away, line by line: what one line at the front does, and the verdict where no line is left.
use mathlib.Core.Path.{◌≡◌, refl}
use mathlib.Core.Bool.{Bool, true, false}
use mathlib.Core.List.{List, [], ◌∷◌}
use Prim.Native.Nat.{ℕ, ◌≤◌, ◌<◌}
use native.Mathlib.Omega.{arith}
use lib.ListN.{length}
use borrow.Author.Tests.{lt-ltb, le-ltb}
use Rattle.field.specs.Field.{Operations}
use Rattle.words.specs.Order.{Order}
use Rattle.algebra.specs.Poly.{Poly}
use Rattle.algebra.specs.Ideal.{Family, Line}
use Rattle.algebra.specs.Steps.{take_away}
use Rattle.package.specs.Sums.{SumLine}
use Rattle.acceptance.specs.Content.{line_of}
use Rattle.acceptance.specs.Check.{refusal, fine, fails, over, less, sum_verdict}

module _ (test : Line → Bool) (K : Operations) (O : Order) (G : Family) where
  -- one line at the front
  module _ (f : Poly) (s : SumLine) (ss : List SumLine) where
    pub less-fails : test (line_of s) ≡ false → less test K O G f (s ∷ ss) ≡ fails s.line
    unfolding less
    less-fails e = rw (less, e)

    pub less-over : test (line_of s) ≡ true → 512 < length (take_away K O G f (line_of s)) → less test K O G f (s ∷ ss) ≡ over s.line
    unfolding less
    less-over e h = rw (less, e, lt-ltb 512 (length (take_away K O G f (line_of s))) h)

    pub less-more : test (line_of s) ≡ true → length (take_away K O G f (line_of s)) ≤ 512
        → less test K O G f (s ∷ ss) ≡ less test K O G (take_away K O G f (line_of s)) ss
    unfolding less
    less-more e h = rw (less, e, le-ltb 512 (length (take_away K O G f (line_of s))) h)

  -- no line left: the item is right where nothing is left, and wrong else
  pub end-right : (n i : ℕ) (f : Poly) → length f ≤ 0 → sum_verdict n i (less test K O G f []) ≡ fine
  unfolding less sum_verdict
  end-right n i [] h = refl
  end-right n i (t ∷ f) h = absurd (omega arith)

  pub end_wrong : (n i : ℕ) (f : Poly) → 0 < length f → sum_verdict n i (less test K O G f []) ≡ refusal n i
  unfolding less sum_verdict
  end_wrong n i [] h = absurd (omega arith)
  end_wrong n i (t ∷ f) h = refl
