-- The lines of one item taken away from its target, one after the other: what is left of them, and then what follows, gives the verdict. The sums of a
-- kind and those of the pairs go by these laws alike.
use mathlib.Core.Path.{◌≡◌}
use mathlib.Core.Bool.{Bool, true, false}
use mathlib.Core.List.{List, [], ◌∷◌}
use Prim.Native.Nat.{ℕ, suc, ◌+◌, ◌≤◌, ◌<◌}
use native.Mathlib.Numerals.{add-one}
use lib.ListN.{length}
use Rattle.std.specs.Prelude.{Option, Some}
use Rattle.field.specs.Field.{Operations}
use Rattle.words.specs.Order.{Order}
use Rattle.algebra.specs.Poly.{Poly}
use Rattle.algebra.specs.Ideal.{Family, Line}
use Rattle.algebra.specs.Steps.{take_away}
use Rattle.package.specs.declared.Head.{Head}
use Rattle.package.specs.Sums.{SumLine}
use Rattle.acceptance.specs.Content.{sum_of}
use Rattle.acceptance.specs.Check.{Verdict, refusal, then_judge, less, sum_verdict}
use Rattle.acceptance.proofs.LinesTaken.{less-fails, less-over, less-more, end-right, end_wrong}
use Rattle.package.specs.declared.SumAt.{SumAt}
use Rattle.sumlines.specs.Lines.{sums_at, held_line, held_from, first_is, taken_line}
use Rattle.sumorder.proofs.NextLine.{NextLine, lines_are, its_sum, no_line-left}

-- The verdict on item i of a kind, whose sum has come to f, by the lines ss, and then on what follows; a wrong sum gives number n.
abbrev pub item_then : (n kind i : ℕ) → (Line → Bool) → Operations → Order → Family → (List SumLine → Verdict) → List SumLine → Poly → Verdict
item_then n kind i test K O G later ss f = then_judge (sum_verdict n i (less test K O G f (sum_of kind i ss))) (later ss)

-- What is left gives the verdict `whole`.
module _ (n kind i : ℕ) (test : Line → Bool) (K : Operations) (O : Order) (G : Family) (later : List SumLine → Verdict) (whole : Verdict)
    (h : Head) (bytes : List ℕ) (at line : ℕ) where
  -- The next line is s, one of the item.
  module _ (s : SumAt) (d : NextLine h kind i bytes at line (Some s)) (f : Poly)
      (same : item_then n kind i test K O G later (sums_at bytes at line) f ≡ whole) (p : first_is kind i (held_from bytes line (Some s)) ≡ true) where
    abbrev x : SumLine
    x = held_line bytes line s

    abbrev ss : List SumLine
    ss = sums_at bytes s.next (suc line)

    with_line : then_judge (sum_verdict n i (less test K O G f (x ∷ sum_of kind i ss))) (later (x ∷ ss)) ≡ whole
    with_line = rw (its_sum h kind i bytes at line s d p) at (rw (lines_are h kind i bytes at line s d p) at same)

    -- it fails its test
    pub line-fails : test (taken_line bytes s) ≡ false → refusal 14 line ≡ whole
    unfolding then_judge sum_verdict
    line-fails e = rw (less-fails test K O G f x (sum_of kind i ss) e) at with_line

    -- it passes, and leaves g
    module _ (e : test (taken_line bytes s) ≡ true) (g : Poly) (q : g ≡ take_away K O G f (taken_line bytes s)) where
      pub line-over : 512 < length g → refusal 10 line ≡ whole
      unfolding then_judge sum_verdict
      line-over l = rw (less-over test K O G f x (sum_of kind i ss) e (rw q at l)) at with_line

      pub line-more : length g ≤ 512 → later (x ∷ ss) ≡ later ss → item_then n kind i test K O G later (sums_at bytes s.next (line + 1)) g ≡ whole
      line-more l skip = rw (q, add-one line) (rw (less-more test K O G f x (sum_of kind i ss) e (rw q at l), skip) at with_line)

  -- None is left of the item.
  module _ (next : Option SumAt) (d : NextLine h kind i bytes at line next) (f : Poly)
      (same : item_then n kind i test K O G later (sums_at bytes at line) f ≡ whole) (p : first_is kind i (held_from bytes line next) ≡ false) where
    without : then_judge (sum_verdict n i (less test K O G f [])) (later (sums_at bytes at line)) ≡ whole
    without = rw (no_line-left h kind i bytes at line next d p) at same

    pub item_wrong : 0 < length f → refusal n i ≡ whole
    unfolding then_judge
    item_wrong l = rw (end_wrong test K O G n i f l) at without

    pub item-right : length f ≤ 0 → later (sums_at bytes at line) ≡ whole
    unfolding then_judge
    item-right l = rw (end-right test K O G n i f l) at without
