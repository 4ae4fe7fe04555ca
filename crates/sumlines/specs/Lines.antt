-- Sum lines as they stand in the bytes: the line at a place, and whether the next line is one of an item.
use Rattle.std.specs.Prelude.{◌≡◌, Bool, true, false, List, [], ◌∷◌, ℕ, suc, ◌+◌, ◌≤◌, ◌<◌, eqb, ltb, length, drop, Option, None, Some}
use Rattle.text.specs.Pieces.{pieces, lines, part}
use Rattle.algebra.specs.Ideal.{Line}
use Rattle.package.specs.Names.{sum_o}
use Rattle.package.specs.Sums.{SumLine, sums_of}
use Rattle.package.specs.declared.SumAt.{SumAt}

-- The sum lines of the text from a place on, the first of which has the number n.
abbrev pub sums_at : List ℕ → ℕ → ℕ → List SumLine
sums_at bytes at n = sums_of n (lines (drop at bytes))

-- The line, with the number n.
abbrev pub held_line : List ℕ → ℕ → SumAt → SumLine
held_line bytes n r = record {
  line = n;
  kind = r.kind;
  item = r.item;
  coef = r.coef;
  left = part bytes r.left r.left_len;
  of = r.of;
  right = part bytes r.right r.right_len;
}

-- The line and those behind it, or none.
unfoldable pub held_from : List ℕ → ℕ → Option SumAt → List SumLine
unfolding sums_of pieces
held_from bytes n None = []
held_from bytes n (Some r) = held_line bytes n r ∷ sums_at bytes r.next (suc n)

-- The first line has the number n.
unfoldable pub NumberedFrom : ℕ → List SumLine → Type 0
NumberedFrom n [] = Unit {0}
NumberedFrom n (s ∷ ss) = s.line ≡ n

-- The first line is one of item i of kind k.
unfoldable pub first_is : ℕ → ℕ → List SumLine → Bool
first_is k i [] = false
first_is k i (s ∷ ss) = elim (eqb s.kind k) [ false ↦ false | true ↦ eqb s.item i ]

-- A line that stands at a place has its words in the bytes, and ends behind the place.
pub record Inside (bytes : List ℕ) (at : ℕ) (r : SumAt) : Type 0 where
  pub further : at < r.next
  pub next_le : r.next ≤ length bytes
  pub left_in : r.left + r.left_len ≤ length bytes
  pub right_in : r.right + r.right_len ≤ length bytes

-- An O line whose item is above the count of overlaps and inclusions.
unfoldable pub above_count : ℕ → ℕ → ℕ → Bool
above_count count k i = elim (eqb k sum_o) [ false ↦ false | true ↦ ltb count i ]

-- Lines have the numbers n, n + 1, ..
pub data Counted : ℕ → List SumLine → Type 0 where
  uncounted : {n : ℕ} → Counted n []
  counted : {n : ℕ} {s : SumLine} {ss : List SumLine} → s.line ≡ n → Counted (suc n) ss → Counted n (s ∷ ss)

-- What a line adds.
abbrev pub taken_line : List ℕ → SumAt → Line
taken_line bytes r = record { coef = r.coef; left = part bytes r.left r.left_len; of = r.of; right = part bytes r.right r.right_len }

-- A line that can be taken away: its coefficient is an element, its words lie in the bytes and have at most 24 letters, and it names one of count polynomials.
pub record LineFits (p : ℕ) (bytes : List ℕ) (count : ℕ) (r : SumAt) : Type 0 where
  pub coef : r.coef < p
  pub some : 1 ≤ r.of
  pub most : r.of ≤ count
  pub left-short : r.left_len ≤ 24
  pub right-short : r.right_len ≤ 24
  pub left_in : r.left + r.left_len ≤ length bytes
  pub right_in : r.right + r.right_len ≤ length bytes
