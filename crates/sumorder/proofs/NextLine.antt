-- The next line of an item: what follows where it is present, and where it is not.
use mathlib.Core.Path.{◌≡◌, sym, subst}
use mathlib.Core.Bool.{true, false}
use mathlib.Core.List.{List, [], ◌∷◌}
use Prim.Native.Nat.{ℕ, suc, ◌+◌, ◌≤◌, ◌<◌}
use native.Mathlib.Numerals.{add-one}
use native.Mathlib.Omega.{arith}
use lib.ListN.{length}
use Rattle.std.specs.Prelude.{Option, Some, IfSome}
use Rattle.package.specs.declared.Head.{Head}
use Rattle.package.specs.Package.{package_limits}
use Rattle.package.specs.Sums.{ofs}
use Rattle.package.specs.Readable.{SumsInOrder}
use Rattle.acceptance.specs.Content.{sum_of}
use Rattle.package.specs.declared.SumAt.{SumAt}
use Rattle.sumlines.specs.Lines.{sums_at, held_line, held_from, NumberedFrom, first_is, Inside, LineFits}
use Rattle.sumorder.specs.Reached.{Reached}
use Rattle.sumorder.proofs.LineOrder.{is_first-kind, sum_this, order-numbered, order-rest, order-first, order-next, sum-none, line-fits}

-- The lines from `at` on are reached, and `next` is the first of them.
pub record NextLine (h : Head) (kind i : ℕ) (bytes : List ℕ) (at line : ℕ) (next : Option SumAt) : Type 0 where
  pub reached : Reached h kind i bytes at line
  pub inside : IfSome next (λ s. Inside bytes at s)
  pub held : held_from bytes line next ≡ sums_at bytes at line

module _ (h : Head) (kind i : ℕ) (bytes : List ℕ) (at line : ℕ) where
  pub next-line : (next : Option SumAt) → Reached h kind i bytes at line → IfSome next (λ s. Inside bytes at s)
      → ((n : ℕ) → NumberedFrom n (sums_at bytes at n) → held_from bytes n next ≡ sums_at bytes at n) → NextLine h kind i bytes at line next
  next-line next r x t = record { reached = r; inside = x; held = t line (order-numbered r.order) }

  -- it is a line of the item
  module _ (s : SumAt) (d : NextLine h kind i bytes at line (Some s)) (q : first_is kind i (held_from bytes line (Some s)) ≡ true) where
    pub lines_are : sums_at bytes at line ≡ held_line bytes line s ∷ sums_at bytes s.next (suc line)
    unfolding held_from
    lines_are = sym d.held

    pub its_kind : (s.kind ≡ kind) × (s.item ≡ i)
    unfolding held_from
    its_kind = is_first-kind kind i (held_line bytes line s) (sums_at bytes s.next (suc line)) q

    in_order : SumsInOrder h package_limits kind i line (held_line bytes line s ∷ sums_at bytes s.next (suc line))
    in_order = rw lines_are at d.reached.order

    pub its_sum : sum_of kind i (held_line bytes line s ∷ sums_at bytes s.next (suc line)) ≡ held_line bytes line s ∷ sum_of kind i (sums_at bytes s.next (suc line))
    its_sum = sum_this kind i (held_line bytes line s) (sums_at bytes s.next (suc line)) its_kind.0 its_kind.1

    pub next_fits : LineFits h.p bytes (ofs h kind) s
    next_fits = subst (λ k. LineFits h.p bytes (ofs h k) s) its_kind.0 (line-fits h kind i line bytes at s (order-first in_order) d.inside)

    pub next_low : s.next ≤ length bytes
    next_low = d.inside.next_le

    pub next-further : at < s.next
    next-further = d.inside.further

    pub next_reached : Reached h kind i bytes s.next (line + 1)
    next_reached =
        let a = next-further in
        let b = d.reached.small in
        record {
          size = d.reached.size;
          low = next_low;
          small = omega arith;
          some = omega arith;
          order = rw (add-one line) (rw (its_kind.0, its_kind.1) at (order-rest in_order));
        }

  -- none of the item is left
  module _ (next : Option SumAt) (d : NextLine h kind i bytes at line next) (q : first_is kind i (held_from bytes line next) ≡ false) where
    none_first : first_is kind i (sums_at bytes at line) ≡ false
    none_first = rw d.held at q

    pub no_line-left : sum_of kind i (sums_at bytes at line) ≡ []
    no_line-left = sum-none (sums_at bytes at line) d.reached.order none_first

    item_reached : Reached h kind (i + 1) bytes at line
    item_reached = let r = d.reached in record { size = r.size; low = r.low; small = r.small; some = r.some; order = order-next (sums_at bytes at line) r.order none_first }

    pub next-item : NextLine h kind (i + 1) bytes at line next
    next-item = record { reached = item_reached; inside = d.inside; held = d.held }
