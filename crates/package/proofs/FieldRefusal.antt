-- A package is refused by 3, with place 2, exactly if its first two lines read and the number p in the second means no field.
use mathlib.Core.Path.{◌≡◌, refl, sym, ◌∙◌}
use mathlib.Core.Bool.{Bool, true, false, true≢false}
use mathlib.Core.Logic.{◌≢◌}
use mathlib.Core.List.{List}
use Prim.Native.Nat.{ℕ, ◌≤◌}
use native.Mathlib.Omega.{arith}
use lib.Dec.{ltb}
use lib.ListN.{length}
use borrow.Author.Tests.{le-ltb, ltb-false}
use Rattle.lists.proofs.Bools.{not_true}
use Rattle.package.specs.Answer.{refused, read, ◌then◌}
use Rattle.package.specs.Head.{HeadForm, no_head, head, head_form, field_fits, counts_fit}
use Rattle.package.specs.Names.{head_names}
use Rattle.package.specs.NoField.{NoField}
use Rattle.package.specs.Package.{package_limits, names_line, CountsBlock, counts_judged, counts_line, term_names_line, head_lines_of, term_block, sum_block, sized, read_with, read_package}
use Rattle.package.specs.declared.Head.{Head}
use Rattle.text.specs.Pieces.{Pieces, final, piece, lines, fields}
use Rattle.package.proofs.Answers.{refused_not_read, read_injective}
use Rattle.package.proofs.FieldNumbers.{fits_iff}
use Rattle.package.proofs.HeadTexts.{names_text}
use Rattle.package.proofs.ReadingNumbers.{Numbered, then-numbered, names_numbered, term_names_numbered, term-block-numbered, sum-block-numbered, size-numbered}

sized-read : (bytes : List ℕ) → length bytes ≤ 65536 → sized bytes ≡ read (lines bytes)
unfolding sized
sized-read bytes h = rw (sized, le-ltb 65536 (length bytes) h)

read-sized : (bytes : List ℕ) (ls : Pieces) → sized bytes ≡ read ls → (length bytes ≤ 65536) × (lines bytes ≡ ls)
unfolding sized
read-sized bytes ls e = go (ltb 65536 (length bytes)) refl
  where
    go : (t : Bool) → ltb 65536 (length bytes) ≡ t → (length bytes ≤ 65536) × (lines bytes ≡ ls)
    go true q = absurd (refused_not_read 1 0 ls (rw (sized, q) at e))
    go false q = (ltb-false 65536 (length bytes) q, read_injective (lines bytes) ls (rw (sized, q) at e))

module _ (bytes : List ℕ) where
  -- A number that is 3 only where p means no field.
  abbrev pub OnlyNoField : ℕ → Type 0
  OnlyNoField n = n ≡ 3 → NoField bytes

  pub other : (n : ℕ) → n ≢ 3 → OnlyNoField n
  other n h e = absurd (h e)

  -- The second line: 3 is met by p alone.
  counts_3 : (ps : Pieces) → length bytes ≤ 65536 → lines bytes ≡ piece head_names ps → Numbered OnlyNoField (counts_line ps)
  unfolding Numbered counts_line counts_judged
  counts_3 (final x) size cut = other 2 (λ e. omega arith)
  counts_3 (piece l ls) size cut = by_form (head_form (fields l)) refl
    where
      by_tests : (h : Head) → head_form (fields l) ≡ head h → (t u : Bool) → field_fits h.p ≡ t
          → Numbered OnlyNoField {A = CountsBlock} (elim t [ false ↦ refused 3 2 | true ↦ elim u [ false ↦ refused 4 2 | true ↦ read (record { head = h; rest = ls }) ] ])
      by_tests h q false u a = λ e. record {
        size = size;
        second = l;
        rest = ls;
        cut = cut;
        counts = h;
        says = q;
        none = λ m. true≢false (sym ((fits_iff h.p).1 m) ∙ a);
      }
      by_tests h q true false a = other 4 (λ e. omega arith)
      by_tests h q true true a = tt

      by_form : (f : HeadForm) → head_form (fields l) ≡ f → Numbered OnlyNoField (counts_judged f ls)
      by_form no_head q = other 2 (λ e. omega arith)
      by_form (head h) q = by_tests h q (field_fits h.p) (counts_fit h) refl

  head-lines_3 : (ls : Pieces) → sized bytes ≡ read ls → Numbered OnlyNoField (head_lines_of ls)
  unfolding head_lines_of
  head-lines_3 ls s =
      let (size, cut) = read-sized bytes ls s in
      then-numbered OnlyNoField (names_line head_names 1 ls then counts_line) term_names_line
      (then-numbered OnlyNoField (names_line head_names 1 ls) counts_line (names_numbered OnlyNoField (other 2 (λ e. omega arith)) head_names 1 ls)
      (λ ms x. counts_3 ms size (cut ∙ names_text head_names 1 ls ms x)))
      (λ c _. term_names_numbered OnlyNoField (other 2 (λ e. omega arith)) c)

  pub read_3 : Numbered OnlyNoField (read_package bytes)
  unfolding read_package read_with
  read_3 =
      then-numbered OnlyNoField (sized bytes then head_lines_of then term_block package_limits) (sum_block package_limits)
      (then-numbered OnlyNoField (sized bytes then head_lines_of) (term_block package_limits)
      (then-numbered OnlyNoField (sized bytes) head_lines_of (size-numbered OnlyNoField (other 1 (λ e. omega arith)) bytes) head-lines_3)
      (λ b _. term-block-numbered OnlyNoField two five six (other 7 (λ e. omega arith)) package_limits b))
      (λ t _. sum-block-numbered OnlyNoField two five six package_limits t)
    where
      two : OnlyNoField 2
      two = other 2 (λ e. omega arith)

      five : OnlyNoField 5
      five = other 5 (λ e. omega arith)

      six : OnlyNoField 6
      six = other 6 (λ e. omega arith)

-- The two first lines, where the second has the counts h and p means no field.
head_3 : (second : List ℕ) (rest : Pieces) (h : Head) → head_form (fields second) ≡ head h → field_fits h.p ≡ false
    → head_lines_of (piece head_names (piece second rest)) ≡ refused 3 2
unfolding head_lines_of names_line counts_line counts_judged ◌then◌
head_3 second rest h q a = rw (counts_line, q, counts_judged, a)

pub refused_3 : (bytes : List ℕ) → NoField bytes → read_package bytes ≡ refused 3 2
unfolding read_package read_with ◌then◌
refused_3 bytes n =
    rw (sized-read bytes n.size, n.cut, head_3 n.second n.rest n.counts n.says no_fit)
  where
    no_fit : field_fits n.counts.p ≡ false
    no_fit = not_true (field_fits n.counts.p) (λ q. n.none ((fits_iff n.counts.p).0 q))
