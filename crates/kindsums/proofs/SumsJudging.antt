-- The sums of a kind, item by item and line by line: what is reached, and that what is left to judge gives the verdict.
use mathlib.Core.Path.{◌≡◌, refl, sym}
use mathlib.Core.Bool.{true, false}
use mathlib.Core.List.{List, [], ◌∷◌}
use Prim.Native.Nat.{ℕ, suc, ◌+◌, ◌≤◌, ◌<◌}
use native.Mathlib.Numerals.{add-one}
use native.Mathlib.Omega.{arith}
use lib.ListN.{length, drop, drop_of_length-le}
use lib.Seq.{drop-cons}
use Rattle.std.specs.Prelude.{Option, Some, Ok, IfSome}
use Rattle.field.specs.Field.{Operations}
use Rattle.words.specs.Order.{Order}
use Rattle.algebra.specs.Poly.{Poly}
use Rattle.algebra.specs.Ideal.{Family, family}
use Rattle.algebra.specs.Steps.{take_away}
use Rattle.package.specs.declared.Head.{Head}
use Rattle.package.specs.Sums.{SumLine}
use Rattle.acceptance.specs.Check.{Verdict, refusal, any_line, sums_judged}
use Rattle.basis.specs.Answer.{verdict_of}
use Rattle.package.specs.declared.SumAt.{SumAt}
use Rattle.sumlines.specs.Lines.{sums_at, held_line, held_from, NumberedFrom, first_is, Inside, taken_line}
use Rattle.sumorder.specs.Reached.{Past, all_left, Reached}
use Rattle.sumorder.proofs.LineOrder.{sums_skip, past_one}
use Rattle.sumorder.proofs.NextLine.{NextLine, next-line, lines_are, its_kind, next_reached, next-item}
use Rattle.sumorder.proofs.ItemJudging.{item_then, line-over, line-more, item_wrong, item-right}
use Rattle.kindsums.specs.declared.Behind.{Behind}
use Rattle.kindsums.specs.Judged.{LeftBehind}

module _ (h : Head) (number kind : ℕ) (K : Operations) (O : Order) (G : Family) (bytes : List ℕ) (ss₀ : List SumLine) (fs : List Poly) where
  -- what the items from number g + 1 on are judged by the lines ss
  abbrev items_from : List SumLine → ℕ → Verdict
  items_from ss g = sums_judged number kind K O G ss (drop g fs) (g + 1)

  -- the same, where the sum of item g + 1 has come to f
  abbrev lines_from : List SumLine → ℕ → Poly → Verdict
  lines_from ss g f = item_then number kind (g + 1) any_line K O G (λ (ss : List SumLine). items_from ss (g + 1)) ss f

  abbrev whole : Verdict
  whole = sums_judged number kind K O G ss₀ fs 1

  -- The first g items passed, and s is the next line.
  pub record ItemsDone (at line g : ℕ) (s : Option SumAt) : Type 0 where
    pub next : NextLine h kind (g + 1) bytes at line s
    pub past : Past kind ss₀ (sums_at bytes at line)
    pub same : items_from (sums_at bytes at line) g ≡ whole

  -- In item g + 1 lines were taken away, and f is left; s is the next line.
  pub record LinesDone (at line g : ℕ) (f : Poly) (s : Option SumAt) : Type 0 where
    pub next : NextLine h kind (g + 1) bytes at line s
    pub past : Past kind ss₀ (sums_at bytes at line)
    pub same : lines_from (sums_at bytes at line) g f ≡ whole

  pub items-start : (from line : ℕ) → ss₀ ≡ sums_at bytes from line → Reached h kind 1 bytes from line → (s : Option SumAt)
      → IfSome s (λ x. Inside bytes from x)
      → ((n : ℕ) → NumberedFrom n (sums_at bytes from n) → held_from bytes n s ≡ sums_at bytes from n)
      → ItemsDone from line 0 s
  items-start from line e r s i t = record {
    next = next-line h kind 1 bytes from line s r i t;
    past = rw e all_left;
    same = rw e;
  }

  pub lines_start : (at line g : ℕ) (s : Option SumAt) → ItemsDone at line g s → g < length fs → (f : Poly)
      → f ≡ family fs (g + 1) → LinesDone at line g f s
  unfolding sums_judged family
  lines_start at line g s d l f e = record {
    next = d.next;
    past = d.past;
    same = rw (e, add-one (g + 1), add-one g) (rw (drop-cons fs g [] l, add-one g) at d.same);
  }

  module _ (at line g : ℕ) (f : Poly) where
    abbrev later : List SumLine → Verdict
    later ss = items_from ss (g + 1)

    module _ (s : SumAt) (d : LinesDone at line g f (Some s)) (p : first_is kind (g + 1) (held_from bytes line (Some s)) ≡ true) where
      abbrev x : SumLine
      x = held_line bytes line s

      abbrev ss : List SumLine
      ss = sums_at bytes s.next (suc line)

      -- there is no test before it
      any : any_line (taken_line bytes s) ≡ true
      unfolding any_line
      any = refl

      pub lines-over : (f' : Poly) → f' ≡ take_away K O G f (taken_line bytes s) → 512 < length f' → refusal 10 line ≡ whole
      lines-over f' e = line-over number kind (g + 1) any_line K O G later whole h bytes at line s d.next f d.same p any f' e

      pub lines_next : (f' : Poly) → f' ≡ take_away K O G f (taken_line bytes s) → length f' ≤ 512 → (s' : Option SumAt)
          → IfSome s' (λ y. Inside bytes s.next y)
          → ((n : ℕ) → NumberedFrom n (sums_at bytes s.next n) → held_from bytes n s' ≡ sums_at bytes s.next n)
          → LinesDone s.next (line + 1) g f' s'
      lines_next f' e l s' i t =
          let k = its_kind h kind (g + 1) bytes at line s d.next p in
          let skip : later (x ∷ ss) ≡ later ss = sums_skip number kind K O G x ss (drop (g + 1) fs) (g + 1 + 1) (λ q. let z = k.1 in omega arith) in
          record {
            next = next-line h kind (g + 1) bytes s.next (line + 1) s' (next_reached h kind (g + 1) bytes at line s d.next p) i t;
            past = rw (add-one line) (past_one kind (rw (lines_are h kind (g + 1) bytes at line s d.next p) at d.past) k.0);
            same = line-more number kind (g + 1) any_line K O G later whole h bytes at line s d.next f d.same p any f' e l skip;
          }

    module _ (s : Option SumAt) (d : LinesDone at line g f s) (p : first_is kind (g + 1) (held_from bytes line s) ≡ false) where
      pub lines_wrong : 0 < length f → refusal number (g + 1) ≡ whole
      lines_wrong = item_wrong number kind (g + 1) any_line K O G later whole h bytes at line s d.next f d.same p

      pub lines_end : length f ≤ 0 → ItemsDone at line (g + 1) s
      lines_end z = record {
        next = next-item h kind (g + 1) bytes at line s d.next p;
        past = d.past;
        same = item-right number kind (g + 1) any_line K O G later whole h bytes at line s d.next f d.same p z;
      }

  pub items-end : (at line g : ℕ) (s : Option SumAt) → ItemsDone at line g s → g ≡ length fs
      → (verdict_of {A = Behind} (Ok (record { at = at; line = line })) ≡ whole) × LeftBehind h kind (length fs) bytes ss₀ (Ok (record { at = at; line = line }))
  unfolding verdict_of LeftBehind sums_judged
  items-end at line g s d e =
      let last : length fs ≤ g = omega arith in
      (rw (drop_of_length-le fs last) at d.same, (rw e at d.next.reached, d.past))

-- The next line s is one of item g + 1, where it is told as one.
pub line_here : {h : Head} {number kind : ℕ} {K : Operations} {O : Order} {G : Family} {bytes : List ℕ} {ss₀ : List SumLine} {fs : List Poly}
    {at line g : ℕ} {f : Poly} {next : Option SumAt} {s : SumAt}
    → LinesDone h number kind K O G bytes ss₀ fs at line g f next → next ≡ Some s
    → ((bs : List ℕ) (n : ℕ) → true ≡ first_is kind (g + 1) (held_from bs n next))
    → LinesDone h number kind K O G bytes ss₀ fs at line g f (Some s) × (first_is kind (g + 1) (held_from bytes line (Some s)) ≡ true)
line_here {bytes = bytes} {line = line} d e q = (rw e at d, rw e at (sym (q bytes line)))
