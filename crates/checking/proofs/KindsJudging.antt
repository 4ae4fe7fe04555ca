-- The kinds of sums, one after the other: what is left of them, and of the lines, gives the check's row.
use mathlib.Core.Path.{◌≡◌, refl, sym, ap, ◌∙◌}
use mathlib.Core.Logic.{◌≢◌}
use mathlib.Core.List.{List, [], ◌∷◌}
use Prim.Native.Nat.{ℕ, zero, suc, ◌+◌, ◌-◌, ◌≤◌, ◌<◌}
use native.Mathlib.Decide.{ℕ_discrete}
use native.Mathlib.Numerals.{add-one}
use native.Mathlib.Omega.{arith}
use lib.ListN.{length, get_or, drop}
use Rattle.std.specs.Prelude.{Result, Ok, Err}
use Rattle.lists.specs.All.{All, done, ◌also◌}
use Rattle.field.specs.Field.{Operations}
use Rattle.words.specs.Order.{Order}
use Rattle.algebra.specs.Ideal.{family}
use Rattle.package.specs.declared.Refusal.{Refusal}
use Rattle.package.specs.Names.{sum_b, sum_g, sum_o}
use Rattle.package.specs.Sums.{SumLine}
use Rattle.acceptance.specs.Check.{Verdict, then_judge, Side, sides, sums_judged, sums_verdict}
use Rattle.basis.specs.Answer.{verdict_of}
use Rattle.sumlines.specs.Lines.{sums_at}
use Rattle.sumorder.specs.Reached.{Reached, SumsStart}
use Rattle.sumorder.specs.Row.{row_verdict}
use Rattle.sumorder.proofs.KindOrder.{KindOver, none_first, basis-over, relations-over, reached_next}
use Rattle.sumorder.proofs.Row.{then-refused, then-fine, sums_are, row_first, row-past}
use Rattle.table.specs.Table.{gens_in, basis_count_in, field_in, order_in}
use Rattle.table.specs.Polynomials.{relations_in, basis_in}
use Rattle.table.proofs.Families.{polynomials-count}
use Rattle.tablesums.specs.Heading.{head_in}
use Rattle.kindsums.specs.declared.Behind.{Behind}
use Rattle.kindsums.specs.Kinds.{side_in}
use Rattle.kindsums.specs.Judged.{LeftBehind}
use Rattle.lapsums.specs.Answer.{answer_of}
use Rattle.lapsums.proofs.Answers.{refused-answer}

-- The kinds by their places in the row.
pub kind_at : (g : ℕ) → g < 2 → get_or (sum_b ∷ sum_g ∷ []) g 0 ≡ g + 1
kind_at zero l = refl
kind_at (suc zero) l = refl
kind_at (suc (suc g)) l = absurd (omega arith)

-- The sides from a kind on.
abbrev left : List ℕ → ℕ → List Side
left t kind = drop (kind - 1) (sides (relations_in t) (basis_in t))

-- One kind: its side is the first of those left, the others are of other kinds, and behind its last item the kind is over.
record KindStep (t : List ℕ) (kind : ℕ) : Type 0 where
  front : left t kind ≡ side_in t kind ∷ left t (kind + 1)
  own : (side_in t kind).kind ≡ kind
  others : All (λ s. kind ≢ s.kind) (left t (kind + 1))
  sums : kind ≢ sum_o
  over : KindOver (head_in t) kind (length (side_in t kind).targets + 1)

kind-step : (t : List ℕ) (kind : ℕ) → 1 ≤ kind → kind < 3 → KindStep t kind
unfolding side_in
kind-step t kind some most = go (ℕ_discrete kind 1)
  where
    next : sum_b ≢ sum_g
    next q = omega arith

    go : Dec (kind ≡ 1) → KindStep t kind
    go (yes e) = rw e (record {
      front = refl;
      own = refl;
      others = next also done;
      sums = λ q. omega arith;
      over = rw (polynomials-count t (gens_in t + 1) (basis_count_in t)) (basis-over (head_in t));
    })
    go (no e) = let two : kind ≡ 2 = omega arith in rw two (record {
      front = refl;
      own = refl;
      others = done;
      sums = λ q. omega arith;
      over = rw (polynomials-count t 1 (gens_in t)) (relations-over (head_in t));
    })

module _ (t bytes : List ℕ) (from first : ℕ) where
  abbrev K : Operations
  K = field_in t

  abbrev O : Order
  O = order_in t

  -- the verdict on all sums
  abbrev all : Verdict
  all = sums_verdict K O (relations_in t) (basis_in t) (sums_at bytes from first)

  -- The kinds below one passed: the row from there on, by the lines that are left, gives the verdict.
  pub record KindsDone (at line kind : ℕ) : Type 0 where
    pub some : 1 ≤ kind
    pub most : kind ≤ 3
    pub reached : Reached (head_in t) kind 1 bytes at line
    pub row : row_verdict K O (left t kind) (basis_in t) (sums_at bytes at line) ≡ all

  pub kinds_start : SumsStart (head_in t) bytes from first → KindsDone from first 1
  kinds_start r = record {
    some = omega arith;
    most = omega arith;
    reached = reached_next (head_in t) 0 0 (none_first (head_in t)) bytes from first r;
    row = sym (sums_are K O (relations_in t) (basis_in t) (sums_at bytes from first));
  }

  module _ (at line kind : ℕ) (d : KindsDone at line kind) (l : kind < 3) where
    abbrev ss : List SumLine
    ss = sums_at bytes at line

    -- the sums of the side, by the lines of a kind
    abbrev by : ℕ → Verdict
    by k = sums_judged (side_in t kind).number k K O (family (side_in t kind).others) ss (side_in t kind).targets 1

    abbrev this : Verdict
    this = by kind

    -- what judging the kind k answers
    abbrev judged : ℕ → Verdict
    judged k = sums_judged (side_in t k).number k K O (family (side_in t k).others) ss (side_in t k).targets 1

    step : KindStep t kind
    step = kind-step t kind d.some l

    -- this kind, then the row behind it
    in_parts : then_judge this (row_verdict K O (left t (kind + 1)) (basis_in t) ss) ≡ all
    in_parts =
        ap (λ (k : ℕ). then_judge (by k) (row_verdict K O (left t (kind + 1)) (basis_in t) ss)) (sym step.own)
        ∙ sym (row_first K O (side_in t kind) (left t (kind + 1)) (basis_in t) ss)
        ∙ ap (λ (ks : List Side). row_verdict K O ks (basis_in t) ss) (sym step.front)
        ∙ d.row

    -- The kind k that was judged is the next one. Refused, its refusal is the answer;
    pub kinds_refused : (k : ℕ) (r : Refusal) (count : ℕ) → verdict_of {A = Behind} (Err r) ≡ judged k → k ≡ kind → Err r ≡ answer_of all count
    unfolding verdict_of
    kinds_refused k r count u e = let v = rw e at u in refused-answer all r count
        (sym in_parts ∙ then-refused this (row_verdict K O (left t (kind + 1)) (basis_in t) ss) r.number r.place (sym v))

    -- passed, the row behind it is left.
    pub kinds_next : (k : ℕ) (b : Behind) → verdict_of (Ok b) ≡ judged k → LeftBehind (head_in t) k (length (side_in t k).targets) bytes ss (Ok b) → k ≡ kind
        → KindsDone b.at b.line (kind + 1)
    unfolding verdict_of LeftBehind
    kinds_next k b u m e = let v = rw e at u in let (reached, p) = rw e at m in record {
      some = omega arith;
      most = omega arith;
      reached = rw (add-one kind) (reached_next (head_in t) kind (length (side_in t kind).targets + 1) step.over bytes b.at b.line reached);
      row = sym (row-past K O kind (left t (kind + 1)) (basis_in t) step.sums step.others p)
          ∙ sym (then-fine this (row_verdict K O (left t (kind + 1)) (basis_in t) ss) (sym v)) ∙ in_parts;
    }

  -- No kind is left: the first O line is reached, and what follows of the row answers.
  module _ (at line kind : ℕ) (d : KindsDone at line kind) (l : 3 ≤ kind) where
    three : kind ≡ 3
    three = let most = d.most in omega arith

    pub kinds_behind : Reached (head_in t) sum_o 1 bytes at line
    kinds_behind = rw three at d.reached

    pub kinds_end : (r : Result ℕ Refusal) (count : ℕ) → r ≡ answer_of (row_verdict K O [] (basis_in t) (sums_at bytes at line)) count → r ≡ answer_of all count
    kinds_end r count e = e ∙ ap (λ (v : Verdict). answer_of v count) (rw three at d.row)
