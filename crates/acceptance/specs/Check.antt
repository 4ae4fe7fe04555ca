-- The check: the first refusal of 8 and 10 to 15 in document 01's order, or none. (Document 02, P2: 9 is no longer met.)
use Rattle.std.specs.Prelude.{Bool, true, false, List, [], ◌∷◌, ℕ, suc, eqb, ltb, length}
use Rattle.field.specs.Field.{Operations, field_of}
use Rattle.std.specs.declared.cmp.Ordering.TheVariants.{Less, Equal, Greater}
use Rattle.words.specs.Word.{Word}
use Rattle.words.specs.Order.{Order, word_order}
use Rattle.algebra.specs.Poly.{Poly}
use Rattle.algebra.specs.Written.{written}
use Rattle.algebra.specs.Ideal.{Family, family, Line}
use Rattle.algebra.specs.Groebner.{top}
use Rattle.algebra.specs.Steps.{take_away}
use Rattle.overlaps.specs.Pairs.{Pair}
use Rattle.overlaps.specs.Overlaps.{leads, overlaps, overlap_word, difference}
use Rattle.package.specs.Names.{sum_b, sum_g, sum_o}
use Rattle.package.specs.Sums.{SumLine}
use Rattle.package.specs.Package.{Package}
use Rattle.acceptance.specs.Content.{relations, basis, line_of, sum_of}

-- Refused with number and place, or not.
pub data Verdict : Type 0 where
  refusal : ℕ → ℕ → Verdict
  fine : Verdict

-- A verdict, and where it is no refusal the next.
unfoldable pub then_judge : Verdict → Verdict → Verdict
then_judge (refusal n k) v = refusal n k
then_judge fine v = v

-- 8 (document 02, P4): the first polynomial, numbered from i on, that is zero.
unfoldable pub zeros_judged : List Poly → ℕ → Verdict
zeros_judged [] i = fine
zeros_judged ([] ∷ ps) i = refusal 8 i
zeros_judged ((t ∷ f) ∷ ps) i = zeros_judged ps (suc i)

-- What is left of a target when lines are taken away: a line fails the test before it, a line leaves over 512 terms, or the rest. A line goes by its number.
pub data Left : Type 0 where
  fails : ℕ → Left
  over : ℕ → Left
  rest : Poly → Left

-- The lines taken away one after the other: the test before each line, and 10 after it.
unfoldable pub less : (Line → Bool) → Operations → Order → Family → Poly → List SumLine → Left
unfolding take_away
less test K O G f [] = rest f
less test K O G f (s ∷ ss) = elim (test (line_of s)) [
  | false ↦ fails s.line
  | true ↦ elim (ltb 512 (length (take_away K O G f (line_of s)))) [
    | true ↦ over s.line
    | false ↦ less test K O G (take_away K O G f (line_of s)) ss
  ]
]

-- The test of B and G lines: none.
unfoldable pub any_line : Line → Bool
any_line x = true

-- The test of the O lines of a pair with overlap word m: left × leading word × right is strictly below m.
unfoldable pub is_under : Order → Family → Word → Line → Bool
unfolding top
is_under O G m x = elim (O (top G x) m) [ Less ↦ true | Equal ↦ false | Greater ↦ false ]

-- An item's verdict: 14 where a line fails its test, 10 where one leaves over 512 terms; at the item's end a nonzero rest gives number n at the item.
unfoldable pub sum_verdict : ℕ → ℕ → Left → Verdict
sum_verdict n i (fails line) = refusal 14 line
sum_verdict n i (over line) = refusal 10 line
sum_verdict n i (rest []) = fine
sum_verdict n i (rest (t ∷ f)) = refusal n i

-- The sums of kind k, for targets numbered from i on, over the polynomials of G; a wrong sum gives number n.
unfoldable pub sums_judged : ℕ → ℕ → Operations → Order → Family → List SumLine → List Poly → ℕ → Verdict
unfolding sum_verdict less any_line sum_of then_judge
sums_judged n k K O G ss [] i = fine
sums_judged n k K O G ss (f ∷ fs) i = then_judge (sum_verdict n i (less any_line K O G f (sum_of k i ss))) (sums_judged n k K O G ss fs (suc i))

-- A kind of sums: the kind of their lines, the number that a wrong one gives, the targets, and the polynomials that the sums are over.
pub record Side : Type 0 where
  pub kind : ℕ
  pub number : ℕ
  pub targets : List Poly
  pub others : List Poly

-- The kinds of sums in the order of judgement: B sums equal the basis, over the relations (11); G sums equal the relations, over the basis (12).
abbrev pub sides : List Poly → List Poly → List Side
sides rs ps =
    record { kind = sum_b; number = 11; targets = ps; others = rs }
    ∷ record { kind = sum_g; number = 12; targets = rs; others = ps }
    ∷ []

-- The kinds of sums one after the other, each for all its items.
unfoldable pub kinds_judged : Operations → Order → List SumLine → List Side → Verdict
unfolding sums_judged then_judge family
kinds_judged K O ss [] = fine
kinds_judged K O ss (s ∷ more) = then_judge (sums_judged s.number s.kind K O (family s.others) ss s.targets 1) (kinds_judged K O ss more)

-- 15: the first O line whose item is above the count of overlaps and inclusions.
unfoldable pub items_judged : ℕ → List SumLine → Verdict
items_judged count [] = fine
items_judged count (s ∷ ss) = elim (eqb s.kind sum_o) [
  | false ↦ items_judged count ss
  | true ↦ elim (ltb count s.item) [ true ↦ refusal 15 s.line | false ↦ items_judged count ss ]
]

-- The overlaps and inclusions, numbered from i on: in each line 14 before 10, and at a pair's end 13.
unfoldable pub overlaps_judged : Operations → Order → Family → List SumLine → List Pair → ℕ → Verdict
unfolding sum_verdict less is_under sum_of then_judge written difference overlap_word
overlaps_judged K O G ss [] i = fine
overlaps_judged K O G ss (o ∷ os) i =
    then_judge
    (sum_verdict 13 i (less (is_under O G (overlap_word G o)) K O G (written K O (difference K G o)) (sum_of sum_o i ss)))
    (overlaps_judged K O G ss os (suc i))

-- 8 for all items: what listing judges too.
unfoldable pub basis_judged : List Poly → Verdict
unfolding zeros_judged
basis_judged ps = zeros_judged ps 1

-- The kinds of sums; then 15; then the overlaps and inclusions.
unfoldable pub sums_verdict : Operations → Order → List Poly → List Poly → List SumLine → Verdict
unfolding kinds_judged items_judged overlaps_judged then_judge leads overlaps family
sums_verdict K O rs ps ss =
    then_judge (kinds_judged K O ss (sides rs ps))
    (then_judge (items_judged (length (overlaps (leads ps))) ss)
    (overlaps_judged K O (family ps) ss (overlaps (leads ps)) 1))

-- The check of a package that reads: the basis; the kinds of sums; 15; the overlaps and inclusions.
unfoldable pub checked : Package → Verdict
unfolding basis_judged sums_verdict then_judge relations basis field_of word_order
checked P = then_judge (basis_judged (basis P)) (sums_verdict (field_of P.head.p) word_order (relations P) (basis P) P.sums)
