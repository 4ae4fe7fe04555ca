-- A package that reads is refused by 8 or by one of 10 to 15; where the basis alone is judged, by 8. Each law says that a refusal's number has
-- every property Q that the numbers of that judgement have.
use mathlib.Core.Bool.{Bool, true, false}
use mathlib.Core.List.{List, [], ◌∷◌}
use Prim.Native.Nat.{ℕ, suc, ◌≤◌}
use native.Mathlib.Omega.{arith}
use lib.Dec.{eqb, ltb, lit≤}
use lib.ListN.{length}
use Rattle.lists.specs.All.{All, done, ◌also◌}
use Rattle.field.specs.Field.{Operations, field_of}
use Rattle.words.specs.Order.{Order, word_order}
use Rattle.algebra.specs.Poly.{Poly}
use Rattle.algebra.specs.Written.{written}
use Rattle.algebra.specs.Ideal.{Family, family}
use Rattle.overlaps.specs.Pairs.{Pair}
use Rattle.overlaps.specs.Overlaps.{leads, overlaps, overlap_word, difference}
use Rattle.package.specs.Names.{sum_o}
use Rattle.package.specs.Sums.{SumLine}
use Rattle.package.specs.Package.{Package}
use Rattle.acceptance.specs.Content.{relations, basis, sum_of}
use Rattle.acceptance.specs.Check.{Verdict, refusal, fine, then_judge, zeros_judged, Left, fails, over, rest, less, any_line, is_under, sum_verdict, sums_judged, Side, sides, kinds_judged, items_judged, overlaps_judged, basis_judged, sums_verdict, checked}
use Rattle.services.specs.Demands.{Between}

module _ (Q : ℕ → Type 0) where
  -- A verdict that, where it is a refusal, has a number with the property Q.
  unfoldable pub Judged : Verdict → Type 0
  Judged (refusal n k) = Q n
  Judged fine = Unit {0}

  then-number : (v w : Verdict) → Judged v → Judged w → Judged (then_judge v w)
  unfolding Judged then_judge
  then-number (refusal n k) w x y = x
  then-number fine w x y = y

  pub zeros-number : Q 8 → (ps : List Poly) (i : ℕ) → Judged (zeros_judged ps i)
  unfolding Judged zeros_judged
  zeros-number q [] i = tt
  zeros-number q ([] ∷ ps) i = q
  zeros-number q ((t ∷ f) ∷ ps) i = zeros-number q ps (suc i)

  left-number : Q 10 → Q 14 → {n : ℕ} → Q n → (i : ℕ) (l : Left) → Judged (sum_verdict n i l)
  unfolding Judged sum_verdict
  left-number q u r i (fails k) = u
  left-number q u r i (over k) = q
  left-number q u r i (rest []) = tt
  left-number q u r i (rest (t ∷ f)) = r

  sums-number : Q 10 → Q 14 → {n : ℕ} → Q n → (k : ℕ) (K : Operations) (O : Order) (G : Family) (ss : List SumLine) (fs : List Poly) (i : ℕ)
      → Judged (sums_judged n k K O G ss fs i)
  unfolding Judged sums_judged
  sums-number q u r k K O G ss [] i = tt
  sums-number q u {n} r k K O G ss (f ∷ fs) i =
      then-number (sum_verdict n i (less any_line K O G f (sum_of k i ss))) (sums_judged n k K O G ss fs (suc i))
      (left-number q u r i (less any_line K O G f (sum_of k i ss))) (sums-number q u r k K O G ss fs (suc i))

  kinds_number : Q 10 → Q 14 → (K : Operations) (O : Order) (ss : List SumLine) (xs : List Side) → All (λ x. Q x.number) xs → Judged (kinds_judged K O ss xs)
  unfolding Judged kinds_judged
  kinds_number q u K O ss [] done = tt
  kinds_number q u K O ss (x ∷ xs) (r also rs) =
      then-number (sums_judged x.number x.kind K O (family x.others) ss x.targets 1) (kinds_judged K O ss xs)
      (sums-number q u r x.kind K O (family x.others) ss x.targets 1) (kinds_number q u K O ss xs rs)

  items-number : Q 15 → (count : ℕ) (ss : List SumLine) → Judged (items_judged count ss)
  unfolding Judged items_judged
  items-number q count [] = tt
  items-number q count (s ∷ ss) = go (eqb s.kind sum_o) (ltb count s.item) (items-number q count ss)
    where
      go : (b c : Bool) → Judged (items_judged count ss)
          → Judged (elim b [ false ↦ items_judged count ss | true ↦ elim c [ true ↦ refusal 15 s.line | false ↦ items_judged count ss ] ])
      go false c x = x
      go true true x = q
      go true false x = x

  overlaps-number : Q 10 → Q 13 → Q 14 → (K : Operations) (O : Order) (G : Family) (ss : List SumLine) (os : List Pair) (i : ℕ)
      → Judged (overlaps_judged K O G ss os i)
  unfolding Judged overlaps_judged
  overlaps-number q r u K O G ss [] i = tt
  overlaps-number q r u K O G ss (o ∷ os) i =
      let l = less (is_under O G (overlap_word G o)) K O G (written K O (difference K G o)) (sum_of sum_o i ss) in
      then-number (sum_verdict 13 i l) (overlaps_judged K O G ss os (suc i)) (left-number q u r i l) (overlaps-number q r u K O G ss os (suc i))

  -- The basis is refused by what 8 gives.
  pub basis-judged : (ps : List Poly) → Judged (zeros_judged ps 1) → Judged (basis_judged ps)
  unfolding basis_judged
  basis-judged ps q = q

  -- The check refuses a package that reads by what 8 gives, or by one of 10 to 15.
  pub check-judged : (P : Package) → Judged (zeros_judged (basis P) 1) → ((n : ℕ) → Between 10 15 n → Q n) → Judged (checked P)
  unfolding checked sums_verdict
  check-judged P q h =
      let K = field_of P.head.p in
      let rs = relations P in
      let ps = basis P in
      let ss = P.sums in
      let ten = h 10 (lit≤ tt, lit≤ tt) in
      let fourteen = h 14 (lit≤ tt, lit≤ tt) in
      then-number (basis_judged ps) _ (basis-judged ps q)
      (then-number (kinds_judged K word_order ss (sides rs ps)) _
      (kinds_number ten fourteen K word_order ss (sides rs ps) (h 11 (lit≤ tt, lit≤ tt) also h 12 (lit≤ tt, lit≤ tt) also done))
      (then-number (items_judged (length (overlaps (leads ps))) ss) _ (items-number (h 15 (lit≤ tt, lit≤ tt)) (length (overlaps (leads ps))) ss)
      (overlaps-number ten (h 13 (lit≤ tt, lit≤ tt)) fourteen K word_order (family ps) ss (overlaps (leads ps)) 1)))

-- The check refuses a package that reads by a number that is not 0.
pub check-number : (P : Package) → Judged (λ n. 1 ≤ n) (checked P)
check-number P = check-judged (λ n. 1 ≤ n) P (zeros-number (λ n. 1 ≤ n) (lit≤ tt) (basis P) 1) (λ n x. omega (arith, x.0))
