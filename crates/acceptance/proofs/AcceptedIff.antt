-- The check answers no refusal exactly where the facts of acceptance hold.
use mathlib.Core.Path.{◌≡◌}
use mathlib.Core.Logic.{◌↔◌}
use mathlib.Core.List.{List, []}
use Prim.Native.Nat.{ℕ, suc, ◌<◌}
use native.Mathlib.Numerals.{one-add}
use lib.ListN.{length, get_or}
use Rattle.lists.specs.All.{All, done, ◌also◌}
use Rattle.field.specs.Field.{Operations, Field}
use Rattle.words.specs.Order.{Order, Admissible}
use Rattle.algebra.specs.Poly.{Poly}
use Rattle.algebra.specs.Written.{Written}
use Rattle.algebra.specs.Ideal.{family}
use Rattle.overlaps.specs.Pairs.{Pair}
use Rattle.overlaps.specs.Overlaps.{leads, overlaps}
use Rattle.package.specs.Names.{sum_b, sum_g}
use Rattle.package.specs.Sums.{SumLine}
use Rattle.acceptance.specs.Content.{sum_of, lines_of}
use Rattle.acceptance.specs.Check.{Verdict, fine, then_judge, zeros_judged, sides, kinds_judged, items_judged, overlaps_judged, basis_judged, sums_verdict}
use Rattle.acceptance.specs.Facts.{SumHolds, Facts}
use Rattle.acceptance.proofs.Verdicts.{then_iff}
use Rattle.acceptance.proofs.FirstZero.{zeros_to, zeros_from}
use Rattle.acceptance.proofs.SumFacts.{SideHolds, kinds_iff, items_to, items_from_lem, Certifies, nothing, overlaps_to, overlaps_from}

module _ {K : Operations} (F : Field K) {O : Order} (A : Admissible O) where
  -- 8 and 10 to 15 are not met exactly if the facts hold of relations and basis in written form
  pub facts_iff : (rs ps : List Poly) (ss : List SumLine) → All (Written K O) rs → All (Written K O) ps
      → (then_judge (basis_judged ps) (sums_verdict K O rs ps ss) ≡ fine) ↔ Facts K O rs ps ss
  unfolding basis_judged sums_verdict Certifies nothing family
  facts_iff rs ps ss wr wp = (to, from)
    where
      os : List Pair
      os = overlaps (leads ps)

      v1 : Verdict
      v1 = zeros_judged ps 1

      v2 : Verdict
      v2 = kinds_judged K O ss (sides rs ps)

      v3 : Verdict
      v3 = items_judged (length os) ss

      v4 : Verdict
      v4 = overlaps_judged K O (family ps) ss os 1

      targets : All (λ s. All (Written K O) s.targets) (sides rs ps)
      targets = wp also wr also done

      both : All (SideHolds F A ss) (sides rs ps)
          → ((m : ℕ) → m < length ps → SumHolds K O (family rs) (get_or ps m []) (lines_of (sum_of sum_b (suc m) ss)))
          × ((m : ℕ) → m < length rs → SumHolds K O (family ps) (get_or rs m []) (lines_of (sum_of sum_g (suc m) ss)))
      both (p also (q also done)) = (p, q)

      to : then_judge v1 (then_judge v2 (then_judge v3 v4)) ≡ fine → Facts K O rs ps ss
      to e =
          let (c, b) = (then_iff v1 (then_judge v2 (then_judge v3 v4))).0 e in
          let (f, g) = (then_iff v2 (then_judge v3 v4)).0 b in
          let (h, i) = (then_iff v3 v4).0 g in
          let (p, q) = both ((kinds_iff F A ss (sides rs ps) targets).0 f) in
          record {
            nonzero = zeros_to ps 1 c;
            basis-sums = p;
            relation_sums = q;
            items = items_to (length os) ss h;
            overlap_sums_lem = λ m l. rw (one-add m) at (overlaps_to F A (family ps) ss os 1 i m l).1;
            overlap_below = λ m l. rw (one-add m) at (overlaps_to F A (family ps) ss os 1 i m l).0;
          }

      from : Facts K O rs ps ss → then_judge v1 (then_judge v2 (then_judge v3 v4)) ≡ fine
      from h =
          (then_iff v1 (then_judge v2 (then_judge v3 v4))).1 (
            zeros_from ps 1 h.nonzero,
            (then_iff v2 (then_judge v3 v4)).1 (
              (kinds_iff F A ss (sides rs ps) targets).1 (h.basis-sums also (h.relation_sums also done)),
              (then_iff v3 v4).1 (
                items_from_lem (length os) ss h.items,
                overlaps_from F A (family ps) ss os 1 (λ m l. rw (one-add m) (h.overlap_below m l, h.overlap_sums_lem m l)),
              ),
            ),
          )
