-- 10 to 15: the sums of each kind hold, no O item is above the count of pairs, and the sums of the pairs hold with every line below its overlap word.
use mathlib.Core.Path.{◌≡◌, refl, sym, ◌∙◌}
use mathlib.Core.Bool.{Bool, true, false, true≢false}
use mathlib.Core.Logic.{◌↔◌}
use mathlib.Core.List.{List, [], ◌∷◌, ◌++◌}
use Prim.Native.Nat.{ℕ, zero, suc, ◌+◌, ◌≤◌, ◌<◌}
use native.Mathlib.Nat.{add-zero}
use native.Mathlib.Numerals.{one-add}
use native.Mathlib.Decide.{ℕ_discrete}
use native.Mathlib.Omega.{arith}
use lib.Dec.{eqb, ltb}
use lib.ListN.{length, get_or}
use borrow.Author.Tests.{eq-eqb, ne_eqb, eqb-false, ltb-false, le-ltb}
use Rattle.lists.specs.All.{All, done, ◌also◌}
use Rattle.lists.proofs.Every.{all_map, all_of}
use Rattle.field.specs.Field.{Operations, Field}
use Rattle.std.specs.declared.cmp.Ordering.{Ordering}
use Rattle.std.specs.declared.cmp.Ordering.TheVariants.{Less, Equal, Greater}
use Rattle.words.specs.Word.{Word}
use Rattle.words.specs.Order.{Order, Lt, Admissible}
use Rattle.algebra.specs.Poly.{Poly, coeff, sub}
use Rattle.algebra.specs.Written.{Written, written}
use Rattle.algebra.specs.Ideal.{Family, family, Line, value}
use Rattle.algebra.specs.Groebner.{top}
use Rattle.algebra.proofs.Coefficients.{coeff-sub}
use Rattle.algebra.proofs.Insertion.{written-coeff, written-written}
use Rattle.overlaps.specs.Pairs.{Pair}
use Rattle.overlaps.specs.Overlaps.{overlap_word, difference}
use Rattle.package.specs.Names.{sum_o}
use Rattle.package.specs.Sums.{SumLine}
use Rattle.acceptance.specs.Content.{sum_of, lines_of}
use Rattle.acceptance.specs.Check.{Verdict, fine, then_judge, less, any_line, is_under, sum_verdict, sums_judged, Side, kinds_judged, items_judged, overlaps_judged}
use Rattle.acceptance.specs.Facts.{SumHolds}
use Rattle.acceptance.proofs.Verdicts.{refusal_not_fine, then_iff}
use Rattle.acceptance.proofs.Remaining.{sum_iff}

-- 15: no O item is above the count of pairs
pub items_to : (count : ℕ) (ss : List SumLine) → items_judged count ss ≡ fine → All (λ s. s.kind ≡ sum_o → s.item ≤ count) ss
unfolding items_judged
items_to count [] e = done
items_to count (s ∷ ss) e = go (eqb s.kind sum_o) refl (ltb count s.item) refl (items_to count ss)
  where
    go : (b : Bool) → eqb s.kind sum_o ≡ b → (t : Bool) → ltb count s.item ≡ t → (items_judged count ss ≡ fine → All (λ s. s.kind ≡ sum_o → s.item ≤ count) ss)
        → All (λ s. s.kind ≡ sum_o → s.item ≤ count) (s ∷ ss)
    go false d t x more = (λ k. absurd (eqb-false s.kind sum_o d k)) also more (rw (items_judged, d) at e)
    go true d true x more = absurd (refusal_not_fine (rw (items_judged, d, x) at e))
    go true d false x more = (λ k. ltb-false count s.item x) also more (rw (items_judged, d, x) at e)

pub items_from_lem : (count : ℕ) (ss : List SumLine) → All (λ s. s.kind ≡ sum_o → s.item ≤ count) ss → items_judged count ss ≡ fine
unfolding items_judged
items_from_lem count [] done = refl
items_from_lem count (s ∷ ss) (h also hs) = go (ℕ_discrete s.kind sum_o) (items_from_lem count ss hs)
  where
    go : Dec (s.kind ≡ sum_o) → items_judged count ss ≡ fine → items_judged count (s ∷ ss) ≡ fine
    go (yes k) r = rw (items_judged, eq-eqb s.kind sum_o k, le-ltb count s.item (h k)) r
    go (no k) r = rw (items_judged, ne_eqb s.kind sum_o k) r

module _ {K : Operations} (F : Field K) {O : Order} (A : Admissible O) where
  -- B and G lines pass their test, which is none
  any_pass : (xs : List Line) → All (λ x. any_line x ≡ true) xs
  unfolding any_line
  any_pass xs = all_of (λ x. refl) xs

  -- the sums of one kind, for targets numbered from i on
  sums_to : (n k : ℕ) (G : Family) (ss : List SumLine) (fs : List Poly) (i : ℕ) → All (Written K O) fs → sums_judged n k K O G ss fs i ≡ fine
      → (m : ℕ) → m < length fs → SumHolds K O G (get_or fs m []) (lines_of (sum_of k (i + m) ss))
  unfolding sums_judged
  sums_to n k G ss [] i done e = λ m h. absurd (omega arith)
  sums_to n k G ss (f ∷ fs) i (c also cs) e =
      let (x, y) = (then_iff (sum_verdict n i (less any_line K O G f (sum_of k i ss))) (sums_judged n k K O G ss fs (suc i))).0 e in
      go ((sum_iff F A G any_line n i f (sum_of k i ss) c).0 x).1 (sums_to n k G ss fs (suc i) cs y)
    where
      go : SumHolds K O G f (lines_of (sum_of k i ss)) → ((m : ℕ) → m < length fs → SumHolds K O G (get_or fs m []) (lines_of (sum_of k (suc i + m) ss)))
          → (m : ℕ) → m < suc (length fs) → SumHolds K O G (get_or (f ∷ fs) m []) (lines_of (sum_of k (i + m) ss))
      go p q zero h = rw (add-zero i) p
      go p q (suc m) h = let x : i + suc m ≡ suc i + m = omega arith in rw x (q m (omega arith))

  sums_from : (n k : ℕ) (G : Family) (ss : List SumLine) (fs : List Poly) (i : ℕ) → All (Written K O) fs
      → ((m : ℕ) → m < length fs → SumHolds K O G (get_or fs m []) (lines_of (sum_of k (i + m) ss))) → sums_judged n k K O G ss fs i ≡ fine
  unfolding sums_judged
  sums_from n k G ss [] i done h = refl
  sums_from n k G ss (f ∷ fs) i (c also cs) h =
      (then_iff (sum_verdict n i (less any_line K O G f (sum_of k i ss))) (sums_judged n k K O G ss fs (suc i))).1 (
        (sum_iff F A G any_line n i f (sum_of k i ss) c).1 (any_pass (lines_of (sum_of k i ss)), rw (add-zero i) at (h 0 (omega arith))),
        sums_from n k G ss fs (suc i) cs (λ m l. let x : i + suc m ≡ suc i + m = omega arith in rw x at (h (suc m) (omega arith))),
      )

  -- every sum of a kind holds
  abbrev pub SideHolds : List SumLine → Side → Type 0
  SideHolds ss s = (m : ℕ) → m < length s.targets → SumHolds K O (family s.others) (get_or s.targets m []) (lines_of (sum_of s.kind (suc m) ss))

  -- the kinds of sums: none is refused exactly if all sums of each kind hold
  pub kinds_iff : (ss : List SumLine) (kinds : List Side) → All (λ s. All (Written K O) s.targets) kinds
      → (kinds_judged K O ss kinds ≡ fine) ↔ All (SideHolds ss) kinds
  unfolding kinds_judged
  kinds_iff ss [] done = (λ e. done, λ h. refl)
  kinds_iff ss (s ∷ more) (c also cs) = (to (kinds_iff ss more cs).0, from (kinds_iff ss more cs).1)
    where
      here : Verdict
      here = sums_judged s.number s.kind K O (family s.others) ss s.targets 1

      to : (kinds_judged K O ss more ≡ fine → All (SideHolds ss) more) → then_judge here (kinds_judged K O ss more) ≡ fine → All (SideHolds ss) (s ∷ more)
      to ih e =
          let (x, y) = (then_iff here (kinds_judged K O ss more)).0 e in
          (λ m l. rw (one-add m) at (sums_to s.number s.kind (family s.others) ss s.targets 1 c x m l)) also ih y

      from : (All (SideHolds ss) more → kinds_judged K O ss more ≡ fine) → All (SideHolds ss) (s ∷ more) → then_judge here (kinds_judged K O ss more) ≡ fine
      from ih (h also hs) =
          (then_iff here (kinds_judged K O ss more)).1 (
            sums_from s.number s.kind (family s.others) ss s.targets 1 c (λ m l. rw (one-add m) (h m l)),
            ih hs,
          )

  module _ (G : Family) where
    -- a target may be exchanged for its written form
    target-same : (f : Poly) (xs : List Line) → SumHolds K O G (written K O f) xs ↔ SumHolds K O G f xs
    target-same f xs = (
      λ h. record {
        equal = λ w. sym (written-coeff F A f w) ∙ h.equal w;
        few = λ b x a e g c s. h.few b x a e g c (λ w. s w ∙ sym (moved b x w));
      },
      λ h. record {
        equal = λ w. written-coeff F A f w ∙ h.equal w;
        few = λ b x a e g c s. h.few b x a e g c (λ w. s w ∙ moved b x w);
      },
    )
      where
        moved : (b : List Line) (x : Line) (w : Word)
            → coeff K (sub K (written K O f) (value K G (b ++ (x ∷ [])))) w ≡ coeff K (sub K f (value K G (b ++ (x ∷ [])))) w
        moved b x w =
            coeff-sub F (written K O f) (value K G (b ++ (x ∷ []))) w
            ∙ rw (written-coeff F A f w) (sym (coeff-sub F f (value K G (b ++ (x ∷ []))) w))

    -- the test of a pair's lines
    under_iff : (m : Word) (x : Line) → (is_under O G m x ≡ true) ↔ Lt O (top G x) m
    unfolding is_under
    under_iff m x = (to (O (top G x) m), λ e. rw (is_under, e))
      where
        to : (o : Ordering) → ◌≡◌ {A = Bool} (elim o [ Less ↦ true | Equal ↦ false | Greater ↦ false ]) true → o ≡ Less
        to Less e = refl
        to Equal e = absurd (true≢false (sym e))
        to Greater e = absurd (true≢false (sym e))

    -- one pair: its lines are below its word, and their sum is its difference
    unfoldable pub Certifies : Pair → List Line → Type 0
    Certifies o xs = All (λ x. Lt O (top G x) (overlap_word G o)) xs × SumHolds K O G (difference K G o) xs

    overlap_iff : (i : ℕ) (o : Pair) (ss : List SumLine)
        → (sum_verdict 13 i (less (is_under O G (overlap_word G o)) K O G (written K O (difference K G o)) ss) ≡ fine) ↔ Certifies o (lines_of ss)
    unfolding Certifies
    overlap_iff i o ss = (
      λ e. let (a, b) = its.0 e in (all_map (λ x. (under_iff m x).0) a, (target-same d (lines_of ss)).0 b),
      λ h. its.1 (all_map (λ x. (under_iff m x).1) h.0, (target-same d (lines_of ss)).1 h.1),
    )
      where
        m : Word
        m = overlap_word G o

        d : Poly
        d = difference K G o

        its : (sum_verdict 13 i (less (is_under O G (overlap_word G o)) K O G (written K O (difference K G o)) ss) ≡ fine)
            ↔ (All (λ x. is_under O G (overlap_word G o) x ≡ true) (lines_of ss) × SumHolds K O G (written K O (difference K G o)) (lines_of ss))
        its = sum_iff F A G (is_under O G (overlap_word G o)) 13 i (written K O (difference K G o)) ss (written-written F A (difference K G o))

    -- the pairs, numbered from i on
    unfoldable pub nothing : Pair
    nothing = record { first = 0; second = 0; shared = 0; at = 0 }

    pub overlaps_to : (ss : List SumLine) (os : List Pair) (i : ℕ) → overlaps_judged K O G ss os i ≡ fine
        → (m : ℕ) → m < length os → Certifies (get_or os m nothing) (lines_of (sum_of sum_o (i + m) ss))
    unfolding overlaps_judged
    overlaps_to ss [] i e = λ m h. absurd (omega arith)
    overlaps_to ss (o ∷ os) i e =
        let (x, y) = (then_iff (sum_verdict 13 i (less (is_under O G (overlap_word G o)) K O G (written K O (difference K G o)) (sum_of sum_o i ss))) (overlaps_judged K O G ss os (suc i))).0 e in
        go ((overlap_iff i o (sum_of sum_o i ss)).0 x) (overlaps_to ss os (suc i) y)
      where
        go : Certifies o (lines_of (sum_of sum_o i ss)) → ((m : ℕ) → m < length os → Certifies (get_or os m nothing) (lines_of (sum_of sum_o (suc i + m) ss)))
            → (m : ℕ) → m < suc (length os) → Certifies (get_or (o ∷ os) m nothing) (lines_of (sum_of sum_o (i + m) ss))
        go p q zero h = rw (add-zero i) p
        go p q (suc m) h = let x : i + suc m ≡ suc i + m = omega arith in rw x (q m (omega arith))

    pub overlaps_from : (ss : List SumLine) (os : List Pair) (i : ℕ)
        → ((m : ℕ) → m < length os → Certifies (get_or os m nothing) (lines_of (sum_of sum_o (i + m) ss))) → overlaps_judged K O G ss os i ≡ fine
    unfolding overlaps_judged
    overlaps_from ss [] i h = refl
    overlaps_from ss (o ∷ os) i h =
        (then_iff (sum_verdict 13 i (less (is_under O G (overlap_word G o)) K O G (written K O (difference K G o)) (sum_of sum_o i ss))) (overlaps_judged K O G ss os (suc i))).1 (
          (overlap_iff i o (sum_of sum_o i ss)).1 (rw (add-zero i) at (h 0 (omega arith))),
          overlaps_from ss os (suc i) (λ m l. let x : i + suc m ≡ suc i + m = omega arith in rw x at (h (suc m) (omega arith))),
        )
