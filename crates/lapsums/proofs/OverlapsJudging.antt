-- The sums of the pairs, pair by pair and line by line: what is left to judge gives the verdict.
use mathlib.Core.Path.{◌≡◌, refl, sym, ap, ◌∙◌}
use mathlib.Core.Bool.{Bool, true, false, true≢false}
use mathlib.Core.List.{List, [], ◌∷◌}
use Prim.Native.Nat.{ℕ, suc, ◌+◌, ◌≤◌, ◌<◌}
use native.Mathlib.Numerals.{add-one}
use native.Mathlib.Omega.{arith}
use lib.ListN.{length}
use Rattle.std.specs.Prelude.{Option, None, Some, Ok, is_some, IfSome}
use Rattle.text.specs.Pieces.{part}
use Rattle.field.specs.Field.{Operations}
use Rattle.words.specs.Word.{Word}
use Rattle.words.specs.Order.{Order}
use Rattle.algebra.specs.Poly.{Poly}
use Rattle.algebra.specs.Ideal.{Family, Line, family}
use Rattle.algebra.specs.Written.{written}
use Rattle.algebra.specs.Steps.{take_away}
use Rattle.overlaps.specs.Pairs.{Pair}
use Rattle.overlaps.specs.Overlaps.{overlap_word, difference}
use Rattle.overlapsearch.specs.declared.PairAt.{PairAt}
use Rattle.overlapsearch.specs.Position.{pairs_at, pair_of, behind, seen_pairs}
use Rattle.overlapsearch.proofs.SeenPairs.{seen_one, seen_none}
use Rattle.package.specs.Names.{sum_o}
use Rattle.package.specs.Sums.{SumLine, ofs}
use Rattle.acceptance.specs.Check.{Verdict, refusal, fine, is_under, overlaps_judged, items_judged}
use Rattle.basis.specs.Answer.{verdict_of}
use Rattle.package.specs.declared.SumAt.{SumAt}
use Rattle.sumlines.specs.Lines.{sums_at, held_line, held_from, NumberedFrom, first_is, Inside, taken_line, LineFits}
use Rattle.sumlines.proofs.AboveCount.{above_low, items-later}
use Rattle.sumorder.proofs.LineOrder.{overlaps_skip}
use Rattle.sumorder.proofs.NextLine.{NextLine, next-line, lines_are, its_kind, next_fits, next_reached, next-item}
use Rattle.sumorder.proofs.ItemJudging.{item_then, line-fails, line-over, line-more, item_wrong, item-right}
use Rattle.table.specs.Table.{prime_in, gens_in, basis_count_in, field_in, order_in}
use Rattle.table.specs.Polynomials.{basis_in}
use Rattle.packedterms.specs.declared.PackedWord.{PackedWord}
use Rattle.tablesums.specs.Lines.{line_in}
use Rattle.tablesums.specs.ShortWords.{HoldsShort}
use Rattle.tablesums.specs.Heading.{head_in}
use Rattle.tablesums.proofs.TakenLines.{line-packed, without-basis}
use Rattle.tablesums.proofs.TakenLines.{without as taken}
use Rattle.lapsums.specs.declared.PairsPassed.{PairsPassed}
use Rattle.lapsums.specs.Judged.{LapsBehind}

module _ (t bytes : List ℕ) (ws : List Word) (whole : Verdict) (total : ℕ) (items : Verdict) where
  abbrev K : Operations
  K = field_in t

  abbrev O : Order
  O = order_in t

  abbrev G : Family
  G = family (basis_in t)

  -- what the pairs behind f, from number i + 2 on, are judged by the lines ss
  abbrev later_overlaps : List SumLine → PairAt → ℕ → Verdict
  later_overlaps ss f i = overlaps_judged K O G ss (pairs_at ws (behind f)) (i + 1 + 1)

  -- the same with f, number i + 1, whose sum has come to g
  abbrev from_lines : List SumLine → PairAt → ℕ → Poly → Verdict
  from_lines ss f i g =
      item_then 13 sum_o (i + 1) (is_under O G (overlap_word G (pair_of f))) K O G (λ (ss : List SumLine). later_overlaps ss f i) ss g

  -- The first i pairs passed, r is the next or none, and s is the next line.
  pub record OverlapsDone (at line i : ℕ) (r : Option PairAt) (s : Option SumAt) : Type 0 where
    pub next : NextLine (head_in t) sum_o (i + 1) bytes at line s
    pub same : overlaps_judged K O G (sums_at bytes at line) (seen_pairs ws r) (i + 1) ≡ whole
    pub numbered : i + length (seen_pairs ws r) ≡ total
    pub below : items_judged total (sums_at bytes at line) ≡ items

  -- In pair f, number i + 1, lines were taken away, and g is left; s is the next line.
  pub record LapDone (at line i : ℕ) (f : PairAt) (g : Poly) (s : Option SumAt) : Type 0 where
    pub next : NextLine (head_in t) sum_o (i + 1) bytes at line s
    pub same : from_lines (sums_at bytes at line) f i g ≡ whole
    pub numbered : i + 1 + length (pairs_at ws (behind f)) ≡ total
    pub below : items_judged total (sums_at bytes at line) ≡ items

  pub overlaps-start : (at line : ℕ) (r : Option PairAt) (s : Option SumAt) → NextLine (head_in t) sum_o 1 bytes at line s
      → (os : List Pair) → seen_pairs ws r ≡ os → whole ≡ overlaps_judged K O G (sums_at bytes at line) os 1 → total ≡ length os
      → items ≡ items_judged total (sums_at bytes at line) → OverlapsDone at line 0 r s
  overlaps-start at line r s n os e v m i =
      let size : length (seen_pairs ws r) ≡ length os = ap length e in
      record {
        next = n;
        same = ap (λ (x : List Pair). overlaps_judged K O G (sums_at bytes at line) x 1) e ∙ sym v;
        numbered = omega arith;
        below = sym i;
      }

  pub lap_start : (at line i : ℕ) (r : Option PairAt) (s : Option SumAt) → OverlapsDone at line i r s → (f : PairAt) → r ≡ Some f
      → (g : Poly) → g ≡ written K O (difference K G (pair_of f)) → LapDone at line i f g s
  unfolding overlaps_judged
  lap_start at line i r s d f p g e = record {
    next = d.next;
    same = rw (e, add-one (i + 1)) (rw (p, seen_one ws f) at d.same);
    numbered = let z : i + suc (length (pairs_at ws (behind f))) ≡ total = rw (p, seen_one ws f) at d.numbered in omega arith;
    below = d.below;
  }

  module _ (at line i : ℕ) (f : PairAt) (g : Poly) where
    abbrev test : Line → Bool
    test = is_under O G (overlap_word G (pair_of f))

    abbrev later : List SumLine → Verdict
    later ss = later_overlaps ss f i

    module _ (s : SumAt) (d : LapDone at line i f g (Some s)) (p : first_is sum_o (i + 1) (held_from bytes line (Some s)) ≡ true) where
      abbrev x : SumLine
      x = held_line bytes line s

      abbrev ss : List SumLine
      ss = sums_at bytes s.next (suc line)

      here : sums_at bytes at line ≡ x ∷ ss
      here = lines_are (head_in t) sum_o (i + 1) bytes at line s d.next p

      fits : LineFits (prime_in t) bytes (ofs (head_in t) sum_o) s
      fits = next_fits (head_in t) sum_o (i + 1) bytes at line s d.next p

      pub line_small : s.coef < prime_in t
      line_small = fits.coef

      pub line_names : (1 ≤ s.of) × (s.of ≤ basis_count_in t)
      unfolding ofs
      line_names = (fits.some, fits.most)

      -- the test and the polynomial without the line, of packed words
      module _ (left right : PackedWord 6) (l : HoldsShort t (part bytes s.left s.left_len) left)
          (r : HoldsShort t (part bytes s.right s.right_len) right) where
        pub line_tested : (m : Word) → m ≡ overlap_word G (pair_of f) → (b : Bool)
            → ((y : ℕ) → b ≡ is_under O G m (line_in t y left s.of right)) → (a : Bool) → b ≡ a
            → test (taken_line bytes s) ≡ a
        line_tested m q b h a e =
            ap test (sym (line-packed t bytes s left right l r))
            ∙ ap (λ (v : Word). is_under O G v (line_in t s.coef left s.of right)) (sym q) ∙ sym (h s.coef) ∙ e

        pub line_taken : (j : ℕ) → j ≡ gens_in t → taken t g s.coef left right (j + s.of) ≡ take_away K O G g (taken_line bytes s)
        line_taken j e =
            ap (λ (k : ℕ). taken t g s.coef left right (k + s.of)) e
            ∙ without-basis t g s.coef left right s.of line_names.0 line_names.1
            ∙ ap (take_away K O G g) (line-packed t bytes s left right l r)

      pub lap_not : test (taken_line bytes s) ≡ false → refusal 14 line ≡ whole
      lap_not = line-fails 13 sum_o (i + 1) test K O G later whole (head_in t) bytes at line s d.next g d.same p

      -- the line passes the test, and leaves g', of n terms
      module _ (e : test (taken_line bytes s) ≡ true) (g' : Poly) (q : g' ≡ take_away K O G g (taken_line bytes s)) (n : ℕ) (size : length g' ≡ n) where
        pub lap_over : 512 < n → refusal 10 line ≡ whole
        lap_over l = line-over 13 sum_o (i + 1) test K O G later whole (head_in t) bytes at line s d.next g d.same p e g' q (omega arith)

        pub lap_next : n ≤ 512 → (s' : Option SumAt) → IfSome s' (λ y. Inside bytes s.next y)
            → ((n : ℕ) → NumberedFrom n (sums_at bytes s.next n) → held_from bytes n s' ≡ sums_at bytes s.next n)
            → LapDone s.next (line + 1) i f g' s'
        lap_next l s' y u =
            let most = d.numbered in
            let k = (its_kind (head_in t) sum_o (i + 1) bytes at line s d.next p).1 in
            let low : items_judged total (x ∷ ss) ≡ items_judged total ss = items-later total x ss (above_low total s.kind s.item (omega arith)) in
            let skip : later (x ∷ ss) ≡ later ss =
            overlaps_skip K O G x ss (pairs_at ws (behind f)) (i + 1 + 1) (λ r. omega arith) in
            record {
              next = next-line (head_in t) sum_o (i + 1) bytes s.next (line + 1) s'
                  (next_reached (head_in t) sum_o (i + 1) bytes at line s d.next p) y u;
              same = line-more 13 sum_o (i + 1) test K O G later whole (head_in t) bytes at line s d.next g d.same p e g' q (omega arith) skip;
              numbered = d.numbered;
              below = rw (add-one line) (sym low ∙ rw here at d.below);
            }

    module _ (s : Option SumAt) (d : LapDone at line i f g s) (p : first_is sum_o (i + 1) (held_from bytes line s) ≡ false) where
      pub lap_wrong : (n : ℕ) → length g ≡ n → 0 < n → refusal 13 (i + 1) ≡ whole
      lap_wrong n size z = item_wrong 13 sum_o (i + 1) test K O G later whole (head_in t) bytes at line s d.next g d.same p (omega arith)

      pub lap_end : (n : ℕ) → length g ≡ n → n ≤ 0 → (f' : Option PairAt) → seen_pairs ws f' ≡ pairs_at ws (behind f)
          → OverlapsDone at line (i + 1) f' s
      lap_end n size z f' y = record {
        next = next-item (head_in t) sum_o (i + 1) bytes at line s d.next p;
        same = rw y (item-right 13 sum_o (i + 1) test K O G later whole (head_in t) bytes at line s d.next g d.same p (omega arith));
        numbered = rw y d.numbered;
        below = d.below;
      }

  -- No pair is left: the verdict, and where no line is left over none gives 15.
  pub overlaps-end : (at line i : ℕ) (r : Option PairAt) (s : Option SumAt) → OverlapsDone at line i r s → r ≡ None
      → (ss : List SumLine) → items ≡ items_judged total ss → (left : Bool) → left ≡ is_some s
      → (verdict_of {A = PairsPassed} (Ok (record { count = i; left = left })) ≡ whole) × LapsBehind total ss (Ok (record { count = i; left = left }))
  unfolding overlaps_judged verdict_of LapsBehind items_judged held_from
  overlaps-end at line i r s d p ss q left l =
      (rw (p, seen_none ws) at d.same, (count, clear))
    where
      count : i ≡ total
      count = let n = d.numbered in omega (arith, ap (λ (x : Option PairAt). length (seen_pairs ws x)) p, ap length (seen_none ws))

      none_held : (s' : Option SumAt) → is_some s' ≡ false → held_from bytes line s' ≡ []
      none_held None e = refl
      none_held (Some x) e = absurd (true≢false e)

      clear : left ≡ false → items_judged total ss ≡ fine
      clear e = let z : sums_at bytes at line ≡ [] = sym d.next.held ∙ none_held s (sym l ∙ e) in sym q ∙ sym d.below ∙ ap (items_judged total) z

-- The next line s is one of pair i + 1, where it is told as one.
pub line_here : {t bytes : List ℕ} {ws : List Word} {whole : Verdict} {total : ℕ} {items : Verdict}
    {at line i : ℕ} {f : PairAt} {g : Poly} {next : Option SumAt} {s : SumAt}
    → LapDone t bytes ws whole total items at line i f g next → next ≡ Some s
    → ((bs : List ℕ) (n : ℕ) → true ≡ first_is sum_o (i + 1) (held_from bs n next))
    → LapDone t bytes ws whole total items at line i f g (Some s) × (first_is sum_o (i + 1) (held_from bytes line (Some s)) ≡ true)
line_here {bytes = bytes} {line = line} d e q = (rw e at d, rw e at (sym (q bytes line)))
