-- The pairs counted, and the bytes of their lines: those so far and those that are left are all.
use mathlib.Core.Path.{◌≡◌, ap, subst}
use mathlib.Core.List.{List}
use Prim.Native.Nat.{ℕ, suc, ◌+◌, ◌-◌, ◌*◌, ◌≤◌, ◌<◌, max}
use native.Mathlib.Numerals.{add-one}
use native.Mathlib.Omega.{arith}
use Rattle.std.specs.Prelude.{Option, Some, None, IfSome}
use lib.ListN.{length, get_or, set, drop, length-append}
use Rattle.words.specs.Word.{Word}
use Rattle.words.specs.Laid.{laid_words, Laid}
use Rattle.overlaps.specs.Pairs.{Pair}
use Rattle.overlaps.specs.Overlaps.{overlaps}
use Rattle.overlaps.specs.Listing.{list_word, list_line, line_length, overlap_lines, overlap_text}
use Rattle.overlapsearch.specs.declared.PairAt.{PairAt}
use Rattle.overlapsearch.specs.Position.{pair_of, pairs_at, behind, seen_pairs, AtMost24, FoundAt}
use Rattle.overlapsearch.specs.Kept.{packed_pair, Small, KeptPairs}
use Rattle.overlapsearch.proofs.KeptPairs.{found-small, kept-none, kept_one, left_behind}
use Rattle.overlapsearch.proofs.SeenPairs.{seen_one, seen_none, Walked, walk_start, walk_most, walk_few, walk_found, walk_next, walk_end}
use Rattle.listmeasuring.proofs.Lines.{found-length}

pub record Measuring (starts lens bytes : List ℕ) (n : ℕ) (kept : List ℕ) (count total : ℕ) (r : Option PairAt) : Type 0 where
  pub walked : Walked starts lens bytes n count r
  pub left : seen_pairs (laid_words starts lens bytes n) r ≡ drop count (overlaps (laid_words starts lens bytes n))
  pub keeps : KeptPairs lens n (laid_words starts lens bytes n) kept count
  pub summed : total + length (overlap_lines (laid_words starts lens bytes n) (suc count) (seen_pairs (laid_words starts lens bytes n) r)) ≡ length (overlap_text (laid_words starts lens bytes n))
  pub total_most : total ≤ 33 + 128 * count

-- what a finished count says
pub record Measured (starts lens bytes : List ℕ) (n : ℕ) (kept : List ℕ) (count total : ℕ) : Type 0 where
  pub all : count ≡ length (overlaps (laid_words starts lens bytes n))
  pub whole : total ≡ length (overlap_text (laid_words starts lens bytes n))
  pub count_most : count ≤ 98304
  pub whole-most : total ≤ 16000000
  pub keeps : KeptPairs lens n (laid_words starts lens bytes n) kept count

-- what the length of a pair's line asks
pub record LineAsked (f : PairAt) : Type 0 where
  pub first-few : f.first < 64
  pub second-few : f.second < 64
  pub shared-few : f.shared ≤ 24
  pub at_few : f.at ≤ 24

module _ (starts lens bytes : List ℕ) (n : ℕ) where
  abbrev ws : List Word
  ws = laid_words starts lens bytes n

  pub measuring_start : Laid starts lens bytes n → n ≤ 64 → AtMost24 lens n → (kept : List ℕ) (r : Option PairAt) → seen_pairs ws r ≡ overlaps ws → IfSome r (FoundAt lens n)
      → Measuring starts lens bytes n kept 0 33 r
  unfolding overlap_text
  measuring_start h m s kept r e a = record {
    walked = walk_start starts lens bytes n h m s r e a;
    left = e;
    keeps = kept-none lens n ws kept;
    summed = omega (arith, ap (λ (os : List Pair). length (overlap_lines ws 1 os)) e);
    total_most = omega arith;
  }

  module _ (kept : List ℕ) (count total : ℕ) (r : Option PairAt) (h : Measuring starts lens bytes n kept count total r) where
    pub total_few : total ≤ 16000000
    total_few = let b = h.total_most in omega (arith, walk_most starts lens bytes n count r h.walked)

    pub measuring_end : r ≡ None → Measured starts lens bytes n kept count total
    unfolding overlap_lines
    measuring_end p = record {
      all = walk_end starts lens bytes n count r h.walked p;
      whole = let s = h.summed in
          omega (arith, ap (λ (x : Option PairAt). length (overlap_lines ws (suc count) (seen_pairs ws x))) p, ap (λ (os : List Pair). length (overlap_lines ws (suc count) os)) (seen_none ws));
      count_most = walk_most starts lens bytes n count r h.walked;
      whole-most = total_few;
      keeps = h.keeps;
    }

    module _ (f : PairAt) (p : r ≡ Some f) where
      pub count-few : count < 98304
      count-few = walk_few starts lens bytes n count r h.walked f p

      -- the pair that is measured
      pub pair_is : FoundAt lens n f
      pair_is = walk_found starts lens bytes n count r h.walked f p

      pub line_asked : LineAsked f
      line_asked =
          let q = pair_is in
          let a = q.first in
          let b = q.second in
          let c = h.walked.words in
          let d = q.within_first in
          let e = q.short-first in
          record { first-few = omega arith; second-few = omega arith; shared-few = omega arith; at_few = omega arith }

      pub pair_small : Small f
      pair_small = found-small lens n f h.walked.words pair_is

      pub measuring_next : (kept' : List ℕ) → kept' ≡ set kept count (packed_pair f) → (g : Option PairAt) → seen_pairs ws g ≡ pairs_at ws (behind f) → IfSome g (FoundAt lens n)
          → (b : ℕ) → b ≡ line_length (count + 1) (pair_of f) (max 1 (get_or lens f.first 0 + (get_or lens f.second 0 - f.shared))) → b ≤ 128
          → Measuring starts lens bytes n kept' (count + 1) (total + b) g
      unfolding overlap_lines
      measuring_next kept' k g e a b l m =
          let q = pair_is in
          let s = h.summed in
          let t = h.total_most in
          let here : seen_pairs ws (Some f) ≡ drop count (overlaps ws) = subst (λ (x : Option PairAt). seen_pairs ws x ≡ drop count (overlaps ws)) p h.left in
          let w = ap (λ (x : Option PairAt). length (overlap_lines ws (suc count) (seen_pairs ws x))) p in
          let x = ap (λ (os : List Pair). length (overlap_lines ws (suc count) os)) (seen_one ws f) in
          let y = length-append (list_line (suc count) (pair_of f) (list_word ws (pair_of f))) (overlap_lines ws (suc (suc count)) (pairs_at ws (behind f))) in
          let z = ap (λ (os : List Pair). length (overlap_lines ws (suc (suc count)) os)) e in
          let v = found-length starts lens bytes n f q.first q.second h.walked.laid (suc count) in
          let u : b ≡ line_length (suc count) (pair_of f) (max 1 (get_or lens f.first 0 + (get_or lens f.second 0 - f.shared))) = rw (add-one count) at l in
          record {
            walked = walk_next starts lens bytes n count r h.walked f p g e a;
            left = left_behind lens n ws count f h.walked.words q here g e;
            keeps = rw k (kept_one lens n ws count f h.walked.words q here kept h.keeps);
            summed = rw (add-one count) (omega arith);
            total_most = omega arith;
          }
