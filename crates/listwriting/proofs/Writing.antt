-- The first k lines of the list written: storing those that are left gives what storing all gives.
use mathlib.Core.Path.{◌≡◌, sym, ◌∙◌, ap}
use mathlib.Core.List.{List, ◌∷◌, ◌++◌}
use Prim.Native.Nat.{ℕ, suc, ◌+◌, ◌≤◌, ◌<◌}
use native.Mathlib.Numerals.{add-one}
use native.Mathlib.Omega.{arith}
use Rattle.std.specs.Prelude.{Some}
use lib.ListN.{length, drop, length-append, drop_of_length-le}
use lib.Seq.{sets, length-sets, drop-drop}
use Rattle.words.specs.Word.{Word}
use Rattle.words.specs.Laid.{laid_word, laid_words, Laid}
use Rattle.lists.proofs.Stores.{sets_append}
use Rattle.overlaps.specs.Pairs.{Pair}
use Rattle.overlaps.specs.Overlaps.{overlaps, overlap_joined}
use Rattle.overlaps.specs.Listing.{list_word, list_line, overlap_lines, all_lines}
use Rattle.overlapsearch.specs.declared.Cursor.{Cursor}
use Rattle.overlapsearch.specs.declared.PairAt.{PairAt}
use Rattle.overlapsearch.specs.Position.{number_of, pair_of, pairs_at, origin, behind, seen_pairs, Placed, AtMost24, FoundAt}
use Rattle.overlapsearch.proofs.Positions.{at_origin}
use Rattle.overlapsearch.proofs.SeenPairs.{seen_one, place-few, placed-behind, laid-few}
use Rattle.listmeasuring.proofs.Lines.{found_word}

pub record Writing (starts lens bytes : List ℕ) (n : ℕ) (out₀ : List ℕ) (at : ℕ) (out : List ℕ) (place k : ℕ) (from : Cursor) : Type 0 where
  pub laid : Laid starts lens bytes n
  pub words : n ≤ 64
  pub short : AtMost24 lens n
  pub placed : Placed n from
  pub left : pairs_at (laid_words starts lens bytes n) from ≡ drop k (overlaps (laid_words starts lens bytes n))
  pub size : place + length (overlap_lines (laid_words starts lens bytes n) (suc k) (pairs_at (laid_words starts lens bytes n) from))
      ≡ at + length (all_lines (laid_words starts lens bytes n))
  pub stores : sets out place (overlap_lines (laid_words starts lens bytes n) (suc k) (pairs_at (laid_words starts lens bytes n) from))
      ≡ sets out₀ at (all_lines (laid_words starts lens bytes n))
  pub fits : at + length (all_lines (laid_words starts lens bytes n)) ≤ length out
  pub same_length : length out ≡ length out₀

module _ (starts lens bytes : List ℕ) (n : ℕ) (out₀ : List ℕ) (at : ℕ) where
  abbrev ws : List Word
  ws = laid_words starts lens bytes n

  pub writing_start : Laid starts lens bytes n → n ≤ 64 → AtMost24 lens n → at + length (all_lines ws) ≤ length out₀
      → Writing starts lens bytes n out₀ at out₀ at 0 origin
  writing_start h m s l = record {
    laid = h;
    words = m;
    short = s;
    placed = λ x. x;
    left = at_origin ws;
    size = ap (λ (os : List Pair). at + length (overlap_lines ws 1 os)) (at_origin ws);
    stores = ap (λ (os : List Pair). sets out₀ at (overlap_lines ws 1 os)) (at_origin ws);
    fits = l;
    same_length = omega arith;
  }

  module _ (out : List ℕ) (place k : ℕ) (from : Cursor) (h : Writing starts lens bytes n out₀ at out place k from) where
    -- all lines are written
    pub writing_end : length (overlaps ws) ≤ k → (place ≡ at + length (all_lines ws)) × (out ≡ sets out₀ at (all_lines ws))
    unfolding overlap_lines
    writing_end l =
        let e = h.left ∙ drop_of_length-le (overlaps ws) l in
        let q : place + 0 ≡ at + length (all_lines ws) = rw e at h.size in
        (omega arith, rw e at h.stores)

    -- no more than 98,304 lines are written
    pub number-few : k < length (overlaps ws) → k < 98304
    number-few l = omega (arith, laid-few starts lens bytes n h.laid h.short h.words)

    -- the next pair
    module _ (f : PairAt) (e : seen_pairs ws (Some f) ≡ pairs_at ws from) (found : FoundAt lens n f) where
      abbrev line : List ℕ
      line = list_line (suc k) (pair_of f) (list_word ws (pair_of f))

      abbrev others : List ℕ
      others = overlap_lines ws (suc (suc k)) (pairs_at ws (behind f))

      these : pairs_at ws from ≡ pair_of f ∷ pairs_at ws (behind f)
      these = sym e ∙ seen_one ws f

      whole : place + length (line ++ others) ≡ at + length (all_lines ws)
      unfolding overlap_lines
      whole = rw these at h.size

      -- the line as the words lie in the bytes, numbered as the code does
      abbrev laid-line : List ℕ
      laid-line = list_line (k + 1) (pair_of f) (overlap_joined (laid_word starts lens bytes f.first) (laid_word starts lens bytes f.second) f.shared)

      line_is : line ≡ laid-line
      line_is = rw (add-one k) (ap (list_line (suc k) (pair_of f)) (found_word starts lens bytes n f found.first found.second))

      fits_line : place + length line ≤ length out
      fits_line = let a = whole in let b = h.fits in omega (arith, length-append line others)

      -- what `put_pair` asks
      pub line_asked : place + length laid-line ≤ length out
      line_asked = rw line_is at fits_line

      pub number_asked : number_of f ≤ 24
      number_asked = place-few lens n f found

      pub writing_next : (out' : List ℕ) (place' : ℕ) → (place' ≡ place + length laid-line) × (out' ≡ sets out place laid-line)
          → Writing starts lens bytes n out₀ at out' place' (k + 1) (behind f)
      unfolding overlap_lines
      writing_next out' place' (p₀, q₀) =
          let a : place' ≡ place + length line = rw line_is p₀ in
          let b : out' ≡ sets out place line = rw line_is q₀ in
          let c = whole in
          record {
            laid = h.laid;
            words = h.words;
            short = h.short;
            placed = placed-behind lens n f found;
            left = ap (drop 1) (sym these ∙ h.left) ∙ drop-drop 1 k (overlaps ws);
            size = rw (add-one k) (omega (arith, length-append line others));
            stores = rw (add-one k, b, a) (sets_append out place line others) ∙ rw these at h.stores;
            fits = rw (b, length-sets) h.fits;
            same_length = rw (b, length-sets) h.same_length;
          }
