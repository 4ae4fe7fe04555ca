-- What a caller of `read_package` knows when the answer is `Ok`: the package is readable, its counts are in bounds, and the slices hold the terms of each item.
use mathlib.Core.Path.{◌≡◌, sym, ap, ◌∙◌}
use mathlib.Core.Bool.{true}
use mathlib.Core.List.{List, [], ◌∷◌, ◌++◌}
use Prim.Native.Nat.{ℕ, zero, suc, ◌-◌, ◌<◌}
use native.Mathlib.Omega.{arith}
use native.Mathlib.Decide.{ℕ_discrete}
use lib.ListN.{length, get_or, take, drop, get_or-append}
use lib.Seq.{get_or_at}
use Rattle.std.specs.Prelude.{Ok}
use Rattle.package.proofs.ItemRuns.{slot-most, item-run}
use Rattle.package.proofs.ItemStarts.{slots_kept}
use Rattle.package.proofs.LineBounds.{HeadBounds, head-bounds}
use Rattle.package.proofs.PackageTexts.{reads-written}
use Rattle.package.proofs.TermSlices.{kept-length}
use Rattle.package.specs.Held.{held_term, held_terms, seen_all, StartsMarked}
use Rattle.package.specs.Items.{slot, slots_of, first_of, item_terms}
use Rattle.package.specs.Names.{term_g, term_b}
use Rattle.package.specs.Package.{Package, read_package}
use Rattle.package.specs.Readable.{Readable}
use Rattle.package.specs.Sums.{sums_of}
use Rattle.package.specs.Terms.{TermLine, items_of}
use Rattle.package.specs.declared.Head.{Head}
use Rattle.text.specs.Bytes.{within}
use Rattle.text.specs.Pieces.{lines}

-- The term at a place of the slices.
pub kept_at : (s ks is cs os ls : List ℕ) (d : TermLine) (n i : ℕ) → i < n → get_or (held_terms s ks is cs os ls n) i d ≡ held_term s ks is cs os ls i
unfolding held_terms
kept_at s ks is cs os ls d zero i l = absurd (omega arith)
kept_at s ks is cs os ls d (suc n) i l = go (ℕ_discrete i n) (kept_at s ks is cs os ls d n i)
  where
    go : Dec (i ≡ n) → (i < n → get_or (held_terms s ks is cs os ls n) i d ≡ held_term s ks is cs os ls i)
        → get_or (held_terms s ks is cs os ls n ++ (held_term s ks is cs os ls n ∷ [])) i d ≡ held_term s ks is cs os ls i
    go (yes e) ih =
        let q : length (held_terms s ks is cs os ls n) ≡ i = kept-length s ks is cs os ls n ∙ sym e in
        get_or_at (held_terms s ks is cs os ls n) (held_term s ks is cs os ls n) [] d i q ∙ ap (held_term s ks is cs os ls) (sym e)
    go (no e) ih =
        let l' : i < n = omega arith in
        let q : i < length (held_terms s ks is cs os ls n) = omega (arith, kept-length s ks is cs os ls n) in
        get_or-append (held_terms s ks is cs os ls n) (held_term s ks is cs os ls n ∷ []) d i q ∙ ih l'

module _ (s ks is cs os ls : List ℕ) (h : Head) (m at n : ℕ) where
  -- The package that was read.
  abbrev pub whole_package : Package
  whole_package = record { head = h; terms = held_terms s ks is cs os ls m; sums = sums_of n (lines (drop at s)) }

  module _ (e : seen_all s ks is cs os ls (Ok (record { head = h; terms = m; at = at; line = n })) ≡ read_package s) where
    pub whole-readable : Readable whole_package
    unfolding seen_all
    whole-readable = (reads-written whole_package s (sym e)).0

    pub whole-bounds : HeadBounds h
    whole-bounds = head-bounds h whole-readable.field whole-readable.counts

    -- The terms of item i of kind k stand from the start that fs marks for it up to the next one.
    pub whole_item : (fs : List ℕ) → StartsMarked h ks is m fs → (k i : ℕ) → within term_g term_b k ≡ true → within 1 (items_of h k) i ≡ true
        → take (get_or fs (suc (slot h k i)) 0 - get_or fs (slot h k i) 0) (drop (get_or fs (slot h k i) 0) (held_terms s ks is cs os ls m)) ≡ item_terms k i (held_terms s ks is cs os ls m)
    whole_item fs marked k i a b =
        let l = slot-most h k i a b in
        let x : get_or fs (slot h k i) 0 ≡ first_of (slot h k i) (slots_of h (held_terms s ks is cs os ls m)) = marked (slot h k i) (omega arith) ∙ ap
        (first_of (slot h k i)) (sym (slots_kept h s ks is cs os ls m)) in
        let y : get_or fs (suc (slot h k i)) 0 ≡ first_of (suc (slot h k i)) (slots_of h (held_terms s ks is cs os ls m)) = marked (suc (slot h k i))
        (omega arith) ∙ ap (first_of (suc (slot h k i))) (sym (slots_kept h s ks is cs os ls m)) in
        rw (x, y) (item-run whole_package whole-readable k i a b)
