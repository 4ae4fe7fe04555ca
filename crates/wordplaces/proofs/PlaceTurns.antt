-- One law for each way through the search for the leftmost place: what is left of the word says what the whole word says.
use mathlib.Core.Path.{◌≡◌, refl, sym, ◌∙◌}
use mathlib.Core.Bool.{true, false, true≢false}
use mathlib.Core.List.{[], ◌∷◌}
use Prim.Native.Nat.{ℕ, zero, suc, ◌+◌, ◌≤◌, ◌<◌}
use native.Mathlib.Numerals.{add-one}
use native.Mathlib.Omega.{arith}
use lib.ListN.{length, drop, length-drop}
use lib.Seq.{drop-cons}
use Rattle.std.specs.Prelude.{None, Some}
use Rattle.words.specs.Word.{Word}
use Rattle.words.specs.Place.{begins, stands_at, leftmost_from, leftmost}
use Rattle.words.proofs.Standing.{stands-past}

begins_long : (b w : Word) → length w < length b → begins b w ≡ false
unfolding stands_at
begins_long b w h = stands-past b w 0 (omega arith)

pub stands-inside : (b w : Word) (i : ℕ) → i ≤ length w → stands_at b w i ≡ begins b (drop i w)
unfolding stands_at
stands-inside b w zero h = refl
stands-inside b [] (suc i) h = absurd (omega arith)
stands-inside b (a ∷ w) (suc i) h = stands-inside b w i (omega arith)

leftmost-short : (b w : Word) (i : ℕ) → length w < length b → leftmost_from b w i ≡ None
unfolding leftmost_from
leftmost-short b [] i h = rw (leftmost_from, begins_long b [] h)
leftmost-short b (a ∷ w) i h = rw (leftmost_from, begins_long b (a ∷ w) h) (leftmost-short b w (suc i) (omega arith))

pub leftmost-start : (b w : Word) → leftmost_from b w 0 ≡ leftmost b w
unfolding leftmost
leftmost-start b w = refl

pub leftmost_long : (b w : Word) → length w < length b → leftmost b w ≡ None
leftmost_long b w h = sym (leftmost-start b w) ∙ leftmost-short b w 0 h

begins-some : (b w : Word) → begins b w ≡ false → 1 ≤ length b
unfolding begins
begins-some [] w e = absurd (true≢false e)
begins-some (x ∷ b) w e = omega arith

leftmost-begins : (b w : Word) (i : ℕ) → begins b w ≡ true → leftmost_from b w i ≡ Some i
unfolding leftmost_from
leftmost-begins b [] i e = rw (leftmost_from, e)
leftmost-begins b (a ∷ w) i e = rw (leftmost_from, e)

module _ (b w : Word) (i : ℕ) where
  pub leftmost_here : i ≤ length w → stands_at b w i ≡ true → leftmost_from b (drop i w) i ≡ Some i
  leftmost_here h e = leftmost-begins b (drop i w) i (sym (stands-inside b w i h) ∙ e)

  begins_not : i + length b ≤ length w → stands_at b w i ≡ false → begins b (drop i w) ≡ false
  begins_not h e = let m : i ≤ length w = omega arith in sym (stands-inside b w i m) ∙ e

  -- where the word fits and does not stand, it is not empty, so a letter follows
  pub stands_not_last : i + length b ≤ length w → stands_at b w i ≡ false → i < length w
  stands_not_last h e = omega (arith, begins-some b (drop i w) (begins_not h e))

  pub leftmost-later : i + length b ≤ length w → stands_at b w i ≡ false → leftmost_from b (drop (i + 1) w) (i + 1) ≡ leftmost_from b (drop i w) i
  unfolding leftmost_from
  leftmost-later h e =
      let c = drop-cons w i 0 (stands_not_last h e) in
      rw (c, leftmost_from, rw c at (begins_not h e), add-one i)

  pub leftmost-none : i ≤ length w → length w < i + length b → leftmost_from b (drop i w) i ≡ None
  leftmost-none m h = leftmost-short b (drop i w) i (omega (arith, length-drop i w))
