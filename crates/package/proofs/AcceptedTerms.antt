-- Bounds of a term line in order: its kind, its item and the letters of its word are few.
use mathlib.Core.Path.{◌≡◌, refl}
use mathlib.Core.Bool.{Bool, true, false, false≢true}
use mathlib.Core.List.{List}
use Prim.Native.Nat.{ℕ, ◌≤◌}
use native.Mathlib.Omega.{arith}
use lib.ListN.{length}
use Rattle.package.proofs.LineBounds.{items-most, word-short}
use Rattle.package.proofs.TermBlockTexts.{accepted}
use Rattle.package.specs.Bounds.{coef_fits, word_fits_of}
use Rattle.package.specs.Names.{term_g, term_b}
use Rattle.package.specs.Terms.{items_of, term_fits, LineAbove, accept, judge_term}
use Rattle.package.specs.declared.Head.{Head}
use Rattle.package.specs.declared.Limits.{Limits}
use Rattle.text.proofs.Bytewise.{within-bounds}
use Rattle.text.specs.Bytes.{within}

-- A term whose kind is one of block 2, whose item is one of at most 64, and whose word has at most len letters.
pub record SmallTerm (len k i : ℕ) (w : List ℕ) : Type 0 where
  pub kind : k ≤ term_b
  pub item : i ≤ 64
  pub short : length w ≤ len

module _ (h : Head) (lim : Limits) (k i c : ℕ) (w : List ℕ) where
  -- a term in bounds names an item of its kind, and its word is in bounds
  fit_item : term_fits h lim k i c w ≡ true → within 1 (items_of h k) i ≡ true
  unfolding term_fits
  fit_item = go (within 1 (items_of h k) i)
    where
      go : (t : Bool) → ◌≡◌ {A = Bool} (elim t [ false ↦ false | true ↦ elim (coef_fits h.p c) [ false ↦ false | true ↦ word_fits_of lim.len h.letters w ] ]) true → t ≡ true
      go true e = refl
      go false e = absurd (false≢true e)

  fit_word : term_fits h lim k i c w ≡ true → word_fits_of lim.len h.letters w ≡ true
  unfolding term_fits
  fit_word = go (within 1 (items_of h k) i) (coef_fits h.p c)
    where
      go : (t u : Bool) → ◌≡◌ {A = Bool} (elim t [ false ↦ false | true ↦ elim u [ false ↦ false | true ↦ word_fits_of lim.len h.letters w ] ]) true → word_fits_of lim.len h.letters w ≡ true
      go true true e = e
      go true false e = absurd (false≢true e)
      go false u e = absurd (false≢true e)

-- A line that is accepted is such a term.
pub accepted-small : (h : Head) (lim : Limits) (a : LineAbove) (n : ℕ) (l : List ℕ) (k i c : ℕ) (w : List ℕ) → h.gens ≤ 32 → h.basis ≤ 64
    → judge_term h lim a n l ≡ accept k i c w → SmallTerm lim.len k i w
accepted-small h lim a n l k i c w g b e =
    let t = (accepted h lim a n l k i c w e).1 in
    record {
      kind = (within-bounds term_g term_b k t.ranked).1;
      item = omega (arith, (within-bounds 1 (items_of h k) i (fit_item h lim k i c w t.fits)).1, items-most h k g b);
      short = word-short lim.len h.letters w (fit_word h lim k i c w t.fits);
    }
