-- What the bounds of a line say of its numbers and words: they have the form of numbers and words.
use mathlib.Core.Path.{◌≡◌, refl}
use mathlib.Core.Bool.{Bool, true, false, false≢true}
use mathlib.Core.List.{List}
use Prim.Native.Nat.{ℕ, ◌+◌, ◌≤◌, ◌<◌}
use native.Mathlib.Omega.{arith}
use lib.Dec.{ltb, eqb}
use lib.ListN.{length}
use borrow.Author.Tests.{ltb-true, ltb-false}
use Rattle.package.proofs.CountsLine.{counts_bounds}
use Rattle.package.specs.Bounds.{coef_fits, word_fits_of}
use Rattle.package.specs.Head.{field_fits, counts_fit}
use Rattle.package.specs.Names.{term_g, sum_b}
use Rattle.package.specs.Sums.{sum_item_fits, ofs, sum_fits}
use Rattle.package.specs.Terms.{items_of, term_fits}
use Rattle.package.specs.declared.Head.{Head}
use Rattle.package.specs.declared.Limits.{Limits}
use Rattle.text.proofs.Bytewise.{within-bounds, all_wider}
use Rattle.text.specs.Bytes.{within, all_within}
use Rattle.package.proofs.FieldNumbers.{fits_iff, means_most}

-- The counts of a package that reads.
pub record HeadBounds (h : Head) : Type 0 where
  pub most : h.p ≤ 65521
  pub letters : h.letters ≤ 26
  pub gens : h.gens ≤ 32
  pub basis : h.basis ≤ 64

pub head-bounds : (h : Head) → field_fits h.p ≡ true → counts_fit h ≡ true → HeadBounds h
head-bounds h a b =
    let c = counts_bounds h b in
    record { most = means_most h.p ((fits_iff h.p).0 a); letters = c.0; gens = c.1; basis = c.2 }

-- Coefficients and words in bounds.
pub coef-below : (p c : ℕ) → coef_fits p c ≡ true → c < p
unfolding coef_fits
coef-below p c = go (ltb 0 c)
  where
    go : (t : Bool) → ◌≡◌ {A = Bool} (elim t [ false ↦ false | true ↦ ltb c p ]) true → c < p
    go false h = absurd (false≢true h)
    go true h = ltb-true c p h

pub word-short : (most letters : ℕ) (w : List ℕ) → word_fits_of most letters w ≡ true → length w ≤ most
unfolding word_fits_of
word-short most letters w = go (ltb most (length w)) refl
  where
    go : (t : Bool) → ltb most (length w) ≡ t → ◌≡◌ {A = Bool} (elim t [ true ↦ false | false ↦ all_within 97 (96 + letters) w ]) true → length w ≤ most
    go true q h = absurd (false≢true h)
    go false q h = ltb-false most (length w) q

pub word-letters : (most letters : ℕ) (w : List ℕ) → letters ≤ 26 → word_fits_of most letters w ≡ true → all_within 97 122 w ≡ true
unfolding word_fits_of
word-letters most letters w l = go (ltb most (length w))
  where
    go : (t : Bool) → ◌≡◌ {A = Bool} (elim t [ true ↦ false | false ↦ all_within 97 (96 + letters) w ]) true → all_within 97 122 w ≡ true
    go true h = absurd (false≢true h)
    go false h = all_wider 97 (96 + letters) 122 w (omega arith) h

-- The items of a kind.
pub items-most : (h : Head) (k : ℕ) → h.gens ≤ 32 → h.basis ≤ 64 → items_of h k ≤ 64
unfolding items_of
items-most h k g b = go (eqb k term_g)
  where
    go : (t : Bool) → (elim t [ true ↦ h.gens | false ↦ h.basis ]) ≤ 64
    go true = omega arith
    go false = b

-- A term line in bounds.
pub record TermNumbers (i c : ℕ) (w : List ℕ) : Type 0 where
  pub item : i < 100000
  pub coef : c < 100000
  pub letters : all_within 97 122 w ≡ true

pub term_numbers : (h : Head) (lim : Limits) (k i c : ℕ) (w : List ℕ) → HeadBounds h → term_fits h lim k i c w ≡ true → TermNumbers i c w
unfolding term_fits
term_numbers h lim k i c w b = go (within 1 (items_of h k) i) (coef_fits h.p c) refl refl
  where
    go : (t u : Bool) → within 1 (items_of h k) i ≡ t → coef_fits h.p c ≡ u
        → ◌≡◌ {A = Bool} (elim t [ false ↦ false | true ↦ elim u [ false ↦ false | true ↦ word_fits_of lim.len h.letters w ] ]) true → TermNumbers i c w
    go false u x y e = absurd (false≢true e)
    go true false x y e = absurd (false≢true e)
    go true true x y e =
        let n = within-bounds 1 (items_of h k) i x in
        let m = items-most h k b.gens b.basis in
        let q = b.most in
        record {
          item = omega (arith, n.1);
          coef = omega (arith, coef-below h.p c y);
          letters = word-letters lim.len h.letters w b.letters e;
        }

-- A sum line in bounds.
pub record SumNumbers (c : ℕ) (l : List ℕ) (o : ℕ) (r : List ℕ) : Type 0 where
  pub coef : c < 100000
  pub lefts : all_within 97 122 l ≡ true
  pub of : o < 100000
  pub rights : all_within 97 122 r ≡ true

ofs-most : (h : Head) (k : ℕ) → HeadBounds h → ofs h k ≤ 64
unfolding ofs
ofs-most h k b = go (eqb k sum_b)
  where
    go : (t : Bool) → (elim t [ true ↦ h.gens | false ↦ h.basis ]) ≤ 64
    go true = let g = b.gens in omega arith
    go false = b.basis

pub sum_numbers : (h : Head) (lim : Limits) (k i c : ℕ) (l : List ℕ) (o : ℕ) (r : List ℕ) → HeadBounds h → sum_fits h lim k i c l o r ≡ true → SumNumbers c l o r
unfolding sum_fits
sum_numbers h lim k i c l o r b = go (sum_item_fits h k i) (coef_fits h.p c) (within 1 (ofs h k) o) (word_fits_of lim.len h.letters l) refl refl refl
  where
    go : (s t u v : Bool) → coef_fits h.p c ≡ t → within 1 (ofs h k) o ≡ u → word_fits_of lim.len h.letters l ≡ v
        → ◌≡◌ {A = Bool} (elim s [ false ↦ false | true ↦ elim t [ false ↦ false | true ↦ elim u [ false ↦ false | true ↦ elim v [ false ↦ false | true ↦ word_fits_of lim.len h.letters r ] ] ] ]) true
        → SumNumbers c l o r
    go false t u v x y z e = absurd (false≢true e)
    go true false u v x y z e = absurd (false≢true e)
    go true true false v x y z e = absurd (false≢true e)
    go true true true false x y z e = absurd (false≢true e)
    go true true true true x y z e =
        let n = within-bounds 1 (ofs h k) o y in
        let m = ofs-most h k b in
        let q = b.most in
        record {
          coef = omega (arith, coef-below h.p c x);
          lefts = word-letters lim.len h.letters l b.letters z;
          of = omega (arith, n.1);
          rights = word-letters lim.len h.letters r b.letters e;
        }
