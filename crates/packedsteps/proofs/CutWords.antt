-- The parts of a packed word on both sides of a leading word that stands in it.
use mathlib.Core.Path.{◌≡◌, sym, ◌∙◌, ap}
use mathlib.Core.List.{List, map}
use Prim.Native.Nat.{ℕ, ◌+◌, ◌-◌, ◌*◌, ◌%◌, ◌≤◌}
use native.Mathlib.Omega.{arith}
use lib.ListN.{length, take, drop}
use Rattle.lists.proofs.Maps.{map-take, map-drop}
use Rattle.words.specs.Word.{Word}
use Rattle.algebra.specs.Spot.{spot, found}
use Rattle.algebra.proofs.Spots.{spot-found}
use Rattle.packedsteps.proofs.SpotsWithin.{spot-within}
use Rattle.packedwords.specs.Packed.{unpacked, Packs}
use Rattle.table.specs.Table.{gens_in, letter_in, first_in, size_in, blocks_in}
use Rattle.table.specs.Words.{word_of, Sixfold}
use Rattle.table.specs.Polynomials.{basis_in}
use Rattle.table.specs.Tabled.{Tabled}
use Rattle.packedterms.specs.declared.PackedWord.{PackedWord}
use Rattle.packedsteps.specs.Cuts.{CutAt}
use Rattle.table.proofs.WordSizes.{word_size, even-size, even-held}
use Rattle.table.proofs.LeadingTerms.{number_in, LeadTerm, lead-term}

-- What stands at a spot of a word leads a basis polynomial.
pub spot_lead : (t : List ℕ) → Tabled t → (v : Word) (i g : ℕ) → spot (basis_in t) v ≡ found i g → LeadTerm t g
spot_lead t T v i g e = let n = number_in t g (spot-found (basis_in t) v i g e).0 in lead-term t T g n.0 n.1

-- The numbers of a cut: the leading word's letters and those of the whole, and their sizes.
pub record Cutting (t : List ℕ) (z i g : ℕ) : Type 0 where
  pub leading : LeadTerm t g
  pub fits : i + size_in t (first_in t (gens_in t + g)) % 256 ≤ z % 256
  pub short : z % 256 ≤ 72
  pub size : z ≡ 257 * (z % 256)
  pub lead-size : size_in t (first_in t (gens_in t + g)) ≡ 257 * (size_in t (first_in t (gens_in t + g)) % 256)

module _ (t : List ℕ) (T : Tabled t) (z : ℕ) (bs : List ℕ) (h : Sixfold t z bs) (i g : ℕ) (e : spot (basis_in t) (word_of t z bs) ≡ found i g) where
  pub cutting : Cutting t z i g
  cutting =
      let L = spot_lead t T (word_of t z bs) i g e in
      let first = first_in t (gens_in t + g) in
      let within = spot-within (basis_in t) (word_of t z bs) i g e in
      let letters = L.letters in
      let all = word_size t z bs in
      record {
        leading = L;
        fits = omega arith;
        short = h.short;
        size = even-size t T.keys z bs h.held;
        lead-size = even-size t T.keys (size_in t first) (blocks_in t first) (T.held first L.inside);
      }

  -- What the code puts together is a cut.
  pub cut_made : (item : ℕ) (left right : PackedWord 6) → item ≡ gens_in t + g → left.size ≡ 257 * i → right.size ≡ z - size_in t (first_in t (gens_in t + g)) - 257 * i
      → length left.blocks ≡ 6 → Packs i left.blocks → unpacked i left.blocks ≡ take i (unpacked (z % 256) bs)
      → length right.blocks ≡ 6 → Packs (z % 256 - (i + size_in t (first_in t (gens_in t + g)) % 256)) right.blocks
      → unpacked (z % 256 - (i + size_in t (first_in t (gens_in t + g)) % 256)) right.blocks ≡ drop (i + size_in t (first_in t (gens_in t + g)) % 256) (unpacked (z % 256) bs)
      → CutAt t (word_of t z bs) z i g item left right
  cut_made item left right ei ea eb six packs word six' packs' word' = record {
    some = C.leading.some;
    most = C.leading.most;
    item = ei;
    left-held = rw ea (record { six = six; short = few i (omega arith); held = even-held t T.keys i left.blocks (omega arith) packs });
    right-held = rw (eb ∙ rest-size) (record { six = six'; short = few rest (omega arith); held = even-held t T.keys rest right.blocks (omega arith) packs' });
    left_word = ap (λ (x : ℕ). word_of t x left.blocks) ea ∙ ap (λ (x : ℕ). map (letter_in t) (unpacked x left.blocks)) (letters i (omega arith)) ∙ ap (map (letter_in t)) word ∙ map-take (letter_in t) i (unpacked (z % 256) bs);
    right-word =
        ap (λ (x : ℕ). word_of t x right.blocks) (eb ∙ rest-size) ∙ ap (λ (x : ℕ). map (letter_in t) (unpacked x right.blocks)) (letters rest (omega arith)) ∙ ap (map (letter_in t)) word'
        ∙ map-drop (letter_in t) (i + e' % 256) (unpacked (z % 256) bs) ∙ ap (λ (x : ℕ). drop (i + x) (word_of t z bs)) (sym C.leading.letters);
    letters = rw (ea, eb ∙ rest-size, letters i (omega arith), letters rest (omega arith)) (omega (arith, C.fits));
  }
    where
      C : Cutting t z i g
      C = cutting

      e' : ℕ
      e' = size_in t (first_in t (gens_in t + g))

      rest : ℕ
      rest = z % 256 - (i + e' % 256)

      letters : (n : ℕ) → n ≤ 72 → 257 * n % 256 ≡ n
      letters n short = omega arith

      few : (n : ℕ) → n ≤ 72 → 257 * n % 256 ≤ 72
      few n short = rw (letters n short) short

      rest-size : z - e' - 257 * i ≡ 257 * rest
      rest-size = let a = C.fits in let b = C.size in let c = C.lead-size in omega arith
