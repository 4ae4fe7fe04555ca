-- Words of letters as a table's keys have them: their codes lead back to the letters and have their weight; packed, such a word is held.
use mathlib.Core.Path.{◌≡◌, refl, sym, ◌∙◌, ap, ap₂}
use mathlib.Core.List.{List, [], ◌∷◌, map}
use Prim.Native.Nat.{ℕ, zero, suc, ◌+◌, ◌*◌, ◌/◌, ◌%◌, ◌≤◌, ◌<◌}
use native.Mathlib.Nat.{mod-lt}
use native.Mathlib.Omega.{arith}
use lib.ListN.{length, take, drop, length-map}
use Rattle.lists.specs.All.{All, done, ◌also◌}
use Rattle.lists.proofs.Parts.{part_length}
use Rattle.words.specs.Word.{Word, Letter}
use Rattle.words.specs.Weighted.{weight}
use Rattle.packedwords.specs.Packed.{Codes, Nonzero, packed, unpacked}
use Rattle.packedwords.proofs.Packing.{packed-length, unpacked-packed, packed-packs}
use Rattle.table.specs.Table.{key_in, code_in, key_weight_in, letter_in, weight_in}
use Rattle.table.specs.Words.{Keys, Held, Sixfold, word_of}
use Rattle.table.proofs.WordSizes.{even-weight}

-- The codes of a word.
abbrev pub codes_in : List ℕ → Word → Word
codes_in t w = map (code_in t) w

-- The size of a word.
abbrev pub size_of : List ℕ → Word → ℕ
size_of t w = 256 * weight (key_weight_in t) w + length w

pub code-low : (t : List ℕ) (a : ℕ) → code_in t a < 32
code-low t a = mod-lt (key_in t a) (omega arith)

pub codes-low : (t : List ℕ) (w : Word) → Codes (codes_in t w)
codes-low t [] i = omega arith
codes-low t (a ∷ w) zero = code-low t a
codes-low t (a ∷ w) (suc i) = codes-low t w i

module _ (t : List ℕ) (keys : Keys t) where
  letters-back : (w : Word) → All (Letter 26) w → map (letter_in t) (codes_in t w) ≡ w
  letters-back [] done = refl
  letters-back (a ∷ w) (p also ps) = ap₂ ◌∷◌ (keys.keyed a p).letter (letters-back w ps)

  codes-weight : (w : Word) → All (Letter 26) w → weight (weight_in t) (codes_in t w) ≡ weight (key_weight_in t) w
  unfolding weight
  codes-weight [] done = refl
  codes-weight (a ∷ w) (p also ps) = ap₂ ◌+◌ (keys.keyed a p).weighed (codes-weight w ps)

  -- no letter has the code 0
  pub codes-nonzero : (w : Word) → All (Letter 26) w → Nonzero (codes_in t w)
  codes-nonzero [] done i h = absurd (omega arith)
  codes-nonzero (a ∷ w) (p also ps) zero h = (keys.keyed a p).some
  codes-nonzero (a ∷ w) (p also ps) (suc i) h = codes-nonzero w ps i (omega arith)

  -- each letter weighs 1
  letters-weight : (w : Word) → All (Letter 26) w → weight (key_weight_in t) w ≡ length w
  letters-weight w letters = sym (codes-weight w letters) ∙ even-weight t keys (codes_in t w) (codes-low t w) ∙ length-map w (code_in t)

  module _ (w : Word) (letters : All (Letter 26) w) (few : length w ≤ 72) where
    pub size_low : size_of t w < 4294967296
    size_low = omega (arith, letters-weight w letters)

    pub size-letters : size_of t w % 256 ≡ length w
    size-letters = omega arith

    size-weight : size_of t w / 256 ≡ weight (key_weight_in t) w
    size-weight = omega arith

    module _ (k : ℕ) (room : length w ≤ 12 * k) where
      code-count : length (codes_in t w) ≡ length w
      code-count = length-map w (code_in t)

      codes_fit : length (codes_in t w) ≤ 12 * k
      codes_fit = omega (arith, code-count)

      pub codes-back : unpacked (length w) (packed k (codes_in t w)) ≡ codes_in t w
      codes-back =
          ap (λ (n : ℕ). unpacked n (packed k (codes_in t w))) (sym code-count)
          ∙ unpacked-packed (codes_in t w) (codes-low t w) k codes_fit

      pub size-codes : unpacked (size_of t w % 256) (packed k (codes_in t w)) ≡ codes_in t w
      size-codes = ap (λ (n : ℕ). unpacked n (packed k (codes_in t w))) size-letters ∙ codes-back

      pub packed-word : word_of t (size_of t w) (packed k (codes_in t w)) ≡ w
      packed-word = ap (map (letter_in t)) size-codes ∙ letters-back w letters

      pub packed-held : Held t (size_of t w) (packed k (codes_in t w))
      packed-held = record {
        packs = rw (size-letters, ← code-count) (packed-packs (codes_in t w) (codes-low t w) k codes_fit);
        weighed = size-weight ∙ sym (codes-weight w letters) ∙ ap (weight (weight_in t)) (sym size-codes);
      }

-- The size of n letters of a text.
pub size-even : (t : List ℕ) → Keys t → (text : List ℕ) (from n : ℕ) → from + n ≤ length text → All (Letter 26) (take n (drop from text))
    → 257 * n ≡ 256 * weight (key_weight_in t) (take n (drop from text)) + n
size-even t keys text from n h letters = omega (arith, letters-weight t keys (take n (drop from text)) letters, part_length from n text h)

-- Blocks and size of a word of n letters in six blocks: what a caller may know of them.
pub six_known : (t : List ℕ) → Keys t → (w : Word) → All (Letter 26) w → (n z : ℕ) (bs : List ℕ) → length w ≡ n → n ≤ 72
    → z ≡ 256 * weight (key_weight_in t) w + n → bs ≡ packed 6 (codes_in t w)
    → ((z ≡ 256 * weight (key_weight_in t) w + n) × (z % 256 ≡ n) × (z < 4294967296))
    × ((bs ≡ packed 6 (codes_in t w)) × ((unpacked n bs ≡ codes_in t w) × (Sixfold t z bs × (word_of t z bs ≡ w))))
six_known t keys w letters n z bs size most weighs blocks =
    let few : length w ≤ 72 = omega arith in
    let room : length w ≤ 12 * 6 = omega arith in
    let is : z ≡ size_of t w = omega arith in
    let letters-of = size-letters t keys w letters few in
    let held : Held t z bs = rw (is, blocks) (packed-held t keys w letters few 6 room) in
    let word : word_of t z bs ≡ w = rw (is, blocks) (packed-word t keys w letters few 6 room) in
    let codes : unpacked n bs ≡ codes_in t w = ap₂ unpacked (sym size) blocks ∙ codes-back t keys w letters few 6 room in
    let sixfold : Sixfold t z bs = record { six = ap length blocks ∙ packed-length 6 (codes_in t w); short = omega arith; held = held } in
    ((weighs, omega arith, omega (arith, size_low t keys w letters few)), (blocks, (codes, (sixfold, word))))
