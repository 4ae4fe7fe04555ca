-- The letters of a part of a text, as numbers of five bits: one block of them, and the parts that the blocks of a word have.
use mathlib.Core.Path.{◌≡◌, sym, ◌∙◌, ap, ap₂}
use mathlib.Core.List.{List, map}
use Prim.Native.Nat.{ℕ, ◌+◌, ◌-◌, ◌*◌, ◌%◌, ◌^◌, ◌≤◌, ◌<◌, min}
use native.Mathlib.Nat.{add-zero, zero-add, lt_of_lt_of_le}
use native.Mathlib.Omega.{arith}
use lib.ListN.{length, get_or, take, drop, length-take, length-drop, length-map, get_or-eq_default}
use lib.Seq.{ext_get_or, take-take}
use lib.Pow.{pow_mono, shl_exact}
use Rattle.lists.proofs.Parts.{part_length}
use Rattle.lists.proofs.Maps.{map_at, map-take, map-drop}
use Rattle.words.specs.Word.{Word}
use Rattle.packedwords.specs.Packed.{Codes, value, window, front}
use Rattle.packedwords.proofs.Values.{after, value-add, value_same, value-zero, value-lt}
use Rattle.packedwords.proofs.Windows.{window-drop, window-end, window-take, window-whole}
use Rattle.lists.proofs.Entries.{part_at}

-- The letters of text from `at` on, each as f has it.
abbrev pub spelt : (ℕ → ℕ) → List ℕ → ℕ → ℕ → ℕ
spelt f text at j = f (get_or text (at + j) 0)

module _ (f : ℕ → ℕ) (low : (a : ℕ) → f a < 32) where
  -- i letters leave room for one more in 60 bits.
  pub spelt_room : (text : List ℕ) (at i : ℕ) → i < 12 → value (spelt f text at) i < 2 ^ 55
  spelt_room text at i h = lt_of_lt_of_le (value-lt (spelt f text at) (λ j. low (get_or text (at + j) 0)) i) (pow_mono {j = 55} (omega arith))

  module _ (text : List ℕ) (at r : ℕ) (h : at + r ≤ length text) (few : r ≤ 12) where
    abbrev part : Word
    part = map f (take r (drop at text))

    part-size : length part ≡ r
    part-size = length-map (take r (drop at text)) f ∙ part_length at r text h

    -- the letters of the part, and zeros behind them
    abbrev letter : ℕ → ℕ
    letter j = get_or part (0 + j) 0

    letters-part : value letter r ≡ value (spelt f text at) r
    letters-part =
        value_same letter (spelt f text at) r
        (λ j l.
        ap (λ (k : ℕ). get_or part k 0) (zero-add j) ∙ map_at f (take r (drop at text)) j (omega (arith, part_length at r text h))
        ∙ ap f (part_at text at r j l))

    zeros-behind : value (after r letter) (12 - r) ≡ 0
    zeros-behind =
        value-zero (after r letter) (12 - r) (λ j l. let o : length part ≤ 0 + (r + j) = omega (arith, part-size) in get_or-eq_default part 0 o)

    -- r letters, moved up to the front of a block
    pub block_of_part : value (spelt f text at) r * 2 ^ (60 - 5 * r) % 2 ^ 64 ≡ window part 0
    block_of_part =
        let x = value (spelt f text at) r in
        let up = 2 ^ (60 - 5 * r) in
        let moved : 5 * (12 - r) ≡ 60 - 5 * r = omega arith in
        let whole : r + (12 - r) ≡ 12 = omega arith in
        shl_exact (5 * r) (60 - 5 * r) 64 (value-lt (spelt f text at) (λ j. low (get_or text (at + j) 0)) r) (omega arith)
        ∙ sym (rw (whole, moved) at (value-add letter r (12 - r)) ∙ ap₂ (λ (y z : ℕ). y * up + z) letters-part zeros-behind ∙ add-zero (x * up))

-- No letters are the block 0.
pub block_of_none : (f : ℕ → ℕ) (text : List ℕ) (at r : ℕ) → at + r ≤ length text → r ≡ 0 → 0 ≡ window (map f (take r (drop at text))) 0
block_of_none f text at r h e =
    sym (window-end (map f (take r (drop at text))) 0 (omega (arith, length-map (take r (drop at text)) f, part_length at r text h)))

-- Of the block of twelve letters the first r are the block of these r.
pub block_of_front : (f : ℕ → ℕ) (text : List ℕ) (at r : ℕ) → Codes (map f (take 12 (drop at text))) → r ≤ 12
    → front (window (map f (take 12 (drop at text))) 0) r ≡ window (map f (take r (drop at text))) 0
block_of_front f text at r codes few =
    let w = map f (take 12 (drop at text)) in
    let all : r ≡ r - 0 = omega arith in
    ap (front (window w 0)) all ∙ sym (window-take r w 0 codes)
    ∙ ap (λ (v : Word). window v 0) (sym (map-take f r (take 12 (drop at text))) ∙ ap (map f) (take-take r 12 (drop at text) few))

-- The block of a word from place k on is that of the twelve letters there.
block_of_word : (f : ℕ → ℕ) (w : Word) (k : ℕ) → window (map f (take 12 (drop k w))) 0 ≡ window (map f w) k
block_of_word f w k =
    ap (λ (v : Word). window v 0) (map-take f 12 (drop k w) ∙ ap (take 12) (map-drop f k w))
    ∙ window-whole 12 (drop k (map f w)) 0 (omega arith) ∙ window-drop k (map f w) 0 ∙ ap (window (map f w)) (add-zero k)

ends : (n k i r : ℕ) → i ≡ min k n → r ≡ min (n - i) 12 → min 12 (n - k) ≡ r
ends n k i r d e = omega arith

-- The twelve letters of a word from place k on, and fewer where it ends, are r letters of the text.
part_of_word : (text : List ℕ) (from n k i r : ℕ) → from + n ≤ length text → i ≡ min k n → r ≡ min (n - i) 12
    → take r (drop (from + i) text) ≡ take 12 (drop k (take n (drop from text)))
part_of_word text from n k i r h d e =
    let w = take n (drop from text) in
    let size = part_length from n text h in
    let left : length (take r (drop (from + i) text)) ≡ r = part_length (from + i) r text (omega arith) in
    let behind : length (drop k w) ≡ n - k = length-drop k w ∙ ap (λ (x : ℕ). x - k) size in
    let right : length (take 12 (drop k w)) ≡ r = length-take 12 (drop k w) ∙ ap (min 12) behind ∙ ends n k i r d e in
    ext_get_or 0 (take r (drop (from + i) text)) (take 12 (drop k w)) (left ∙ sym right)
    (λ j l.
    let short : j < r = omega (arith, left) in
    part_at text (from + i) r j short ∙ ap (λ (x : ℕ). get_or text x 0) (omega arith)
    ∙ sym (part_at w k 12 j (omega arith) ∙ part_at text from n (k + j) (omega arith)))

-- So the block of these letters is the word's block from place k on.
pub block_of_text : (f : ℕ → ℕ) (text : List ℕ) (from n k i r : ℕ) → from + n ≤ length text → i ≡ min k n → r ≡ min (n - i) 12
    → window (map f (take r (drop (from + i) text))) 0 ≡ window (map f (take n (drop from text))) k
block_of_text f text from n k i r h d e =
    ap (λ (v : Word). window (map f v) 0) (part_of_word text from n k i r h d e) ∙ block_of_word f (take n (drop from text)) k
