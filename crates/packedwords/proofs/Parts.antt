-- Parts of a packed word: its left and its right part, block by block, and blocks in a row out of its blocks.
use mathlib.Core.Path.{◌≡◌, sym, ◌∙◌, ap}
use mathlib.Core.List.{List}
use Prim.Native.Nat.{ℕ, ◌+◌, ◌-◌, ◌*◌, ◌≤◌, ◌<◌}
use native.Mathlib.Decide.{dec_lt}
use native.Mathlib.Omega.{arith}
use lib.ListN.{length, get_or, take, drop, length-take, get_or-eq_default}
use lib.Seq.{get_or-take, get_or-drop}
use Rattle.lists.proofs.Parts.{part_length}
use Rattle.words.specs.Word.{Word}
use Rattle.packedwords.specs.Packed.{Codes, window, window_of, front, unpacked, Packs}
use Rattle.packedwords.proofs.Packing.{unpacked-codes, packs_of}
use Rattle.packedwords.proofs.Windows.{window-drop, window-take, window-whole}
use Rattle.packedwords.proofs.Blocks.{packs_any, packs-window}

pub codes-drop : (n : ℕ) (w : Word) → Codes w → Codes (drop n w)
codes-drop n w c i = rw (get_or-drop n w i 0) (c (n + i))

pub codes-take : (n : ℕ) (w : Word) → Codes w → Codes (take n w)
codes-take n w c i = go (dec_lt i n)
  where
    go : Dec (i < n) → get_or (take n w) i 0 < 32
    go (yes h) = rw (get_or-take n w i 0 h) (c i)
    go (no h) =
        let end : length (take n w) ≤ i = omega (arith, length-take n w) in
        rw (get_or-eq_default (take n w) 0 end) (omega arith)

module _ (n : ℕ) (bs : List ℕ) (h : Packs n bs) where
  abbrev w : Word
  w = unpacked n bs

  -- Block j of the left part of i letters: block j of the word, with the letters that are left of i there.
  pub left-block : (i j : ℕ) → front (get_or bs j 0) (i - 12 * j) ≡ window (take i w) (12 * j)
  left-block i j =
      ap (λ (x : ℕ). front x (i - 12 * j)) (packs_any n bs h j) ∙ sym (window-take i w (12 * j) (unpacked-codes n bs))

  -- The block from k on of the right part from place i on.
  pub right-block : (i k : ℕ) → window_of bs (i + k) ≡ window (drop i w) k
  right-block i k = packs-window n bs h (i + k) ∙ sym (window-drop i w k)

  -- The k blocks from block j on pack the letters that stand in them, as many as there are.
  pub packs-part : (j k r : ℕ) → j + k ≤ length bs → length (take (12 * k) (drop (12 * j) w)) ≡ r
      → Packs r (take k (drop j bs)) × (unpacked r (take k (drop j bs)) ≡ take (12 * k) (drop (12 * j) w))
  packs-part j k r l e =
      let size = part_length j k bs l in
      packs_of (take k (drop j bs)) (take (12 * k) (drop (12 * j) w)) r
      (codes-take (12 * k) (drop (12 * j) w) (codes-drop (12 * j) w (unpacked-codes n bs))) e
      (omega (arith, length-take (12 * k) (drop (12 * j) w))) entry
    where
      entry : (t : ℕ) → t < length (take k (drop j bs)) → get_or (take k (drop j bs)) t 0 ≡ window (take (12 * k) (drop (12 * j) w)) (12 * t)
      entry t a =
          let inside : t < k = omega (arith, part_length j k bs l) in
          let place : 12 * (j + t) ≡ 12 * j + 12 * t = omega arith in
          get_or-take k (drop j bs) t 0 inside ∙ get_or-drop j bs t 0 ∙ packs_any n bs h (j + t) ∙ ap (window w) place
          ∙ sym (window-whole (12 * k) (drop (12 * j) w) (12 * t) (omega arith) ∙ window-drop (12 * j) w (12 * t))
