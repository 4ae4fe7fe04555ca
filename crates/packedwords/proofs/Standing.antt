-- A word stands at a place of another exactly where its blocks are those of as many letters there.
use mathlib.Core.Path.{◌≡◌, sym, ◌∙◌, ap}
use mathlib.Core.Bool.{true, false}
use mathlib.Core.Logic.{◌↔◌}
use mathlib.Core.List.{List, ◌++◌}
use Prim.Native.Nat.{ℕ, ◌+◌, ◌-◌, ◌*◌, ◌≤◌, ◌<◌}
use native.Mathlib.Decide.{dec_lt}
use native.Mathlib.Omega.{arith}
use lib.ListN.{length, get_or, take, drop, length-take, take-append-drop}
use lib.Seq.{take-append_seam, drop-append_seam, length-take-le}
use Rattle.lists.proofs.Bools.{not_true}
use Rattle.lists.proofs.Parts.{part_length}
use Rattle.words.specs.Word.{Word}
use Rattle.words.specs.Place.{Stands, stands_at}
use Rattle.words.proofs.Standing.{stands_iff}
use Rattle.packedwords.specs.Packed.{Codes, window, packed, window_of, front, unpacked, Packs}
use Rattle.packedwords.proofs.Packing.{packed_injective, packed_unique, unpacked-length, unpacked-codes}
use Rattle.packedwords.proofs.Windows.{window-take, window-end}
use Rattle.packedwords.proofs.Blocks.{packs_any}
use Rattle.packedwords.proofs.Parts.{codes-drop, codes-take, right-block}

-- As many letters of w as b has, from place i on.
abbrev pub letters_at : Word → Word → ℕ → Word
letters_at b w i = take (length b) (drop i w)

pub stands_iff_letters : (b w : Word) (i : ℕ) → i ≤ length w → (stands_at b w i ≡ true) ↔ (letters_at b w i ≡ b)
stands_iff_letters b w i h = (λ e. same ((stands_iff b w i).0 e), λ e. (stands_iff b w i).1 (placed e))
  where
    same : Stands b w i → letters_at b w i ≡ b
    same s =
        rw (← s.fits, ← s.place, drop-append_seam s.left (b ++ s.right)) (take-append_seam b s.right)

    placed : letters_at b w i ≡ b → Stands b w i
    placed e = record {
      left = take i w;
      right = drop (length b) (drop i w);
      place = length-take-le i w h;
      fits = ap (λ (x : Word). take i w ++ (x ++ drop (length b) (drop i w))) (sym e)
          ∙ ap (λ (x : Word). take i w ++ x) (take-append-drop (length b) (drop i w))
          ∙ take-append-drop i w;
    }

pub stands_iff_blocks : (k : ℕ) (b w : Word) (i : ℕ) → Codes b → Codes (letters_at b w i) → length b ≤ 12 * k → i + length b ≤ length w
    → (stands_at b w i ≡ true) ↔ (packed k (letters_at b w i) ≡ packed k b)
stands_iff_blocks k b w i c d f h =
    let s = stands_iff_letters b w i (omega arith) in
    let l = part_length i (length b) w h in
    (λ e. ap (packed k) (s.0 e), λ e. s.1 (packed_injective k (letters_at b w i) b d c l (omega arith) e))

-- The same block by block: B packs b, of n letters, and W packs w, of m letters.
module _ (B W : List ℕ) (n m : ℕ) (hB : Packs n B) (hW : Packs m W) (i : ℕ) where
  abbrev b : Word
  b = unpacked n B

  abbrev w : Word
  w = unpacked m W

  abbrev letters : Word
  letters = take n (drop i w)

  -- Block j of those letters, from k = 12 * j letters behind i on.
  pub letters-block : (j k x y : ℕ) → k ≡ 12 * j → y ≡ window_of W (i + k) → x ≡ front y (n - k) → x ≡ window letters (12 * j)
  letters-block j k x y e p q =
      q
      ∙ ap (λ (z : ℕ). front z (n - k)) (p ∙ right-block m W hW i k)
      ∙ sym (window-take n (drop i w) k (codes-drop i w (unpacked-codes m W)))
      ∙ ap (window letters) e

  here : letters_at b w i ≡ letters
  here = ap (λ (x : ℕ). take x (drop i w)) (unpacked-length n B)

  -- one block that differs
  pub stands-differs : i ≤ m → (j : ℕ) → (window letters (12 * j) ≡ get_or B j 0 → ⊥) → stands_at b w i ≡ false
  stands-differs l j d =
      not_true (stands_at b w i) (λ e.
      let s : letters ≡ b = sym here ∙ (stands_iff_letters b w i (omega (arith, unpacked-length m W))).0 e in
      d (ap (λ (x : Word). window x (12 * j)) s ∙ sym (packs_any n B hB j)))

  -- as many blocks that agree as b has
  pub stands_agrees : i + n ≤ m → (j : ℕ) → n ≤ 12 * j → ((t : ℕ) → t < j → window letters (12 * t) ≡ get_or B t 0) → stands_at b w i ≡ true
  stands_agrees l j e h =
      let f = hB.fits in
      let c = codes-take n (drop i w) (codes-drop i w (unpacked-codes m W)) in
      let a = unpacked-length n B in
      let z = unpacked-length m W in
      (stands_iff_blocks (length B) b w i (unpacked-codes n B) (rw here c) (omega arith) (omega arith)).1
      (ap (packed (length B)) here ∙ sym (packed_unique B letters entry) ∙ sym hB.clean)
    where
      entry : (t : ℕ) → t < length B → get_or B t 0 ≡ window letters (12 * t)
      entry t p = go (dec_lt t j)
        where
          go : Dec (t < j) → get_or B t 0 ≡ window letters (12 * t)
          go (yes q) = sym (h t q)
          go (no q) =
              packs_any n B hB t ∙ window-end b (12 * t) (omega (arith, unpacked-length n B))
              ∙ sym (window-end letters (12 * t) (omega (arith, length-take n (drop i w))))
