-- Blocks stored one after the other, as one list.
use mathlib.Core.Path.{◌≡◌, sym, ◌∙◌, ap, ap₂, subst}
use mathlib.Core.List.{List, ◌++◌, append-nil}
use Prim.Native.Nat.{ℕ, suc, ◌+◌, ◌≤◌, ◌<◌}
use native.Mathlib.Nat.{add-zero, zero-add}
use native.Mathlib.Numerals.{add-one}
use native.Mathlib.Omega.{arith}
use lib.ListN.{length, get_or, take, drop, set, replicate, length-append, take-append-drop, drop_of_length-le}
use lib.Seq.{sets, sets-eq, drop-cons, take_all, take_at, drop_at}
use Rattle.lists.proofs.Stores.{sets_append}
use Rattle.packedwords.specs.Packed.{unpacked, Packs}
use Rattle.packedwords.proofs.Blocks.{packs_widen}

-- Stores over a whole list leave nothing of it.
pub sets_whole : (l vs : List ℕ) → length l ≡ length vs → sets l 0 vs ≡ vs
sets_whole l vs e =
    let end : length l ≤ 0 + length vs = omega arith in
    sets-eq vs l 0 (omega arith) ∙ ap (λ (r : List ℕ). vs ++ r) (drop_of_length-le l end) ∙ append-nil vs

module _ (src : List ℕ) (at : ℕ) (h : 6 ≤ length src) where
  -- entry j is stored, and n more are left
  stored-first : (d : List ℕ) (j n : ℕ) → j < 6
      → sets d (at + j) (take (suc n) (drop j src)) ≡ sets (set d (at + j) (get_or src j 0)) (at + (j + 1)) (take n (drop (j + 1) src))
  stored-first d j n l =
      let e : at + (j + 1) ≡ suc (at + j) = omega arith in
      rw (drop-cons src j 0 (omega arith), e, add-one j)

  pub six-stored : (d : List ℕ)
      → set (set (set
      (set (set (set d at (get_or src 0 0)) (at + 1) (get_or src 1 0)) (at + 2) (get_or src 2 0))
      (at + 3) (get_or src 3 0)) (at + 4) (get_or src 4 0)) (at + 5) (get_or src 5 0)
      ≡ sets d at (take 6 src)
  six-stored d =
      sym (rw (add-zero at) at (stored-first d 0 5 (omega arith)
      ∙ stored-first _ 1 4 (omega arith)
      ∙ stored-first _ 2 3 (omega arith)
      ∙ stored-first _ 3 2 (omega arith)
      ∙ stored-first _ 4 1 (omega arith)
      ∙ stored-first _ 5 0 (omega arith)))

-- Six entries and three zeros, over nine.
pub begin-stored : (D S E : List ℕ) → length D ≡ 9 → length S ≡ 6 → E ≡ sets D 0 (take 6 S)
    → (length (sets E 6 (replicate 3 0)) ≡ 9) × (take 6 (sets E 6 (replicate 3 0)) ≡ S) × (drop 6 (sets E 6 (replicate 3 0)) ≡ replicate 3 0)
begin-stored D S E nine six e =
    let zeros : List ℕ = replicate 3 0 in
    let size : length (S ++ zeros) ≡ 9 = omega (arith, length-append S zeros) in
    let whole : take 6 S ≡ S = take_all 6 S (omega arith) in
    let joined : sets E 6 zeros ≡ S ++ zeros =
    ap₂ (λ (x : List ℕ) (i : ℕ). sets x i zeros) (e ∙ ap (sets D 0) whole) (sym six ∙ sym (zero-add (length S)))
    ∙ sets_append D 0 S zeros
    ∙ sets_whole D (S ++ zeros) (nine ∙ sym size) in
    (ap length joined ∙ size, ap (take 6) joined ∙ take_at S zeros 6 six, ap (drop 6) joined ∙ drop_at S zeros 6 six)

-- They pack what the six pack.
module _ (E S : List ℕ) (e : take 6 E ≡ S) (f : drop 6 E ≡ replicate 3 0) where
  joined : S ++ replicate 3 0 ≡ E
  joined = ap₂ (λ (x y : List ℕ). x ++ y) (sym e) (sym f) ∙ take-append-drop 6 E

  pub begun_packs : (n : ℕ) → Packs n S → Packs n E
  begun_packs n h = subst (Packs n) joined (packs_widen n S h 3).0

  pub begun_word : (n : ℕ) → Packs n S → unpacked n E ≡ unpacked n S
  begun_word n h = ap (unpacked n) (sym joined) ∙ (packs_widen n S h 3).1
