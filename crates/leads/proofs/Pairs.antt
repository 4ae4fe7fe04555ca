-- Laws of the pairs that a word may open: of a word of no letters all, of one letter all with it, of more letters one.
use mathlib.Core.Path.{◌≡◌, sym, ap, ◌∙◌}
use mathlib.Core.List.{List, ◌++◌}
use Prim.Native.Nat.{ℕ, ◌+◌, ◌-◌, ◌^◌, ◌≤◌, ◌<◌}
use native.Mathlib.Decide.{ℕ_discrete}
use native.Mathlib.Omega.{arith}
use lib.ListN.{length, get_or, set, take, drop, length-set, length-drop}
use lib.Seq.{get_or-set_same, get_or-set_other}
use lib.Bits.{bit_or}
use borrow.Rule.Slice.PartMut.{put_mid, mid_of, post_of, same_len_mid}
use Rattle.std.proofs.lemmas.List.{get_or_append_left, get_or-append_right, get_or-take, length-take-le}
use Rattle.words.specs.Word.{Word}
use Rattle.packedwords.specs.Packed.{letter_of, unpacked}
use Rattle.packedwords.proofs.Packing.{unpacked-length, unpacked_at}
use Rattle.leads.specs.Masks.{bit, with_mark}
use Rattle.leads.specs.CodeIndex.{index_size, HasPair, Opens, PairsDone}
use Rattle.leads.proofs.Bits.{bit-all}
use Rattle.leads.proofs.OneMark.{at_other, mark-new, mark-kept}

-- a mask of 32 bits
full : (d m : ℕ) → d < 32 → m ≡ 4294967295 → bit m d ≡ 1
full d m h e = rw e (bit-all 32 d h)

-- 32 full masks behind the first 800 mark all pairs
pub pairs_all : (t s : List ℕ) → length t ≡ index_size → length s ≡ length (mid_of 800 32 t) → ((k : ℕ) → k < length (mid_of 800 32 t) → get_or s k 0 ≡ 4294967295)
    → (b : Word) → PairsDone b t (put_mid 800 32 t s)
pairs_all t s r l f b = record {
  room = same_len_mid 800 32 t s l;
  rows = rows;
  kept = λ c d h q p. full d _ q (marked c h);
  opens = λ c d h q o. full d _ q (marked c h);
}
  where
    front : length (take 800 t) ≡ 800
    front = length-take-le 800 t (omega arith)

    size : length (mid_of 800 32 t) ≡ 32
    size = length-take-le 32 (drop 800 t) (omega (arith, length-drop 800 t))

    rows : (i : ℕ) → i < 800 → get_or (put_mid 800 32 t s) i 0 ≡ get_or t i 0
    rows i h = get_or_append_left (take 800 t) (s ++ post_of 800 32 t) 0 i (omega (arith, front)) ∙ get_or-take 800 t i 0 h

    marked : (c : ℕ) → c < 32 → get_or (put_mid 800 32 t s) (800 + c) 0 ≡ 4294967295
    marked c h =
        let e : 800 + c - 800 ≡ c = omega arith in
        get_or-append_right (take 800 t) (s ++ post_of 800 32 t) 800 (800 + c) 0 front (omega arith)
        ∙ ap (λ (i : ℕ). get_or (s ++ post_of 800 32 t) i 0) e
        ∙ get_or_append_left s (post_of 800 32 t) 0 c (omega (arith, l, size)) ∙ f c (omega (arith, size))

module _ (t bs : List ℕ) (n : ℕ) {c : ℕ} (r : length t ≡ index_size) (e : c ≡ letter_of bs 0) (low : c < 32) where
  inside : 800 + c < length t
  inside = omega arith

  -- the first code of a word that is unpacked
  first_code : 0 < n → (j d : ℕ) → Opens (unpacked n bs) j d → j ≡ c
  first_code h j d o = let l = unpacked-length n bs in sym (o.first (omega arith)) ∙ unpacked_at n bs 0 h ∙ sym e

  -- one letter
  pub pairs_one : n ≡ 1 → PairsDone (unpacked n bs) t (set t (800 + c) 4294967295)
  pairs_one one = record {
    room = length-set t (800 + c) 4294967295;
    rows = λ i l. get_or-set_other t (800 + c) i 4294967295 0 (λ f. omega arith);
    kept = λ j d h l p. kept j d l p (ℕ_discrete j c);
    opens = λ j d h l o. marked j d l (first_code (omega arith) j d o);
  }
    where
      marked : (j d : ℕ) → d < 32 → j ≡ c → HasPair (set t (800 + c) 4294967295) j d
      marked j d l f = rw f (full d _ l (get_or-set_same t (800 + c) 4294967295 0 inside))

      kept : (j d : ℕ) → d < 32 → HasPair t j d → Dec (j ≡ c) → HasPair (set t (800 + c) 4294967295) j d
      kept j d l p (yes f) = marked j d l f
      kept j d l p (no f) = rw (get_or-set_other t (800 + c) (800 + j) 4294967295 0 (λ q. f (omega arith))) p

  -- two letters or more
  pub pairs_two : {d : ℕ} → 2 ≤ n → d ≡ letter_of bs 1 → PairsDone (unpacked n bs) t (with_mark t (800 + c) d)
  pairs_two {d} h f = record {
    room = length-set t (800 + c) (bit_or (get_or t (800 + c) 0) (2 ^ d));
    rows = λ i l. at_other t (800 + c) d inside i (λ q. omega arith);
    kept = λ j k p q m. mark-kept t (800 + c) d inside (800 + j) k m;
    opens = λ j k p q o.
        let l = unpacked-length n bs in
        let x : j ≡ c = first_code (omega arith) j k o in
        let y : k ≡ d = sym (o.second (omega arith)) ∙ unpacked_at n bs 1 (omega arith) ∙ sym f in
        rw y (mark-new t (800 + c) d inside (800 + j) (omega arith));
  }
