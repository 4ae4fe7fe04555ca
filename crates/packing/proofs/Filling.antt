-- Six blocks filled from the front with those of a word: when its letters are used up, they pack it.
use mathlib.Core.Path.{◌≡◌, sym, ◌∙◌, ap}
use mathlib.Core.List.{List}
use Prim.Native.Nat.{ℕ, ◌+◌, ◌*◌, ◌≤◌, ◌<◌}
use native.Mathlib.Decide.{dec_lt}
use native.Mathlib.Omega.{arith}
use lib.ListN.{length, get_or, set, replicate, length-set}
use lib.Seq.{get_or-set_same, get_or-set_other}
use Rattle.words.specs.Word.{Word}
use Rattle.packedwords.specs.Packed.{Codes, window, packed, unpacked, Packs}
use Rattle.packedwords.proofs.Packing.{packed_unique, packs_of}
use Rattle.packedwords.proofs.Windows.{window-end}
use Rattle.lists.proofs.Entries.{zeros_at, below_next}

-- The first j of six blocks are those of w.
pub record FirstBlocks (w : Word) (j : ℕ) (E : List ℕ) : Type 0 where
  pub size : length E ≡ 6
  pub blocks : (t : ℕ) → t < j → get_or E t 0 ≡ window w (12 * t)

pub first-none : (w : Word) (E : List ℕ) → length E ≡ 6 → FirstBlocks w 0 E
first-none w E e = record { size = e; blocks = λ t h. absurd (omega arith) }

pub first_more : (w : Word) (j x : ℕ) (E : List ℕ) → FirstBlocks w j E → j < 6 → x ≡ window w (12 * j) → FirstBlocks w (j + 1) (set E j x)
first_more w j x E f h e =
    let z = f.size in
    record {
      size = length-set E j x ∙ f.size;
      blocks = below_next (λ (t : ℕ). get_or (set E j x) t 0 ≡ window w (12 * t)) j
          (λ t l. get_or-set_other E j t x 0 (λ q. omega arith) ∙ f.blocks t l) (get_or-set_same E j x 0 (omega arith) ∙ e);
    }

-- All six: then they are the word packed.
pub first-packed : (w : Word) (j : ℕ) (E : List ℕ) → FirstBlocks w j E → j ≡ 6 → E ≡ packed 6 w
first-packed w j E f e =
    let z = f.size in
    packed_unique E w (λ t h. f.blocks t (omega arith)) ∙ ap (λ (k : ℕ). packed k w) z

-- The first j blocks are those of w, and the others are 0.
pub record Filled (w : Word) (j : ℕ) (E : List ℕ) : Type 0 where
  pub first : FirstBlocks w j E
  pub empty : (t : ℕ) → j ≤ t → get_or E t 0 ≡ 0

pub filled_none : (w : Word) (E : List ℕ) → E ≡ replicate 6 0 → Filled w 0 E
filled_none w E e = record { first = first-none w E (ap length e); empty = λ t h. ap (λ (x : List ℕ). get_or x t 0) e ∙ zeros_at 6 t }

pub filled_more : (w : Word) (j x : ℕ) (E : List ℕ) → Filled w j E → j < 6 → x ≡ window w (12 * j) → Filled w (j + 1) (set E j x)
filled_more w j x E f h e = record {
  first = first_more w j x E f.first h e;
  empty = λ t l. get_or-set_other E j t x 0 (λ q. omega arith) ∙ f.empty t (omega arith);
}

pub filled_packs : (w : Word) (j n : ℕ) (E : List ℕ) → Filled w j E → Codes w → length w ≡ n → n ≤ 72 → n ≤ 12 * j
    → Packs n E × (unpacked n E ≡ w)
filled_packs w j n E f c e room end = let z = f.first.size in packs_of E w n c e (omega arith) entry
  where
    entry : (t : ℕ) → t < length E → get_or E t 0 ≡ window w (12 * t)
    entry t l = go (dec_lt t j)
      where
        go : Dec (t < j) → get_or E t 0 ≡ window w (12 * t)
        go (yes p) = f.first.blocks t p
        go (no p) = f.empty t (omega arith) ∙ sym (window-end w (12 * t) (omega arith))

-- Two blocks do it for a word of at most 24 letters.
pub two_filled : (w : Word) (n x y : ℕ) (D : List ℕ) → D ≡ replicate 6 0 → Codes w → length w ≡ n → n ≤ 24 → x ≡ window w 0 → y ≡ window w 12
    → (length (set (set D 0 x) 1 y) ≡ 6) × Packs n (set (set D 0 x) 1 y) × (unpacked n (set (set D 0 x) 1 y) ≡ w)
two_filled w n x y D d c e short first second =
    let f : Filled w 2 (set (set D 0 x) 1 y) = filled_more w 1 y _ (filled_more w 0 x D (filled_none w D d) (omega arith) first) (omega arith) second in
    let p = filled_packs w 2 n (set (set D 0 x) 1 y) f c e (omega arith) (omega arith) in
    (f.first.size, p.0, p.1)
