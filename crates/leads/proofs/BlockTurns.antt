-- The two numbers of `spot_in_block`, place after place, and what is found behind the last letter.
use mathlib.Core.Path.{◌≡◌, sym, ◌∙◌, ap, ap₂}
use mathlib.Core.List.{List}
use Prim.Native.Nat.{ℕ, ◌+◌, ◌-◌, ◌*◌, ◌/◌, ◌%◌, ◌^◌, ◌≤◌, ◌<◌}
use native.Mathlib.Nat.{add-zero, add-mul-mod_self_right, mod-eq_of_lt}
use native.Mathlib.Omega.{arith}
use lib.ListN.{length, get_or, drop, drop_of_length-le}
use Rattle.words.specs.Word.{Word}
use Rattle.packedwords.specs.Packed.{Codes, window, window_of, unpacked, Packs}
use Rattle.packedwords.proofs.Packing.{unpacked-codes, unpacked-length}
use Rattle.packedwords.proofs.Windows.{window-lt, window-next, window-drop}
use Rattle.packedwords.proofs.Blocks.{packs_any, packs-blocks, packs-window}
use Rattle.packedwords.proofs.Parts.{codes-drop}
use Rattle.leads.specs.CodeIndex.{CodeIndexed}
use Rattle.leads.specs.CodeSearch.{Windowed, Fronted}
use Rattle.leads.specs.SpotOfWords.{BegunBy}
use Rattle.leads.proofs.CodeSieve.{codes-empty}
use Rattle.leads.proofs.Sliding.{block_from, block_start, block-front, block-next}

-- Before the turn of place i of block j: x has the letters from i on, and y those of the block behind that x has not.
pub record InBlock (w : Word) (j i x y : ℕ) : Type 0 where
  pub here : x ≡ window w i
  pub behind : y ≡ window (block_from w (12 * j + 12)) (i - 12 * j)

-- A block moved up by four bits, and what is moved back from it.
pub record Moved (x : ℕ) : Type 0 where
  pub whole : x % 16 ≡ 0
  pub low : x / 16 < 2 ^ 60

-- its first letter, and its second
pub moved_first : (x : ℕ) → x / 16 / 2 ^ 55 ≡ x / 2 ^ 59
moved_first x = omega arith

pub moved_second : (x : ℕ) → x / 16 / 2 ^ 50 % 32 ≡ x / 2 ^ 54 % 32
moved_second x = omega arith

-- the first letter leaves 64 bits
pub moved_out : (x : ℕ) → x % 16 ≡ 0 → x * 2 ^ 5 % 2 ^ 64 ≡ 16 * (x / 16 * 2 ^ 5 % 2 ^ 60)
moved_out x h =
    let a = x / 16 * 2 ^ 5 in
    let r = a % 2 ^ 60 in
    let k = a / 2 ^ 60 in
    let split : x * 2 ^ 5 ≡ 16 * r + k * 2 ^ 64 = omega arith in
    ap (λ (v : ℕ). v % 2 ^ 64) split ∙ add-mul-mod_self_right (16 * r) k (2 ^ 64) ∙ mod-eq_of_lt (omega arith)

pub moved_back : (x k : ℕ) → x ≡ 16 * k → x / 16 ≡ k
moved_back x k e = omega arith

pub moved_up : (x k : ℕ) → k < 2 ^ 60 → x ≡ 16 * k → Moved x
moved_up x k h e = record { whole = omega arith; low = omega arith }

-- a letter more keeps within a block's bits
pub next-lt : (x y : ℕ) → y < 2 ^ 60 → x * 2 ^ 5 % 2 ^ 60 + y / 2 ^ 55 < 2 ^ 60
next-lt x y h = omega arith

module _ (n : ℕ) (bs : List ℕ) (h : Packs n bs) where
  abbrev w : Word
  w = unpacked n bs

  codes : Codes w
  codes = unpacked-codes n bs

  pub packs_windowed : Windowed bs
  packs_windowed = record {
    blocks = packs-blocks n bs h;
    windows = λ i. rw (packs-window n bs h i) (window-lt w codes i);
  }

  -- behind the last letter
  pub end_begun : {ls : List Word} {t : List ℕ} → CodeIndexed ls t → BegunBy ls (drop n w) (get_or t 0 0)
  end_begun i =
      let l : length w ≤ n = omega (arith, unpacked-length n bs) in
      rw (drop_of_length-le w l) (codes-empty i)

  pub block-starts : (j : ℕ) {y : ℕ} → y ≡ get_or bs (j + 1) 0 → InBlock w j (12 * j) (get_or bs j 0) y
  block-starts j e =
      let next : 12 * (j + 1) ≡ 12 * j + 12 = omega arith in
      let none : 0 ≡ 12 * j - 12 * j = omega arith in
      record {
        here = packs_any n bs h j;
        behind = e ∙ packs_any n bs h (j + 1) ∙ ap (window w) next ∙ block_start w codes (12 * j + 12) ∙ ap (window (block_from w (12 * j + 12))) none;
      }

  -- the letters from place i on, for the search there
  pub block_fronted : (i x : ℕ) → x ≡ window w i → Fronted (drop i w) x (window_of bs (i + 12))
  block_fronted i x e = record {
    codes = codes-drop i w codes;
    first = window-drop i w 0 ∙ ap (window w) (add-zero i) ∙ sym e;
    second = window-drop i w 12 ∙ sym (packs-window n bs h (i + 12));
  }

  pub block_moves : (j i : ℕ) {x y x' y' : ℕ} → InBlock w j i x y → 12 * j ≤ i → i < 12 * j + 12
      → x' ≡ x * 2 ^ 5 % 2 ^ 60 + y / 2 ^ 55 → y' ≡ y * 2 ^ 5 % 2 ^ 60 → InBlock w j (i + 1) x' y'
  block_moves j i {x} {y} s p q e f =
      let a = 12 * j + 12 in
      let r = i - 12 * j in
      let place : a + r ≡ i + 12 = omega arith in
      let next : r + 1 ≡ i + 1 - 12 * j = omega arith in
      let front = ap (λ (z : ℕ). z / 2 ^ 55) s.behind ∙ block-front w codes a r (omega arith) in
      let letter : y / 2 ^ 55 ≡ get_or w (i + 12) 0 = front ∙ ap (λ (z : ℕ). get_or w z 0) place in
      record {
        here = e ∙ ap₂ (λ (u v : ℕ). u * 2 ^ 5 % 2 ^ 60 + v) s.here letter ∙ sym (window-next w codes i);
        behind = f ∙ ap (λ (z : ℕ). z * 2 ^ 5 % 2 ^ 60) s.behind ∙ sym (block-next w codes a r) ∙ ap (window (block_from w a)) next;
      }
