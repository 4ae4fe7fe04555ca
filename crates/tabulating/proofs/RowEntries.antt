-- The rows of terms, entry by entry.
use mathlib.Core.Path.{◌≡◌, ◌∙◌, ap}
use mathlib.Core.List.{List, map}
use Prim.Native.Nat.{ℕ, ◌+◌, ◌*◌, ◌/◌, ◌%◌, ◌≤◌, ◌<◌}
use native.Mathlib.Omega.{arith}
use lib.ListN.{length, get_or, set}
use Rattle.words.specs.Word.{Word}
use Rattle.words.specs.Laid.{laid_word}
use Rattle.words.specs.Weighted.{weight}
use Rattle.packedwords.specs.Packed.{packed}
use Rattle.packedwords.proofs.Packing.{packed_at}
use Rattle.table.specs.Table.{key_in}
use Rattle.tabulating.specs.Filled.{Filled}
use Rattle.tabulating.specs.Rows.{row_of, row_entry}
use Rattle.tabulating.proofs.KeptKeys.{key_kept}
use Rattle.tabulating.proofs.Stores.{filled_three, filled_append}

-- Entry k of row i is entry 3 i + k of the rows.
pub row_entry_lem : (key : ℕ → ℕ) (coefs starts lens bytes : List ℕ) (i k : ℕ) → k < 3
    → get_or (row_of key (get_or coefs i 0) (laid_word starts lens bytes i)) k 0 ≡ row_entry key coefs starts lens bytes (3 * i + k)
row_entry_lem key coefs starts lens bytes i k h =
    let row : (3 * i + k) / 3 ≡ i = omega arith in
    let place : (3 * i + k) % 3 ≡ k = omega arith in
    rw (row, place)

-- A row stored: coefficient and size, and the first two of the blocks that a word is packed into.
pub row-stored : (key : ℕ → ℕ) (c n : ℕ) (w : Word) (a : ℕ) (t bs : List ℕ) (x z : ℕ) → a + 3 ≤ length t → length w ≡ n
    → x ≡ c * 4294967296 + z → z ≡ 256 * weight (λ (b : ℕ). key b / 32) w + n → bs ≡ packed 6 (map (λ (b : ℕ). key b % 32) w)
    → Filled a 3 (λ k. get_or (row_of key c w) k 0) t (set (set (set t a x) (a + 1) (get_or bs 0 0)) (a + 2) (get_or bs 1 0))
row-stored key c n w a t bs x z room size first weighs blocks =
    let codes = map (λ (b : ℕ). key b % 32) w in
    let block : (j : ℕ) → j < 6 → get_or bs j 0 ≡ get_or (packed 6 codes) j 0 = λ j h. ap (λ (l : List ℕ). get_or l j 0) blocks in
    filled_three a (λ k. get_or (row_of key c w) k 0) t x (get_or bs 0 0) (get_or bs 1 0) room
    (omega arith) (block 0 (omega arith) ∙ packed_at 6 codes 0 (omega arith)) (block 1 (omega arith) ∙ packed_at 6 codes 1 (omega arith))

-- One row more. Its keys are those that the table had before the rows.
pub rows_more : (coefs starts lens bytes : List ℕ) (i : ℕ) (t u v : List ℕ) → Filled 352 (3 * i) (row_entry (key_in t) coefs starts lens bytes) t u
    → Filled (352 + 3 * i) 3 (λ k. get_or (row_of (key_in u) (get_or coefs i 0) (laid_word starts lens bytes i)) k 0) u v
    → Filled 352 (3 * (i + 1)) (row_entry (key_in t) coefs starts lens bytes) t v
rows_more coefs starts lens bytes i t u v f g =
    let row : (ℕ → ℕ) → List ℕ = λ key. row_of key (get_or coefs i 0) (laid_word starts lens bytes i) in
    let same = key_kept t u (λ k q. f.below k (omega arith)) in
    let next : 3 * i + 3 ≡ 3 * (i + 1) = omega arith in
    rw next at (filled_append 352 (3 * i) 3 (row_entry (key_in t) coefs starts lens bytes) _ t u v f g
    (λ k q. ap (λ (key : ℕ → ℕ). get_or (row key) k 0) same ∙ row_entry_lem (key_in t) coefs starts lens bytes i k q))
