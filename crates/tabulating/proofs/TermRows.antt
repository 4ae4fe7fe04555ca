-- A row that was stored is its term: coefficient, size and blocks are read back from it.
use mathlib.Core.Path.{◌≡◌, sym, ◌∙◌, ap, ap₂}
use mathlib.Core.List.{List}
use Prim.Native.Nat.{ℕ, zero, suc, ◌+◌, ◌*◌, ◌%◌, ◌≤◌, ◌<◌}
use native.Mathlib.Nat.{add-zero}
use native.Mathlib.Omega.{arith}
use lib.ListN.{length, get_or}
use lib.Seq.{ext_get_or}
use Rattle.lists.specs.All.{All}
use Rattle.lists.proofs.Parts.{part_length}
use Rattle.words.specs.Word.{Word, Letter}
use Rattle.packedwords.specs.Packed.{Nonzero, window, packed, unpacked}
use Rattle.packedwords.proofs.Packing.{packed-length, packed_at}
use Rattle.lists.proofs.Entries.{part_at}
use Rattle.table.specs.Table.{key_in, coef_in, size_in, blocks_in}
use Rattle.table.specs.Words.{Held, Keys}
use Rattle.table.specs.Polynomials.{word_in, term_in}
use Rattle.wordpacking.proofs.KeyedWords.{codes_in, size_of, size_low, size-letters, size-codes, codes-nonzero, packed-word, packed-held}
use Rattle.tabulating.specs.Rows.{row_of}

-- Row i of t is that of coefficient c and word w.
pub record RowIs (t : List ℕ) (i c : ℕ) (w : Word) : Type 0 where
  pub entries : (k : ℕ) → k < 3 → get_or t (352 + 3 * i + k) 0 ≡ get_or (row_of (key_in t) c w) k 0
  pub inside : 352 + 3 * i + 3 ≤ length t
  pub letters : All (Letter 26) w
  pub short : length w ≤ 24

module _ (t : List ℕ) (keys : Keys t) (i c : ℕ) (w : Word) (r : RowIs t i c w) where
  few : length w ≤ 72
  few = let h = r.short in omega arith

  low : size_of t w < 4294967296
  low = size_low t keys w r.letters few

  first-number : get_or t (352 + 3 * i) 0 ≡ c * 4294967296 + size_of t w
  first-number = ap (λ (x : ℕ). get_or t x 0) (sym (add-zero (352 + 3 * i))) ∙ r.entries 0 (omega arith)

  pub coef_is : coef_in t i ≡ c
  coef_is = let e = first-number in let l = low in omega arith

  pub size_is : size_in t i ≡ size_of t w
  size_is = let e = first-number in let l = low in omega arith

  pub letters_are : size_in t i % 256 ≡ length w
  letters_are = ap (λ (z : ℕ). z % 256) size_is ∙ size-letters t keys w r.letters few

  block_is : (k : ℕ) → k < 2 → get_or t (353 + 3 * i + k) 0 ≡ window (codes_in t w) (12 * k)
  block_is zero h = ap (λ (x : ℕ). get_or t x 0) (omega arith) ∙ r.entries 1 (omega arith)
  block_is (suc zero) h = ap (λ (x : ℕ). get_or t x 0) (omega arith) ∙ r.entries 2 (omega arith)
  block_is (suc (suc k)) h = absurd (omega arith)

  blocks_are : blocks_in t i ≡ packed 2 (codes_in t w)
  blocks_are =
      let room = r.inside in
      let size = part_length (353 + 3 * i) 2 t (omega arith) in
      ext_get_or 0 (blocks_in t i) (packed 2 (codes_in t w)) (size ∙ sym (packed-length 2 (codes_in t w)))
      (λ k l.
      let h : k < 2 = omega arith in
      part_at t (353 + 3 * i) 2 k h ∙ block_is k h ∙ sym (packed_at 2 (codes_in t w) k h))

  pub held_is : Held t (size_in t i) (blocks_in t i)
  held_is = let h = r.short in rw (size_is, blocks_are) (packed-held t keys w r.letters few 2 (omega arith))

  pub coded_is : Nonzero (unpacked (size_in t i % 256) (blocks_in t i))
  coded_is =
      let h = r.short in
      rw (size_is, blocks_are, size-codes t keys w r.letters few 2 (omega arith)) (codes-nonzero t keys w r.letters)

  word_is : word_in t i ≡ w
  word_is = let h = r.short in rw (size_is, blocks_are) (packed-word t keys w r.letters few 2 (omega arith))

  pub term_is : term_in t i ≡ record { coef = c; word = w }
  term_is = ap₂ (λ (x : ℕ) (v : Word). record { coef = x; word = v }) coef_is word_is
