-- `row_len`: a line is a number, a space, a word and byte 10. A word is written with its letters, and the empty word with one byte.
use mathlib.Core.Path.{◌≡◌, refl, sym, ap, ◌∙◌}
use mathlib.Core.List.{List, [], ◌∷◌}
use Prim.Native.Nat.{ℕ, ◌%◌, ◌<◌, max}
use native.Mathlib.Omega.{arith}
use borrow.Author.Rules.{rules}
use lib.ListN.{length, get_or}
use Rattle.text.specs.Word.{write_word}
use Rattle.table.proofs.WordSizes.{word_size}
use Rattle.packedterms.specs.Formula.{blocks_at, word_at}
use Rattle.packedtexts.proofs.Texts.{row_length, number_length}
use Rattle.packedtexts.proofs.writing.row_len.Goals as goal

written-length : (v : List ℕ) → length (write_word v) ≡ max (length v) 1
unfolding write_word
written-length [] = refl
written-length (a ∷ v) = omega arith

pub returns : goal.returns
returns c =
    let f = c.args.f.now in
    let s = c.args.s in
    let small : get_or f.coefs s 0 < 4294967296 = search rules in
    let m : c.max.result ≡ max (get_or f.sizes s 0 % 256) 1 = c.max.ensures in
    record {
      bound = omega (arith, c.number_len.ensures, c.from.ensures, number_length c.from.result, small, m);
      value = λ t w.
          let v = word_at t f.sizes w s in
          let count = word_size t (get_or f.sizes s 0) (blocks_at w s) in
          let word : length (write_word v) ≡ c.max.result = written-length v ∙ ap (λ (n : ℕ). max n 1) count ∙ sym m in
          rw (← c.from.ensures) (omega (arith, row_length c.from.result v, c.number_len.ensures, word));
    }
