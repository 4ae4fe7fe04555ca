-- `put_row` stores the four parts of a line one behind the other.
use mathlib.Core.Path.{◌≡◌, ◌∙◌}
use native.Mathlib.Omega.{arith}
use lib.ListN.{length, get_or, length-set}
use Rattle.packedtexts.proofs.Texts.{row_length, row-stored}
use Rattle.packedterms.specs.Formula.{word_at}
use Rattle.packedtexts.proofs.writing.put_row.Goals as goal

pub put_word-b-requires-clause-fits : goal.put_word-b-requires-clause-fits
put_word-b-requires-clause-fits c =
    let f = c.args.f.now in
    let parts = row_length (get_or f.coefs c.args.s 0) (word_at c.args.t.now f.sizes f.blocks c.args.s) in
    let number = rw c.from.ensures at c.put_number-a.ensures.value in
    rw length-set (omega (arith, parts, c.requires.fits, number, c.put_number-a.auto.out))

pub bounds-out-b : goal.bounds-out-b
bounds-out-b c =
    let f = c.args.f.now in
    let parts = row_length (get_or f.coefs c.args.s 0) (word_at c.args.t.now f.sizes f.blocks c.args.s) in
    let number = rw c.from.ensures at c.put_number-a.ensures.value in
    let kept : length c.put_word-b.new.out ≡ length c.args.out.now = rw length-set at c.put_word-b.auto.out ∙ c.put_number-a.auto.out in
    omega (arith, parts, c.requires.fits, number, c.put_word-b.ensures.value, kept)

pub returns : goal.returns
returns c =
    let f = c.args.f.now in
    let x = get_or f.coefs c.args.s 0 in
    let v = word_at c.args.t.now f.sizes f.blocks c.args.s in
    let n = rw c.from.ensures at c.put_number-a.ensures.value in
    let m = rw c.from.ensures at c.put_number-a.ensures.out_after in
    let w = c.put_word-b.ensures in
    record {
      value = omega (arith, row_length x v, n, w.value);
      out_after = row-stored _ _ _ _ _ _ x v m n w.out_after w.value;
    }
