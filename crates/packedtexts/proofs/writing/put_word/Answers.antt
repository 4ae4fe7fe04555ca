-- `put_word`: the letters are stored, and for the empty word `-`.
use mathlib.Core.Path.{sym, ap, ◌∙◌}
use native.Mathlib.Omega.{arith}
use lib.ListN.{length, get_or}
use Rattle.text.proofs.WordTexts.{write_empty, write_letters}
use Rattle.table.proofs.WordSizes.{word_size}
use Rattle.packedterms.specs.Formula.{blocks_at, word_at}
use Rattle.packedtexts.proofs.writing.put_word.Goals as goal

pub bounds-out-at : goal.bounds-out-at
bounds-out-at c =
    let f = c.args.f.now in
    let count = word_size c.args.t.now (get_or f.sizes c.args.s 0) (blocks_at f.blocks c.args.s) in
    omega (arith, ap length (write_empty (word_at c.args.t.now f.sizes f.blocks c.args.s) (count ∙ c.if-m-eq0.true)), c.requires.fits)

pub returns-then-m-eq0 : goal.returns-then-m-eq0
returns-then-m-eq0 c =
    let f = c.args.f.now in
    let count = word_size c.args.t.now (get_or f.sizes c.args.s 0) (blocks_at f.blocks c.args.s) in
    let e = write_empty (word_at c.args.t.now f.sizes f.blocks c.args.s) (count ∙ c.if-m-eq0.true) in
    record { value = rw e; out_after = rw e }

pub put_letters-requires : goal.put_letters-requires
put_letters-requires c =
    let f = c.args.f.now in
    let count = word_size c.args.t.now (get_or f.sizes c.args.s 0) (blocks_at f.blocks c.args.s) in
    let e = write_letters (word_at c.args.t.now f.sizes f.blocks c.args.s) (λ y. c.if-m-eq0.false (sym count ∙ y)) in
    (c.requires.held.0, c.requires.held.1, omega (arith, ap length e, count, c.requires.fits))

pub returns : goal.returns
returns c =
    let f = c.args.f.now in
    let count = word_size c.args.t.now (get_or f.sizes c.args.s 0) (blocks_at f.blocks c.args.s) in
    let e = write_letters (word_at c.args.t.now f.sizes f.blocks c.args.s) (λ y. c.if-m-eq0.false (sym count ∙ y)) in
    record {
      value = omega (arith, ap length e, count);
      out_after = rw e c.put_letters.ensures;
    }
