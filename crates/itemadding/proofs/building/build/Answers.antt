-- `build` composes the blocks, and adds the sizes.
use mathlib.Core.Path.{ap, ◌∙◌}
use Prim.Native.Nat.{◌+◌, ◌%◌, ◌≤◌, ◌<◌}
use native.Mathlib.Omega.{arith}
use lib.ListN.{take, drop}
use borrow.Author.Rules.{rules}
use Rattle.words.specs.Word.{around}
use Rattle.table.specs.Words.{Held}
use Rattle.packedterms.specs.InFormula.{letters_in}
use Rattle.itemadding.proofs.ProductWords.{sum_low, sum-built, sum-word, term-held, term-word}
use Rattle.itemadding.proofs.building.build.Goals as goal

pub compose-requires : goal.compose-requires
compose-requires c =
    let short : c.args.left.now.size % 256 + c.size_in-z.result % 256 + c.args.right.now.size % 256 ≤ 72 = omega (arith, c.size_in-z.ensures, c.requires.sixfold.2) in
    let held : Held c.args.t.now c.size_in-z.result (take 2 (drop c.word_at.result c.args.t.now)) = term-held c.args.t.now c.requires.tabled.0 c.args.i c.requires.tabled.1 c.size_in-z.result c.word_at.result
    c.size_in-z.ensures (c.word_at.ensures.1 c.args.t.now) in
    let (tabled, inside) = c.requires.tabled in
    let (l, r, _) = c.requires.sixfold in
    let few = tabled.short c.args.i inside in record {
      b_bound = (omega (arith, short), omega (arith, c.size_in-z.ensures, few), search rules);
      left_len = (l.six, omega (arith, c.word_at.ensures.0, tabled.size), r.six);
      packs = (l.held.packs, (held).packs, r.held.packs);
    }

pub overflow_add-product : goal.overflow_add-product
overflow_add-product c =
    let held : Held c.args.t.now c.size_in-z.result (take 2 (drop c.word_at.result c.args.t.now)) = term-held c.args.t.now c.requires.tabled.0 c.args.i c.requires.tabled.1 c.size_in-z.result c.word_at.result
    c.size_in-z.ensures (c.word_at.ensures.1 c.args.t.now) in
    let short : c.args.left.now.size % 256 + c.size_in-z.result % 256 + c.args.right.now.size % 256 ≤ 72 = omega (arith, c.size_in-z.ensures, c.requires.sixfold.2) in
    let low : c.args.left.now.size + c.size_in-z.result + c.args.right.now.size < 4294967296 = let (l, r, _) = c.requires.sixfold in
    sum_low _ c.requires.tabled.0.keys _ _ _ _ _ _ l.held (held) r.held (short) in
    let q = low in
    record { fits = omega arith }

pub overflow_add-product-2 : goal.overflow_add-product-2
overflow_add-product-2 c =
    let held : Held c.args.t.now c.size_in-z.result (take 2 (drop c.word_at.result c.args.t.now)) = term-held c.args.t.now c.requires.tabled.0 c.args.i c.requires.tabled.1 c.size_in-z.result c.word_at.result
    c.size_in-z.ensures (c.word_at.ensures.1 c.args.t.now) in
    let short : c.args.left.now.size % 256 + c.size_in-z.result % 256 + c.args.right.now.size % 256 ≤ 72 = omega (arith, c.size_in-z.ensures, c.requires.sixfold.2) in
    let low : c.args.left.now.size + c.size_in-z.result + c.args.right.now.size < 4294967296 = let (l, r, _) = c.requires.sixfold in
    sum_low _ c.requires.tabled.0.keys _ _ _ _ _ _ l.held (held) r.held (short) in
    let q = low in
    record { fits = omega arith }

pub returns : goal.returns
returns c =
    let held : Held c.args.t.now c.size_in-z.result (take 2 (drop c.word_at.result c.args.t.now)) = term-held c.args.t.now c.requires.tabled.0 c.args.i c.requires.tabled.1 c.size_in-z.result c.word_at.result
    c.size_in-z.ensures (c.word_at.ensures.1 c.args.t.now) in
    let short : c.args.left.now.size % 256 + c.size_in-z.result % 256 + c.args.right.now.size % 256 ≤ 72 = omega (arith, c.size_in-z.ensures, c.requires.sixfold.2) in
    let t = c.args.t.now in
    let (tabled, inside) = c.requires.tabled in
    let (l, r, _) = c.requires.sixfold in
    let (e, nine, packs) = c.compose.ensures.value in
    let word = c.compose.ensures.dst_after in
    let is = term-word t tabled c.args.i inside c.size_in-z.result c.word_at.result c.size_in-z.ensures (c.word_at.ensures.1 t) in record {
      built = sum-built t tabled.keys _ _ _ _ _ _ l.held (held) r.held (short) _ _ e nine packs word;
      word = sum-word t tabled.keys _ _ _ _ _ _ l.held (held) r.held (short) _ _ e nine packs word
          ∙ ap (around (letters_in t c.args.left.now) (letters_in t c.args.right.now)) is;
    }
