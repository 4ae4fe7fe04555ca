-- `find` is where the word belongs. The loop's invariant: it is below the words before lo, and above the word at hi.
use mathlib.Core.Path.{◌≡◌, refl}
use borrow.Author.Rules.{rules}
use Rattle.table.specs.Words.{block_count}
use Rattle.packedterms.proofs.Halving.{below_all, belonging_equal}
use Rattle.packedterms.proofs.WorkingFormula.find.Goals as goal

pub loop-lo-preserved-in-Less : goal.loop-lo-preserved-in-Less
loop-lo-preserved-in-Less c =
    let few : c.div_ceil-k.result ≡ block_count c.args.word.now.size = search rules in
    let below = rw (few, c.from.ensures) at c.in-Less.ensures in
    (search rules, search rules, below_all _ _ c.requires.sought.sinks _ (search rules) below refl, c.loop-lo.invariant.3)

pub returns-in-Equal : goal.returns-in-Equal
returns-in-Equal c =
    let few : c.div_ceil-k.result ≡ block_count c.args.word.now.size = search rules in
    let equal = rw (few, c.from.ensures) at c.in-Equal.ensures in
    belonging_equal _ _ c.requires.sought.sinks _ (search rules) equal refl
