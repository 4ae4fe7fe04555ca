-- `copy_place` copies six blocks.
use lib.ListN.{length-set}
use Rattle.packing.proofs.Stores.{six-stored}
use borrow.Author.Rules.{rules}
use Rattle.packing.proofs.product.copy_place.Goals as goal

pub bounds-dst-at-2 : goal.bounds-dst-at-2
bounds-dst-at-2 c = simp length-set (search rules)

pub bounds-dst-at-3 : goal.bounds-dst-at-3
bounds-dst-at-3 c = simp length-set (search rules)

pub bounds-dst-at-4 : goal.bounds-dst-at-4
bounds-dst-at-4 c = simp length-set (search rules)

pub bounds-dst-at-5 : goal.bounds-dst-at-5
bounds-dst-at-5 c = simp length-set (search rules)

pub bounds-dst-at-6 : goal.bounds-dst-at-6
bounds-dst-at-6 c = simp length-set (search rules)

pub shape_of-dst : goal.shape_of-dst
shape_of-dst c = simp length-set (search rules)

pub returns : goal.returns
returns c =
    six-stored c.args.src.now c.args.at c.requires.1 c.args.dst.now
