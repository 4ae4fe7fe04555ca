-- `put_eight`: eight stores are a run of eight.
use lib.ListN.{length-set}
use Rattle.textwriting.proofs.EightStores.{eight_stored}
use borrow.Author.Rules.{rules}
use Rattle.textwriting.proofs.write.put_eight.Goals as goal

pub bounds-out-o-2 : goal.bounds-out-o-2
bounds-out-o-2 c = rw length-set (search rules)

pub bounds-out-o-3 : goal.bounds-out-o-3
bounds-out-o-3 c = rw (length-set, length-set) (search rules)

pub bounds-out-o-4 : goal.bounds-out-o-4
bounds-out-o-4 c = rw (length-set, length-set, length-set) (search rules)

pub bounds-out-o-5 : goal.bounds-out-o-5
bounds-out-o-5 c = rw (length-set, length-set, length-set, length-set) (search rules)

pub bounds-out-o-6 : goal.bounds-out-o-6
bounds-out-o-6 c = rw (length-set, length-set, length-set, length-set, length-set) (search rules)

pub bounds-out-o-7 : goal.bounds-out-o-7
bounds-out-o-7 c = rw (length-set, length-set, length-set, length-set, length-set, length-set) (search rules)

pub bounds-out-o-8 : goal.bounds-out-o-8
bounds-out-o-8 c = rw (length-set, length-set, length-set, length-set, length-set, length-set, length-set) (search rules)

pub shape_of-out : goal.shape_of-out
shape_of-out c = rw (length-set, length-set, length-set, length-set, length-set, length-set, length-set, length-set)

pub returns : goal.returns
returns c = eight_stored _ _ _ _ c.requires.1
