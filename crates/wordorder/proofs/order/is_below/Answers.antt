-- `is_below` is `is_below`: what the comparison says.
use Rattle.words.specs.Below.{is_below}
use Rattle.wordorder.proofs.order.is_below.Goals as goal

pub returns : goal.returns
unfolding is_below
returns c = rw (is_below, ← c.compare.ensures) c.is_lt.ensures
