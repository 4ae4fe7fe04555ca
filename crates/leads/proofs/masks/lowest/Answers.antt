-- `lowest` is the lowest bit: the number of zeros below it.
use lib.Count.{trailing_le}
use Rattle.leads.proofs.Lowest.{lowest-counted}
use borrow.Author.Rules.{rules}
use Rattle.leads.proofs.masks.lowest.Goals as goal

pub overflow_cast-result : goal.overflow_cast-result
overflow_cast-result c = let h = trailing_le 64 c.args.m in search rules

pub returns : goal.returns
returns c = lowest-counted 64 c.args.m c.requires (search rules)
