-- `mark_all_pairs` marks all pairs: the masks behind the rows are full.
use mathlib.Core.Path.{refl}
use Rattle.leads.proofs.Pairs.{pairs_all}
use Rattle.leads.proofs.indexing.mark_all_pairs.Goals as goal

pub returns : goal.returns
returns c = pairs_all c.args.index.now c.fill.new.self c.requires c.fill.ensures.len (λ k h. c.fill.ensures.clones k 0 h refl)
