-- `mark` is the masks with one mark more.
use mathlib.Core.Path.{ap}
use lib.ListN.{set}
use Rattle.leads.proofs.masks.mark.Goals as goal

pub returns : goal.returns
returns c = ap (set c.args.index.now c.args.at) c.with_bit.ensures
