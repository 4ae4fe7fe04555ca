-- `lead_size` is the size of the first term's word.
use mathlib.Core.Path.{◌∙◌, ap}
use Rattle.table.specs.Table.{size_in}
use Rattle.packedsteps.proofs.cutting.lead_size.Goals as goal

pub returns : goal.returns
returns c = c.size_in.ensures ∙ ap (size_in c.args.t.now) c.first_in-first.ensures
