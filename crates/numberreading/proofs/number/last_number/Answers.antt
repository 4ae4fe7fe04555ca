-- `last_number` reads what `num_last` gives.
use mathlib.Core.Path.{◌∙◌}
use Rattle.lists.proofs.Parts.{tail_part}
use Rattle.fieldreading.proofs.FieldReading.{number_of_last}
use Rattle.numberreading.proofs.number.last_number.Goals as goal

pub returns : goal.returns
returns c = rw tail_part at c.read_number.ensures ∙ number_of_last _
