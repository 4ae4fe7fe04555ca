-- `first_pair` finds the first pair of all.
use mathlib.Core.Path.{◌∙◌}
use Rattle.overlapsearch.proofs.Positions.{at_origin}
use Rattle.overlapsearch.proofs.walking.first_pair.Goals as goal

pub returns-clause-result_value : goal.returns-clause-result_value
returns-clause-result_value c = c.next_pair.ensures.result_value ∙ at_origin _
