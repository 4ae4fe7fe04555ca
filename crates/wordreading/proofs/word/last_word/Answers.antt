-- `last_word` reads what `word_last` gives.
use mathlib.Core.Path.{◌∙◌}
use native.Mathlib.Omega.{arith}
use lib.ListN.{length-drop}
use Rattle.lists.proofs.Parts.{tail_part}
use Rattle.fieldreading.proofs.FieldReading.{word_of_last}
use Rattle.wordreading.proofs.word.last_word.Goals as goal

pub returns : goal.returns
returns c =
    record {
      result_value = rw tail_part at c.read_word.ensures.result_value ∙ word_of_last _;
      result_in_bounds = omega (arith, rw (tail_part, length-drop) at c.read_word.ensures.result_in_bounds);
    }
