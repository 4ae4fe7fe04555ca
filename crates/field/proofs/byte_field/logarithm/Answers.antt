-- `logarithm` reads the table of logarithms.
use Rattle.field.proofs.ByteField.{logarithm-lt}
use Rattle.field.proofs.byte_field.logarithm.Goals as goal

pub returns : goal.returns
returns c = let e = c.from.ensures in (e, rw e (logarithm-lt c.args.a c.requires.0 c.requires.1))
