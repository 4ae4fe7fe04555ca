-- `power` reads the table of powers.
use Rattle.field.proofs.ByteField.{power-lt}
use Rattle.field.proofs.byte_field.power.Goals as goal

pub returns : goal.returns
returns c = let e = c.from.ensures in (e, rw e (power-lt c.args.i c.requires))
