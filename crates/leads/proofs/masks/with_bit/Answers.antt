-- `with_bit` is the mask with one bit more.
use mathlib.Core.Path.{ap}
use lib.Bits.{bit_or}
use Rattle.leads.proofs.Bits.{shifted}
use Rattle.leads.proofs.masks.with_bit.Goals as goal

pub returns : goal.returns
returns c = ap (bit_or c.args.m) (shifted c.args.g c.requires)
