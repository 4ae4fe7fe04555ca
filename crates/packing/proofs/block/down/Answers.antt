-- `down` divides by a power of two.
use mathlib.Core.Path.{refl}
use native.Mathlib.Nat.{lt_of_le_of_lt}
use lib.Pow.{shr_le}
use Rattle.packing.proofs.block.down.Goals as goal

pub returns : goal.returns
returns c = (refl, lt_of_le_of_lt (shr_le c.args.x c.args.s) c.requires.1)
