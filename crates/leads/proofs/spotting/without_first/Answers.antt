-- `without_first`: what is moved out of 64 bits is the first letter.
use Rattle.leads.proofs.BlockTurns.{moved_out}
use Rattle.leads.proofs.spotting.without_first.Goals as goal

pub returns : goal.returns
returns c = moved_out c.args.x c.requires
