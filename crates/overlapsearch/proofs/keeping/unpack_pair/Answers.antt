-- `unpack_pair` gives the pair back.
use Rattle.overlapsearch.proofs.KeptPairs.{unpacked_is}
use Rattle.overlapsearch.proofs.keeping.unpack_pair.Goals as goal

pub returns : goal.returns
returns c = λ f s e. unpacked_is f _ s e
