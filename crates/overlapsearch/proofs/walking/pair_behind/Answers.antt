-- `pair_behind` finds the pair behind one.
use Rattle.overlapsearch.proofs.SeenPairs.{place-few}
use Rattle.overlapsearch.proofs.walking.pair_behind.Goals as goal

pub place_behind-requires : goal.place_behind-requires
place_behind-requires c = place-few _ _ _ c.requires
