use lib.ListN.{length}
use Rattle.overlapsearch.specs.Leading.{words_in}
use Rattle.overlapsearch.specs.Position.{seen_pairs}
use Rattle.overlapsearch.proofs.SeenPairs.{Walked}
use Rattle.overlapsearch.proofs.walking.count_pairs.Given as goal

abbrev pub invariant-loop-next : goal.invariant-loop-next
invariant-loop-next l = Walked l.words.starts.now l.words.lens.now l.words.bytes.now l.words.count l.count l.next

abbrev pub decreases-loop-next : goal.decreases-loop-next
decreases-loop-next l = length (seen_pairs (words_in l.words) l.next)
