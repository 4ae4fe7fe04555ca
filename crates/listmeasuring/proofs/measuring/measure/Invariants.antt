use mathlib.Core.Path.{◌≡◌}
use lib.ListN.{length}
use Rattle.overlapsearch.specs.Leading.{words_in}
use Rattle.overlapsearch.specs.Position.{seen_pairs}
use Rattle.listmeasuring.proofs.Counting.{Measuring}
use Rattle.listmeasuring.proofs.measuring.measure.Given as goal

abbrev pub invariant-loop-next : goal.invariant-loop-next
invariant-loop-next l = Measuring l.words.starts.now l.words.lens.now l.words.bytes.now l.words.count l.kept l.count l.total l.next × (length l.kept ≡ length l.initial.kept)

abbrev pub decreases-loop-next : goal.decreases-loop-next
decreases-loop-next l = length (seen_pairs (words_in l.words) l.next)
