use Rattle.listwriting.proofs.Writing.{Writing}
use Rattle.listwriting.proofs.listing.write_lines.Given as goal

abbrev pub invariant-loop-k : goal.invariant-loop-k
invariant-loop-k l = Writing l.words.starts.now l.words.lens.now l.words.bytes.now l.words.count l.initial.out l.at l.out l.place l.k l.from
