-- `write_list` writes the names line, and behind it the line of each pair.
use native.Mathlib.Omega.{arith}
use Rattle.overlapsearch.specs.Leading.{words_in}
use Rattle.listwriting.proofs.NamesLine.{text-length, text-stored}
use Rattle.listwriting.proofs.listing.write_list.Goals as goal

pub put_bytes-e-requires : goal.put_bytes-e-requires
put_bytes-e-requires c = omega (arith, text-length (words_in c.args.words.now))

pub write_lines-requires-clause-in_bounds : goal.write_lines-requires-clause-in_bounds
write_lines-requires-clause-in_bounds c = omega (arith, text-length (words_in c.args.words.now), c.put_bytes-e.ensures.value)

pub returns : goal.returns
returns c =
    let all = text-stored _ _ _ _ _ _ (c.put_bytes-e.ensures.value, c.put_bytes-e.ensures.out_after) (c.write_lines.ensures.value, c.write_lines.ensures.out_after) in
    record {
      value = all.0;
      out_after = all.1;
    }
