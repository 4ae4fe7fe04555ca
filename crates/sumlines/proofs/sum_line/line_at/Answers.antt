-- `line_at` gives the sum line that stands at a place.
use Rattle.sumlines.proofs.LineReading.{read-held, read-inside}
use Rattle.sumlines.proofs.sum_line.line_at.Goals as goal

pub returns : goal.returns
returns c =
    let r = c.read_sum.ensures in
    record {
      by_index = read-held c.args.bytes.now c.args.at _ r.result_value;
      inside = read-inside c.args.bytes.now c.args.at _ r.sum_inside;
      numbers = r.numbers;
    }
