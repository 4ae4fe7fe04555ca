-- `start_lap` cuts the three factors, builds the overlap word where it is wanted, and starts with the difference.
use Rattle.tablesums.proofs.Fitting.{empty-short}
use Rattle.lapsums.proofs.beginning.start_lap.Goals as goal

pub cut_factors-requires : goal.cut_factors-requires
cut_factors-requires c =
    (c.requires.tabled.0, c.requires.tabled.1, empty-short c.args.t.now)

pub start_difference-requires : goal.start_difference-requires
start_difference-requires c =
    let (tabled, lapped) = c.requires.tabled in
    record {
      tabled = (tabled, lapped.first, lapped.second);
      short_word = c.cut_factors.ensures.short_word;
      short_word_2 = c.cut_factors.ensures.short_word_2;
      short_word_3 = c.cut_factors.ensures.short_word_3;
      arranged = c.requires.arranged;
    }
