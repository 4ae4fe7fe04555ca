-- `pack_word` packs a word: short or long, the blocks and the size are the same.
use Rattle.lists.proofs.Parts.{part_length}
use Rattle.wordpacking.proofs.KeyedWords.{six_known}
use Rattle.wordpacking.proofs.pack.pack_word.Goals as goal

pub returns-then-n-gt24 : goal.returns-then-n-gt24
returns-then-n-gt24 c =
    let a = c.args in
    let e = c.pack_long.ensures in
    let size = part_length a.from a.n a.text.now c.requires.keys.1 in
    let all = six_known a.t.now c.requires.keys.0 _ c.requires.all.0 a.n _ _ size c.requires.keys.2 e.value e.dst_after in
    record {
      value = all.0;
      dst_after = all.1.0;
      dst_after_2 = all.1.1.0;
      sixfold = all.1.1.1.0;
      dst_after_3 = all.1.1.1.1;
    }

pub returns : goal.returns
returns c =
    let a = c.args in
    let e = c.pack_short.ensures in
    let size = part_length a.from a.n a.text.now c.requires.keys.1 in
    let all = six_known a.t.now c.requires.keys.0 _ c.requires.all.0 a.n _ _ size c.requires.keys.2 e.value e.dst_after in
    record {
      value = all.0;
      dst_after = all.1.0;
      dst_after_2 = all.1.1.0;
      sixfold = all.1.1.1.0;
      dst_after_3 = all.1.1.1.1;
    }
