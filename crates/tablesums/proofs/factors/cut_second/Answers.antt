-- `cut_second` cuts the second leading word behind the shared letters.
use mathlib.Core.Path.{sym}
use native.Mathlib.Omega.{arith}
use borrow.Author.Rules.{rules}
use Rattle.tablesums.proofs.Fitting.{short_as}
use Rattle.tablesums.proofs.CutFactors.{back-short, rest-cut}
use Rattle.tablesums.proofs.factors.cut_second.Goals as goal

pub right_part-requires : goal.right_part-requires
right_part-requires c = let p = c.lead_word.ensures in let x = c.requires.1.shares in let l = p.letters in let f = p.few in record {
  i_le_m = (omega arith, omega arith, search rules, p.six);
  packs = p.packs;
}

pub returns : goal.returns
returns c = let p = c.lead_word.ensures in let a = c.right_part.ensures.dst_len in
    let b = c.right_part.ensures.dst_after in let x = c.requires.1.shares in let l = p.letters in record {
      value = (sym l, p.few);
      short_word = short_as (rest-cut c.args.t.now c.args.f) (back-short c.requires.0 _ p _ a.0 _ (omega arith) a.1 b);
    }
