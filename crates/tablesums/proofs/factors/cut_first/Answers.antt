-- `cut_first` cuts the first leading word left and right of the second.
use native.Mathlib.Omega.{arith}
use borrow.Author.Rules.{rules}
use Rattle.tablesums.proofs.Fitting.{short_as}
use Rattle.tablesums.proofs.CutFactors.{front-short, back-short, front_cut, back_cut, back_none}
use Rattle.tablesums.proofs.factors.cut_first.Goals as goal

pub lead_word-requires : goal.lead_word-requires
lead_word-requires c = (c.requires.tabled.0, c.requires.tabled.1.first)

pub left_part-requires : goal.left_part-requires
left_part-requires c = let p = c.lead_word.ensures in let x = c.requires.tabled.1.begins in let l = p.letters in let f = p.few in record {
  i_le_m = (omega arith, omega arith, search rules, p.six);
  packs = p.packs;
}

pub overflow_add-end : goal.overflow_add-end
overflow_add-end c = let p = c.lead_word.ensures in let x = c.requires.tabled.1.begins in let l = p.letters in let f = p.few in let n = c.requires.tabled.3 in omega arith

pub right_part-requires : goal.right_part-requires
right_part-requires c = let p = c.lead_word.ensures in let f = p.few in record {
  i_le_m = (omega (arith, c.if-end-m.true), omega arith, c.requires.empty.short.six.six, p.six);
  packs = p.packs;
}

pub returns-then-end-m : goal.returns-then-end-m
returns-then-end-m c = let p = c.lead_word.ensures in let a = c.left_part.ensures.dst_len in
    let b = c.left_part.ensures.dst_after in let d = c.right_part.ensures.dst_len in
    let e = c.right_part.ensures.dst_after in let o = c.if-end-m.true in record {
      short_word = short_as (front_cut c.args.t.now c.args.f) (front-short c.requires.tabled.0 _ p _ a.0 _ c.requires.tabled.1.begins a.1 b);
      short_word_2 = short_as (back_cut c.args.t.now c.args.f _ c.requires.tabled.2) (back-short c.requires.tabled.0 _ p _ d.0 _ (omega arith) d.1 e);
    }

pub returns-else-end-m : goal.returns-else-end-m
returns-else-end-m c = let p = c.lead_word.ensures in let a = c.left_part.ensures.dst_len in
    let b = c.left_part.ensures.dst_after in record {
      short_word = short_as (front_cut c.args.t.now c.args.f) (front-short c.requires.tabled.0 _ p _ a.0 _ c.requires.tabled.1.begins a.1 b);
      short_word_2 = short_as (back_none c.args.t.now c.args.f _ _ c.requires.tabled.2 p.letters (omega (arith, c.if-end-m.false))) c.requires.empty;
    }
