-- `put_packed`: a line of seven numbers.
use Prim.Native.Nat.{◌≤◌}
use native.Mathlib.Omega.{arith}
use lib.ListN.{length}
use Rattle.cases.specs.CaseTexts.{yes_number}
use Rattle.cases.proofs.AnswerStores.{seven_numbers_length}
use Rattle.cases.proofs.AnswerTexts.{packed-text, stored_as}
use borrow.Author.Rules.{rules}
use Rattle.cases.proofs.packed.put_packed.Goals as goal

pub put_numbers_line-requires : goal.put_numbers_line-requires
put_numbers_line-requires c =
    omega (arith, seven_numbers_length c.from-yes.result c.args.w.now c.vg_trial_pack-p.result.blocks (search rules) c.vg_trial_pack-p.ensures.blocks_value, c.requires)

pub returns : goal.returns
unfolding yes_number
returns c =
    let a = c.vg_trial_pack-p.result in
    let e = packed-text c.args.w.now a.blocks c.from-yes.result a.fits c.vg_trial_pack-p.ensures.fits_value c.vg_trial_pack-p.ensures.blocks_value c.from-yes.ensures in
    let h : c.put_numbers_line.result ≤ length c.args.text.now = omega (arith, seven_numbers_length c.from-yes.result c.args.w.now a.blocks (search rules) c.vg_trial_pack-p.ensures.blocks_value, c.requires, c.put_numbers_line.ensures.value) in
    let all = stored_as _ _ _ _ _ _ e ((c.put_numbers_line.ensures.value, h), c.put_numbers_line.ensures.out_after) in
    record {
      value = all.0;
      text_after = all.1;
    }
