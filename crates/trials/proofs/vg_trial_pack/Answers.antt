-- `vg_trial_pack` packs a word by the keys of document 01's order.
use mathlib.Core.Path.{refl, sym, ◌∙◌, subst}
use native.Mathlib.Omega.{arith}
use lib.Seq.{take-length}
use Rattle.lists.specs.All.{All}
use Rattle.words.specs.Word.{Letter}
use Rattle.acceptance.proofs.LineFacts.{word_fits}
use Rattle.tabulating.proofs.PlainKeys.{plain_keys}
use Rattle.trials.proofs.PackedLetters.{word-blocks, no_blocks}
use Rattle.trials.proofs.vg_trial_pack.Goals as goal

pub pack_word-requires : goal.pack_word-requires
pack_word-requires c =
    let w = c.args.w.now in
    let (few, letters) = word_fits 72 26 w (sym c.word_fits-fits.ensures ∙ c.if-fits.true) in
    record {
      keys = (plain_keys _ c.put_keys.ensures.plain, omega arith, few);
      all = (subst (All (Letter 26)) (sym (take-length w)) letters, refl);
    }

pub returns-then-fits : goal.returns-then-fits
returns-then-fits c =
    let w = c.args.w.now in
    record {
      fits_value = c.word_fits-fits.ensures;
      blocks_value = word-blocks _ c.put_keys.ensures.plain w _ (sym c.word_fits-fits.ensures ∙ c.if-fits.true) c.pack_word.ensures.dst_after;
    }

pub returns-else-fits : goal.returns-else-fits
returns-else-fits c =
    record {
      fits_value = c.word_fits-fits.ensures;
      blocks_value = no_blocks c.args.w.now _ (sym c.word_fits-fits.ensures ∙ c.if-fits.false) refl;
    }
