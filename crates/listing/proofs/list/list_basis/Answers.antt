-- `list_basis` says 8 for a basis that has it, and else lists the pairs of its leading words.
use mathlib.Core.Path.{sym, ◌∙◌}
use Rattle.basis.specs.Answer.{verdict_of, HeadsWhere}
use Rattle.listing.proofs.ListingAnswers.{refused_listed, refused-kept, fine_listed, fine-written}
use Rattle.listing.proofs.list.list_basis.Goals as goal

pub returns-in-Err : goal.returns-in-Err
unfolding verdict_of
returns-in-Err c =
    let e = sym c.in-Err.ensures.result_value in
    record {
      value = c.refusal.ensures ∙ rw c.from.ensures (sym (refused_listed _ _ _ e _));
      out_after = sym (refused-kept _ _ _ e _);
    }

pub invariant_of-words : goal.invariant_of-words
unfolding HeadsWhere
invariant_of-words c =
    let w = c.in-Ok.ensures.heads_where in
    record {
      laid = w.laid;
      few = c.requires.count_bound;
      short = w.short;
    }

pub returns-in-Ok : goal.returns-in-Ok
unfolding verdict_of HeadsWhere
returns-in-Ok c =
    let leading = c.in-Ok.ensures.heads_where.leading in
    let e = sym c.in-Ok.ensures.result_value in
    let t = c.list_words.ensures in
    record {
      value = t.value ∙ sym (fine_listed _ _ leading e _);
      out_after = t.out_after ∙ sym (fine-written _ _ leading e _);
    }
