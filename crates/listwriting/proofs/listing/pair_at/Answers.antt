-- `pair_at`: a pair that was kept is the one that the search would find.
use mathlib.Core.Path.{sym, ap, subst, ◌∙◌}
use native.Mathlib.Omega.{arith}
use lib.ListN.{length, length-drop}
use Rattle.std.specs.Prelude.{Some}
use Rattle.overlaps.specs.Overlaps.{overlaps}
use Rattle.overlapsearch.specs.declared.PairAt.{PairAt}
use Rattle.overlapsearch.specs.Leading.{words_in}
use Rattle.overlapsearch.specs.Position.{seen_pairs, FoundAt}
use Rattle.overlapsearch.proofs.SeenPairs.{seen-some}
use Rattle.listwriting.proofs.listing.pair_at.Goals as goal

pub returns-then-k-kept : goal.returns-then-k-kept
returns-then-k-kept c =
    let w = c.args.words.now in
    let (more, left) = c.requires.left in
    let kp = c.requires.kept_pairs c.args.k c.if-k-kept.true more in
    let e = c.unpack_pair.ensures kp.pair kp.small kp.is in
    record {
      result_value = ap (λ (f : PairAt). seen_pairs (words_in w) (Some f)) e ∙ kp.left ∙ sym left;
      found_at = subst (FoundAt w.lens.now w.count) (sym e) kp.found;
    }

pub unwrap-requires : goal.unwrap-requires
unwrap-requires c =
    let (more, left) = c.requires.left in
    seen-some (words_in c.args.words.now) c.next_pair.result (omega (arith, more, ap length (c.next_pair.ensures.result_value ∙ left), length-drop c.args.k (overlaps (words_in c.args.words.now))))

pub returns : goal.returns
returns c = record {
  result_value = rw c.unwrap.ensures at c.next_pair.ensures.result_value;
  found_at = rw c.unwrap.ensures at c.next_pair.ensures.found_at;
}
