-- The bytes of one read stand behind those of the reads before it, and were taken behind them.
use Rattle.std.proofs.Common.{◌≡◌, ℕ, ◌+◌, ◌≤◌, List, ◌++◌, length, take, sym, ap, ◌∙◌, rules, subst, length-take-le}
use Rattle.std.proofs.Math.Seq.{take-append-add}
use Rattle.std.proofs.lemmas.List.{take-append-le}
use Rattle.std.proofs.KnownBytes.{Consumes-trans}
use Rattle.std.specs.Io.KnownBytes.{Consumes}
use borrow.Rule.Slice.PartMut.{put_mid, post_of}
use Rattle.inputreading.proofs.read_full.Goals as goal

-- n bytes more of a buffer xs that holds ys from a on
take-put_mid_more : (a k n : ℕ) (xs ys : List ℕ) → a ≤ length xs → n ≤ length ys → take (a + n) (put_mid a k xs ys) ≡ take a xs ++ take n ys
take-put_mid_more a k n xs ys within fits =
    ap (λ m. take (m + n) (put_mid a k xs ys)) (sym (length-take-le a xs within))
    ∙ take-append-add (take a xs) (ys ++ post_of a k xs) n
    ∙ ap (λ l. take a xs ++ l) (take-append-le n ys (post_of a k xs) fits)

pub loop-n-preserved : goal.loop-n-preserved
loop-n-preserved g c = record {
  same_length = search rules;
  in_bounds = search rules;
  read = subst (Consumes _ _) (sym (take-put_mid_more _ _ _ _ _ c.loop-n.invariant.in_bounds c.in_ok-more.ensures.bound.0))
      (Consumes-trans _ _ _ _ _ c.loop-n.invariant.read c.in_ok-more.ensures.bytes.0);
}
