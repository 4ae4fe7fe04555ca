-- `shorten_into`: the part lent has room bytes, and the bytes behind it are kept.
use mathlib.Core.Path.{◌∙◌, ap, sym}
use mathlib.Core.List.{List, ◌++◌}
use Prim.Native.Nat.{ℕ}
use lib.ListN.{drop}
use lib.Seq.{length-take-le}
use Rattle.services.specs.Services.{shortened_as}
use borrow.Author.Rules.{rules}
use Rattle.lending.proofs.calls.shorten_into.Goals as goal

pub slice_bounds-vg_short_form-end-2 : goal.slice_bounds-vg_short_form-end-2
slice_bounds-vg_short_form-end-2 c = sym (length-take-le _ _ (search rules))

pub returns : goal.returns
returns c =
    record {
      value = c.vg_short_form.ensures.value ∙ ap (shortened_as _ _ _) (length-take-le c.args.room c.args.out.now c.requires);
      out_after = ap (λ (x : List ℕ). x ++ drop c.args.room c.args.out.now) c.vg_short_form.ensures.out_after;
    }
