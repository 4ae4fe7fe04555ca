-- `print_into`: where listing's number is 0 the list stands in the slice; else the line of the refusal is written.
use mathlib.Core.Path.{◌∙◌, ap, ap₂}
use native.Mathlib.Omega.{arith}
use lib.ListN.{length}
use lib.Seq.{sets}
use Rattle.printing.proofs.ListOrRefusal.{list_printed, refusal_printed}
use borrow.Author.Rules.{rules}
use Rattle.printing.proofs.print_into.Goals as goal

pub returns-then-a-eq0 : goal.returns-then-a-eq0
returns-then-a-eq0 c =
    let all = list_printed _ _ _ _ c.requires c.vg_list_overlaps-a.ensures.value c.vg_list_overlaps-a.ensures.out_after (search rules) in
    record {
      value = all.0;
      out_after = all.1;
    }

pub returns : goal.returns
returns c =
    let e = refusal_printed _ _ _ _ c.requires c.vg_list_overlaps-a.ensures.value c.vg_list_overlaps-a.ensures.out_after (search rules) in
    record {
      value = (c.put_refused.ensures.value.0 ∙ ap length e.1, omega (arith, c.put_refused.ensures.value.1));
      out_after = c.put_refused.ensures.out_after ∙ ap₂ (λ l t. sets l 0 t) e.0 e.1;
    }
