-- `all_within`: the library tests each byte.
use mathlib.Core.Path.{◌∙◌}
use borrow.Author.Rules.{rules}
use Rattle.std.proofs.lemmas.Iterator.Search.{all_from_yields_List}
use Rattle.std.proofs.lemmas.Iterator.{YieldsList-from_slice}
use Rattle.text.proofs.Bytewise.{all_list}
use Rattle.text.specs.Bytes.{within}
use Rattle.text.proofs.bytes.all_within.Goals as goal

pub returns : goal.returns
returns c =
    all_from_yields_List (within c.args.lo c.args.hi) _ _ c.all.result c.all.ensures.ran (YieldsList-from_slice c.args.f.now cc) (λ x b q k. search rules) ∙ all_list _ _ _
