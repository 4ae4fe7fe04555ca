-- `number_at` is `next_at` of the two words, in the part that INSIDE says.
use mathlib.Core.Path.{◌∙◌, ap}
use mathlib.Core.Bool.{not}
use borrow.Author.Tests.{eq-eqb, ne_eqb}
use Rattle.overlapsearch.proofs.Searching.{next-inside, next-shared}
use Rattle.overlapsearch.proofs.finding.number_at.Goals as goal

pub returns-then-this-ne0 : goal.returns-then-this-ne0
returns-then-this-ne0 g c =
    rw (c.letters-u.ensures, c.letters-v.ensures) at c.next_inside.ensures ∙ next-inside _ _ _ (c.requires.2 ∙ ap not (ne_eqb _ 0 c.if-this-ne0.true))

pub returns : goal.returns
returns g c =
    rw (c.letters-u.ensures, c.letters-v.ensures) at c.next_shared.ensures ∙ next-shared _ _ _ (c.requires.2 ∙ ap not (eq-eqb _ 0 c.if-this-ne0.false))
