-- `find`: the library finds the first byte b of the rest.
use mathlib.Core.Path.{◌≡◌, ◌∙◌}
use borrow.Author.Rules.{rules}
use native.Mathlib.Omega.{arith}
use lib.Dec.{eqb}
use lib.ListN.{drop, length-drop}
use Rattle.std.specs.Prelude.{position}
use Rattle.std.proofs.lemmas.Iterator.Search.{position_from_yields_List}
use Rattle.std.proofs.lemmas.Iterator.{YieldsList-from_slice}
use Rattle.lists.proofs.Parts.{tail_part}
use Rattle.text.proofs.Cutting.{stop_found, stop_not-found}
use Rattle.text.proofs.bytes.find.Goals as goal

pub returns-in-Some-clause-value : goal.returns-in-Some-clause-value
returns-in-Some-clause-value c =
    let h : c.position.result ≡ position (λ x. eqb x c.args.b) (drop c.args.at c.args.s.now) =
    position_from_yields_List (λ x. eqb x c.args.b) _ _ c.position.result c.position.ensures.ran (YieldsList-from_slice (drop c.args.at c.args.s.now) (c.iter.ensures.rest ∙ tail_part c.args.s.now c.args.at)) (λ x b q k. search rules) in
    omega (arith, stop_found c.args.b (drop c.args.at c.args.s.now) c.position.result h c.in-Some.n c.in-Some.is)

pub returns-in-None-clause-value : goal.returns-in-None-clause-value
returns-in-None-clause-value c =
    let h : c.position.result ≡ position (λ x. eqb x c.args.b) (drop c.args.at c.args.s.now) =
    position_from_yields_List (λ x. eqb x c.args.b) _ _ c.position.result c.position.ensures.ran (YieldsList-from_slice (drop c.args.at c.args.s.now) (c.iter.ensures.rest ∙ tail_part c.args.s.now c.args.at)) (λ x b q k. search rules) in
    omega (arith, length-drop c.args.at c.args.s.now, stop_not-found c.args.b (drop c.args.at c.args.s.now) c.position.result h c.in-None.is)
