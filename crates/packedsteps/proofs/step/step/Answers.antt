-- `step` takes the line of the step away.
use mathlib.Core.Path.{◌∙◌}
use native.Mathlib.Omega.{arith}
use Rattle.packedterms.specs.InFormula.{term_in}
use Rattle.packedsteps.proofs.CutWords.{spot_lead}
use Rattle.packedsteps.proofs.StepLaws.{term-held, coef_held, step_fits, step-place, step_line, step_sum}
use Rattle.packedsteps.proofs.step.step.Goals as goal

pub cut-item-requires : goal.cut-item-requires
cut-item-requires c =
    let a = c.args in
    let held = term-held a.t.now a.f.now c.requires.tabled.1 a.target.term c.requires.tabled.2 in
    rw (c.take_place-word.ensures.0, c.take_place-word.ensures.1, c.from-s.ensures) (record {
      tabled = (c.requires.tabled.0, held);
      word_value = c.requires.target_spot;
    })

pub divide-x-requires : goal.divide-x-requires
divide-x-requires c =
    let a = c.args in
    let L = spot_lead a.t.now c.requires.tabled.0 _ a.target.place a.target.number c.requires.target_spot in
    rw c.from-s.ensures (c.requires.tabled.0, coef_held a.t.now a.f.now c.requires.tabled.1 a.target.term c.requires.tabled.2, L.some, L.most)

pub cancel_term-requires : goal.cancel_term-requires
cancel_term-requires c =
    let a = c.args in
    let t = a.t.now in
    let T = c.requires.tabled.0 in
    let u = term_in t a.f.now a.target.term in
    let C = rw (c.take_place-word.ensures.0, c.take_place-word.ensures.1, c.from-s.ensures) at c.cut-item.ensures in
    let x = rw c.from-s.ensures at c.divide-x.ensures in
    let L = spot_lead t T u.word a.target.place a.target.number c.requires.target_spot in
    let held = term-held t a.f.now c.requires.tabled.1 a.target.term c.requires.tabled.2 in
    let small = coef_held t a.f.now c.requires.tabled.1 a.target.term c.requires.tabled.2 in
    let lo = C.some in
    let hi = C.most in
    let at = step-place t u _ a.target.place a.target.number _ _ _ C c.requires.target_spot T small L.polynomial in
    rw (C.item, x.0) (record {
      tabled = (T, rw x.0 at x.1, omega arith, omega arith, c.requires.tabled.3);
      sixfold = (C.left-held, C.right-held, step_fits t T a.target.number L C held.short);
      working = c.requires.tabled.1;
      lead_place = (c.requires.tabled.2, at);
    })

pub returns : goal.returns
returns c =
    let a = c.args in
    let t = a.t.now in
    let u = term_in t a.f.now a.target.term in
    let C = rw (c.take_place-word.ensures.0, c.take_place-word.ensures.1, c.from-s.ensures) at c.cut-item.ensures in
    let x = rw c.from-s.ensures at c.divide-x.ensures.0 in
    let L = spot_lead t c.requires.tabled.0 u.word a.target.place a.target.number c.requires.target_spot in
    let e = c.cancel_term.ensures in
    let sum = step_sum t u _ a.target.place a.target.number _ _ _ C c.requires.target_spot _ L.polynomial in
    let line = step_line t u _ a.target.place a.target.number _ _ _ C c.requires.target_spot in
    record {
      terms_bound = e.upper_bound;
      working = e.working_2;
      terms_after = (rw (C.item, x) at e.taken) ∙ sum;
      line_taken = rw x line;
    }
