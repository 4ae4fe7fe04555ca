-- `advance` makes the step that comes next.
use mathlib.Core.Path.{refl}
use native.Mathlib.Omega.{arith}
use Rattle.leads.specs.LeadCodes.{lead_codes_in}
use Rattle.packedsteps.specs.Advance.{AdvancedTo}
use Rattle.packedsteps.proofs.TargetLaws.{working-placed, none-pending}
use Rattle.packedsteps.proofs.Advances.{told-inside, told-spot, pending, too_many, step_made}
use Rattle.packedsteps.proofs.advance.advance.Goals as goal

pub find_target-requires : goal.find_target-requires
find_target-requires c =
    let a = c.args in
    working-placed a.t.now a.f.now c.requires.working.0

-- nothing is left
pub returns-in_default : goal.returns-in_default
unfolding AdvancedTo
returns-in_default c =
    let a = c.args in
    let t = a.t.now in
    let none = rw c.in_default.is at (c.find_target.ensures (lead_codes_in t) c.requires.tabled.1) in
    record { advanced_to = (none-pending t c.requires.tabled.0 a.index.now c.requires.tabled.1 a.f.now a.from c.requires.working.1 none, c.requires.working.0, refl) }

-- the budget is spent
pub returns-then-used-budget : goal.returns-then-used-budget
unfolding AdvancedTo
returns-then-used-budget c =
    let first = c.in-Some.ensures (lead_codes_in c.args.t.now) c.requires.tabled.1 in
    record {
      advanced_to = (c.if-used-budget.true, pending c.requires.tabled.0 c.requires.tabled.1 c.args.f.now c.requires.working.0 _ c.requires.working.1 c.in-Some.target first);
    }

pub step-coef-requires-clause-tabled : goal.step-coef-requires-clause-tabled
step-coef-requires-clause-tabled c =
    let first = c.in-Some.ensures (lead_codes_in c.args.t.now) c.requires.tabled.1 in
    let inside = told-inside c.requires.tabled.0 c.requires.tabled.1 c.args.f.now c.requires.working.0 _ c.requires.working.1 c.in-Some.target first in
    (c.requires.tabled.0, c.requires.working.0, inside, omega (arith, c.requires.tabled.3))

pub step-coef-requires-clause-target_spot : goal.step-coef-requires-clause-target_spot
step-coef-requires-clause-target_spot c =
    let first = c.in-Some.ensures (lead_codes_in c.args.t.now) c.requires.tabled.1 in
    told-spot c.requires.tabled.0 c.requires.tabled.1 c.args.f.now c.requires.working.0 _ c.requires.working.1 c.in-Some.target first

-- too many terms
pub returns-then-f-gt-MOST_TERMS : goal.returns-then-f-gt-MOST_TERMS
unfolding AdvancedTo
returns-then-f-gt-MOST_TERMS c =
    let first = c.in-Some.ensures (lead_codes_in c.args.t.now) c.requires.tabled.1 in
    let many = too_many c.requires.tabled.0 c.requires.tabled.1 c.args.f.now c.requires.working.0 _ c.requires.working.1 c.in-Some.target first
    c.args.used c.args.budget (omega (arith, c.requires.tabled.2, c.if-used-budget.false)) c.step-coef.new.f c.step-coef.ensures.terms_after
    c.if-f-gt-MOST_TERMS.true in
    record { advanced_to = (refl, many) }

-- the step was made
pub returns : goal.returns
unfolding AdvancedTo
returns c =
    let first = c.in-Some.ensures (lead_codes_in c.args.t.now) c.requires.tabled.1 in
    let r = c.step-coef.ensures in
    record {
      advanced_to = step_made c.requires.tabled.0 c.requires.tabled.1 c.args.f.now c.requires.working.0 _ c.requires.working.1 c.in-Some.target first
          c.args.used c.args.budget (omega (arith, c.requires.tabled.2, c.if-used-budget.false)) c.step-coef.new.f r.terms_after _ _ _
          c.if-f-gt-MOST_TERMS.false r.working r.line_taken;
    }
