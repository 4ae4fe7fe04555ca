-- `replace_term` leaves term k out and inserts the new term.
use mathlib.Core.Path.{refl}
use native.Mathlib.Omega.{arith}
use Rattle.packedterms.proofs.Places.{term-place, coef-small}
use Rattle.packedterms.proofs.Sinks.{sought, below-first}
use Rattle.packedterms.proofs.ReplacedTerm.{from, others, replaced_onto, replaced_none, replaced_here}
use Rattle.packedterms.proofs.WorkingFormula.replace_term.Goals as goal

pub find-requires : goal.find-requires
find-requires c =
    record {
      sought = sought _ c.requires.tabled.0.suits _ _ c.requires.tabled.3 _ _ _ _ _ c.requires.working;
      below_first = below-first _ c.requires.tabled.0.suits _ _ c.requires.tabled.3 _ _ _ _ _ c.requires.working _ c.requires.behind;
    }

pub overflow_sub-at : goal.overflow_sub-at
overflow_sub-at c =
    let (tabled, small, low, b) = c.requires.tabled in
    omega (arith, from _ tabled _ _ small _ b _ _ _ _ _ _ c.requires.working low c.requires.behind _ c.in-Ok.ensures)

pub add_onto-requires : goal.add_onto-requires
add_onto-requires c =
    let (tabled, small, low, b) = c.requires.tabled in
    let w = others _ tabled _ _ small _ b _ _ _ _ _ _ c.requires.working low c.requires.behind _ c.in-Ok.ensures _ c.drop_term.ensures.moved in
    let in_all = (c.in-Ok.ensures.equal refl).0 in
    let after = from _ tabled _ _ small _ b _ _ _ _ _ _ c.requires.working low c.requires.behind _ c.in-Ok.ensures in
    let fewer = c.drop_term.ensures.same.1 in
    let few = w.holds.count in
    record {
      tabled = (tabled, small, rw c.drop_term.ensures.same.0.coefs (coef-small _ _ _ _ _ _ w _ (omega arith)));
      term = (omega arith, omega arith, term-place _ _ _ _ _ _ w.holds _ (omega arith));
    }

pub returns-in-Ok : goal.returns-in-Ok
returns-in-Ok c =
    let (tabled, small, low, b) = c.requires.tabled in
    let (kept, fewer) = c.drop_term.ensures.same in
    let added = rw (c.drop_term.ensures.same.0.coefs, c.drop_term.ensures.same.1) at c.add_onto.ensures.added in
    let all = replaced_onto _ tabled _ _ small _ b _ _ _ _ _ _ c.requires.working low c.requires.behind _ c.in-Ok.ensures _ c.drop_term.ensures.moved refl _ _ _ added in
    rw (
      c.add_onto.ensures.words.0,
      c.add_onto.ensures.words.1,
      c.drop_term.ensures.same.0.sizes,
      c.drop_term.ensures.same.0.blocks,
    ) record {
      holds = all.0;
      replaced = all.1.0;
      behind_2 = all.1.1;
    }

pub overflow_sub-at-in-Err : goal.overflow_sub-at-in-Err
overflow_sub-at-in-Err c =
    let (tabled, small, low, b) = c.requires.tabled in
    omega (arith, from _ tabled _ _ small _ b _ _ _ _ _ _ c.requires.working low c.requires.behind _ c.in-Err.ensures)

pub returns-then-x-eq0 : goal.returns-then-x-eq0
returns-then-x-eq0 c =
    let (tabled, small, low, b) = c.requires.tabled in
    let all = replaced_none _ tabled _ _ small _ b _ _ _ _ _ _ c.requires.working low c.requires.behind _ c.in-Err.ensures _ c.drop_term-then-x-eq0.ensures.moved refl c.if-x-eq0.true in
    rw (
      c.drop_term-then-x-eq0.ensures.same.0.coefs,
      c.drop_term-then-x-eq0.ensures.same.0.sizes,
      c.drop_term-then-x-eq0.ensures.same.0.blocks,
      c.drop_term-then-x-eq0.ensures.same.1,
    ) record {
      holds = all.0;
      replaced = all.1.0;
      behind_2 = all.1.1;
    }

pub move_left-requires : goal.move_left-requires
move_left-requires c =
    let (tabled, small, low, b) = c.requires.tabled in
    let after = from _ tabled _ _ small _ b _ _ _ _ _ _ c.requires.working low c.requires.behind _ c.in-Err.ensures in
    let most = c.in-Err.ensures.low in
    let room = c.requires.working.holds.count in
    (omega arith, omega arith)

pub returns-else-x-eq0 : goal.returns-else-x-eq0
returns-else-x-eq0 c =
    let (tabled, small, low, b) = c.requires.tabled in
    let moved = rw c.put_at.ensures.entries.0 at c.move_left.ensures.moved in
    let all = replaced_here _ tabled _ _ small _ b _ _ _ _ _ _ c.requires.working low c.requires.behind _ c.in-Err.ensures refl c.if-x-eq0.false _ _ _ _ c.put_at.ensures.stored moved in
    rw (
      c.move_left.ensures.same.0.coefs,
      c.move_left.ensures.same.0.sizes,
      c.move_left.ensures.same.0.blocks,
      c.move_left.ensures.same.1,
      c.put_at.ensures.entries.1,
    ) record {
      holds = all.0;
      replaced = all.1.0;
      behind_2 = all.1.1;
    }
