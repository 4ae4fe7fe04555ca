-- `add_term` inserts the term: onto the one that has its word, nowhere if it is zero, or before the first whose word is less.
use mathlib.Core.Path.{refl}
use native.Mathlib.Omega.{arith}
use Rattle.packedterms.proofs.Places.{term-place, coef-small}
use Rattle.packedterms.proofs.Sinks.{sought, below-first}
use Rattle.packedterms.proofs.SameWord.{onto-holds, onto-formula}
use Rattle.packedterms.proofs.NewTerm.{before-holds, before-formula}
use Rattle.packedterms.proofs.Inserting.{onto_inserted, before_inserted, zero_inserted, added_behind}
use Rattle.packedterms.proofs.WorkingFormula.add_term.Goals as goal

pub find-requires : goal.find-requires
find-requires c =
    let suits = c.requires.tabled.0.suits in
    let b = c.requires.tabled.3 in
    record {
      sought = sought _ suits _ _ b _ _ _ _ _ c.requires.working;
      below_first = below-first _ suits _ _ b _ _ _ _ _ c.requires.working _ c.requires.behind;
    }

pub add_onto-requires : goal.add_onto-requires
add_onto-requires c =
    let (tabled, small, _, _) = c.requires.tabled in
    let held = c.requires.working.holds in
    let low = (c.in-Ok.ensures.equal refl).0 in
    record {
      tabled = (tabled, small, coef-small _ _ _ _ _ _ c.requires.working _ low);
      term = (low, held.count, term-place _ _ _ _ _ _ held _ low);
    }

pub returns-in-Ok : goal.returns-in-Ok
returns-in-Ok c =
    let (tabled, small, _, b) = c.requires.tabled in
    let f = c.args.self.now in
    let held = c.requires.working.holds in
    let low = (c.in-Ok.ensures.equal refl).0 in
    let e = c.add_onto.ensures.added in
    let h = onto-holds _ tabled.field f.coefs f.sizes f.blocks f.places f.terms _ c.args.x held low _ _ _ e in
    let less = h.0 in
    let sum = onto-formula _ tabled.field f.coefs f.sizes f.blocks f.places f.terms _ c.args.x held low _ _ _ e in
    let inserted = onto_inserted _ tabled _ _ small _ b _ _ _ _ _ c.requires.working _ c.in-Ok.ensures refl sum in
    rw (c.add_onto.ensures.words.0, c.add_onto.ensures.words.1) record {
      holds = (omega arith, h.1);
      inserted = inserted;
      behind_2 = added_behind _ tabled _ _ small _ b _ _ _ _ _ c.requires.working _ c.in-Ok.ensures inserted;
    }

pub returns-then-x-ne0 : goal.returns-then-x-ne0
returns-then-x-ne0 c =
    let (tabled, small, free, b) = c.requires.tabled in
    let held = c.requires.working.holds in
    let low = c.in-Err.ensures.low in
    let e = c.put_before.ensures.put in
    let sum = before-formula _ _ _ _ _ _ _ _ _ _ _ _ _ _ held free low b e in
    let inserted = before_inserted _ tabled _ _ small _ b _ _ _ _ _ c.requires.working _ c.in-Err.ensures refl c.if-x-ne0.true sum in
    rw c.put_before.ensures.terms record {
      holds = (omega arith, before-holds _ _ _ _ _ _ _ _ _ _ _ _ _ _ held free low b e);
      inserted = inserted;
      behind_2 = added_behind _ tabled _ _ small _ b _ _ _ _ _ c.requires.working _ c.in-Err.ensures inserted;
    }

pub returns-else-x-ne0 : goal.returns-else-x-ne0
returns-else-x-ne0 c =
    let (tabled, small, _, b) = c.requires.tabled in
    let inserted = zero_inserted _ tabled _ _ small _ b _ _ _ _ _ c.requires.working _ c.in-Err.ensures refl c.if-x-ne0.false refl in
    record {
      holds = (omega arith, c.requires.working.holds);
      inserted = inserted;
      behind_2 = added_behind _ tabled _ _ small _ b _ _ _ _ _ c.requires.working _ c.in-Err.ensures inserted;
    }
