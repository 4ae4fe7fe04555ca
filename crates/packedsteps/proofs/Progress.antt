-- A run has come so far: what is still to be done gives what the whole gives, and no word before term `from` has a leading word inside.
use mathlib.Core.Path.{◌≡◌, sym, ◌∙◌, ap}
use mathlib.Core.List.{List}
use Prim.Native.Nat.{ℕ, suc, ◌+◌, ◌-◌, ◌≤◌, ◌<◌}
use native.Mathlib.Nat.{sub-zero}
use native.Mathlib.Numerals.{add-one}
use native.Mathlib.Omega.{arith}
use lib.ListN.{length}
use Rattle.lists.specs.All.{done}
use Rattle.algebra.specs.Poly.{Poly}
use Rattle.algebra.specs.Spot.{reduced, target}
use Rattle.algebra.specs.Steps.{Ended, over, run}
use Rattle.working.proofs.Terms.{terms-length}
use Rattle.packedsteps.specs.Spots.{NoSpots}
use Rattle.std.specs.Prelude.{Ok, Err}
use Rattle.packedsteps.specs.declared.Stop.{Stop}
use Rattle.packedsteps.specs.declared.Stop.TheVariants.{Over, Spent}
use Rattle.packedsteps.proofs.RunTurns.{run-answer, run-spent, run-over, run-next}
use Rattle.table.specs.Table.{field_in, order_in}
use Rattle.table.specs.Polynomials.{basis_in}
use Rattle.packedterms.specs.declared.PackedWord.{PackedWord}
use Rattle.packedterms.specs.declared.WorkingFormula.{WorkingFormula}
use Rattle.packedterms.specs.InFormula.{term_in, formula_in, WorkingIn}
use Rattle.packedsteps.specs.Advance.{after_step, StepMade, AdvancedTo}
use Rattle.packedsteps.specs.Outcome.{ran_seen, RanHolds}

pub record Progress (t : List ℕ) (budget : ℕ) (h : WorkingFormula) (from used : ℕ) (whole : Ended) : Type 0 where
  pub working : WorkingIn t h
  pub few : h.terms ≤ 512
  pub clear : NoSpots (basis_in t) (formula_in t h) from
  pub within : used ≤ budget
  pub same : run 512 (field_in t) (order_in t) (basis_in t) (budget - used) used (formula_in t h) ≡ whole

pub progress_start : (t : List ℕ) (budget : ℕ) (h : WorkingFormula) → WorkingIn t h → h.terms ≤ 512
    → Progress t budget h 0 0 (run 512 (field_in t) (order_in t) (basis_in t) budget 0 (formula_in t h))
progress_start t budget h W few = record {
  working = W;
  few = few;
  clear = done;
  within = omega arith;
  same = rw sub-zero;
}

module _ {t : List ℕ} {budget : ℕ} {h : WorkingFormula} {from used : ℕ} {whole : Ended} (p : Progress t budget h from used whole) where
  abbrev f : Poly
  f = formula_in t h

  -- nothing is left to be done
  pub progress_answer : target (basis_in t) f ≡ reduced → (h' : WorkingFormula) → WorkingIn t h' → formula_in t h' ≡ f
      → (ran_seen t h' (Ok used) ≡ whole) × RanHolds t h' (Ok used)
  unfolding ran_seen RanHolds
  progress_answer e h' W same =
      let size = sym (terms-length (term_in t h') 0 h'.terms) ∙ ap (λ (q : Poly). length q) same ∙ terms-length (term_in t h) 0 h.terms in
      let few = p.few in
      (rw same (sym (run-answer 512 (field_in t) (order_in t) (basis_in t) used f (budget - used) e) ∙ p.same), (omega (arith, size), W))

  -- one step is left of the budget at least
  left_is : used < budget → run 512 (field_in t) (order_in t) (basis_in t) (suc (budget - (used + 1))) used f ≡ whole
  left_is more = let e : budget - used ≡ suc (budget - (used + 1)) = omega arith in rw e at p.same

  -- the step leaves too many terms, or the budget is spent
  pub progress_stop : (s : Stop) (h' : WorkingFormula) (left right : PackedWord 6) → AdvancedTo t f used budget h' left right (Err s)
      → (ran_seen t h' (Err s) ≡ whole) × RanHolds t h' (Err s)
  unfolding AdvancedTo ran_seen RanHolds
  progress_stop (Over step) h' left right (e, m) =
      let q = m.pending in
      let turn = run-over 512 (field_in t) (order_in t) (basis_in t) used f q.term q.place q.number q.at (budget - (used + 1)) m.many in
      (ap over (e ∙ add-one used) ∙ sym turn ∙ left_is m.more, tt)
  progress_stop Spent h' left right (e, q) =
      let none : budget - used ≡ 0 = omega arith in
      let rest = rw none at p.same in
      (sym (run-spent 512 (field_in t) (order_in t) (basis_in t) used f q.term q.place q.number q.at) ∙ rest, tt)

  pub progress_next : (h' : WorkingFormula) (left right : PackedWord 6) (k g x : ℕ) → StepMade t f used budget h' left right k g x
      → Progress t budget h' k (used + 1) whole
  progress_next h' left right k g x m =
      let q = m.pending in
      let more = m.more in
      let size = ap (λ (r : Poly). length r) (sym m.sum) ∙ terms-length (term_in t h') 0 h'.terms in
      let few = m.few in
      let turn = run-next 512 (field_in t) (order_in t) (basis_in t) used f q.term q.place q.number q.at (budget - (used + 1)) (omega (arith, size)) in
      let one = add-one used in
      record {
        working = m.working;
        few = m.few;
        clear = m.clear;
        within = omega arith;
        same = rw m.sum (ap (λ (x : ℕ). run 512 (field_in t) (order_in t) (basis_in t) (budget - (used + 1)) x (after_step t f q)) one ∙ sym turn ∙ left_is more);
      }
