-- What a step leaves, told of the formula and of the arrays behind it.
use mathlib.Core.Path.{◌≡◌, refl, sym, ◌∙◌, ap}
use mathlib.Core.List.{List, []}
use Prim.Native.Nat.{ℕ, ◌≤◌, ◌<◌}
use native.Mathlib.Omega.{arith}
use lib.ListN.{length}
use Rattle.algebra.specs.Poly.{Poly}
use Rattle.algebra.specs.Spot.{spot, found, reducible, target}
use Rattle.algebra.specs.Steps.{stepped}
use Rattle.working.specs.Change.{single}
use Rattle.working.proofs.Terms.{terms-length, terms_at}
use Rattle.leads.specs.CodeIndex.{CodeIndexed}
use Rattle.leads.specs.LeadCodes.{lead_codes_in}
use Rattle.packedsteps.specs.Spots.{term_of_of, NoSpots}
use Rattle.std.specs.Prelude.{Some}
use Rattle.packedsteps.specs.declared.Target.{Target}
use Rattle.packedsteps.proofs.TermsBefore.{stepped_no_spots}
use Rattle.table.specs.Table.{field_in, order_in}
use Rattle.table.specs.Polynomials.{basis_in}
use Rattle.table.specs.Tabled.{Tabled}
use Rattle.packedterms.specs.declared.PackedWord.{PackedWord}
use Rattle.packedterms.specs.declared.WorkingFormula.{WorkingFormula}
use Rattle.packedterms.specs.InFormula.{term_in, formula_in, WorkingIn}
use Rattle.packedsteps.specs.Search.{codes_at, FirstFound}
use Rattle.packedsteps.specs.Lines.{LineTaken}
use Rattle.packedsteps.specs.Advance.{Pending, TooMany, StepMade}
use Rattle.packedsteps.proofs.TargetLaws.{found-pending}

module _ {t : List ℕ} (T : Tabled t) {index : List ℕ} (L : CodeIndexed (lead_codes_in t) index) (h : WorkingFormula) (W : WorkingIn t h)
    (from : ℕ) (none : NoSpots (basis_in t) (formula_in t h) from) (at : Target) (q : FirstFound (lead_codes_in t) (codes_at h) from h.terms (Some at)) where
  abbrev k : ℕ
  k = at.term

  abbrev i : ℕ
  i = at.place

  abbrev g : ℕ
  g = at.number

  abbrev f : Poly
  f = formula_in t h

  pub told : (k < h.terms) × (spot (basis_in t) ((term_in t h k).word) ≡ found i g) × (target (basis_in t) f ≡ reducible (term_in t h k) i g) × NoSpots (basis_in t) f k
  told = found-pending t T index L h from at none q

  pub told-inside : k < h.terms
  told-inside = told.0

  pub told-spot : spot (basis_in t) ((term_in t h k).word) ≡ found i g
  told-spot = told.1

  abbrev pub pending : Pending t f
  pending = record { term = term_in t h k; place = i; number = g; at = told.2 }

  module _ (used budget : ℕ) (more : used < budget) (h' : WorkingFormula)
      (sum : formula_in t h' ≡ stepped (field_in t) (order_in t) (basis_in t) f (term_in t h k) i g) where
    pub too_many : 512 < h'.terms → TooMany t f used budget
    too_many over =
        let size = ap (λ (q : Poly). length q) (sym sum) ∙ terms-length (term_in t h') 0 h'.terms in
        record { pending = pending; more = more; many = rw size over }

    pub step_made : (left right : PackedWord 6) (x : ℕ) → h'.terms ≤ 512 → WorkingIn t h' → LineTaken t (term_in t h k) i g x left right
        → StepMade t f used budget h' left right k g x
    step_made left right x few W' line =
        let long = terms-length (term_in t h) 0 h.terms in
        let same : term_of_of f k ≡ term_in t h k = terms_at (term_in t h) h.terms k (single 0 []) told-inside in
        let here : spot (basis_in t) (term_of_of f k).word ≡ found i g = rw same told-spot in
        let inside = told-inside in
        let clear = stepped_no_spots T.field T.suits.admissible (basis_in t) T.basis-written f k i g W.written (omega arith) told.3 here in
        record {
          pending = pending;
          more = more;
          few = few;
          working = W';
          sum = sum;
          clear = rw (sum, ← same) clear;
          of = refl;
          line = line;
        }
