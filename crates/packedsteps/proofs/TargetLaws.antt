-- Where a step applies to the formula, from what the search on packed words tells.
use mathlib.Core.Path.{◌≡◌, sym, ◌∙◌, ap}
use mathlib.Core.List.{List, [], ◌∷◌, map}
use Prim.Native.Nat.{ℕ, zero, suc, ◌+◌, ◌-◌, ◌%◌, ◌≤◌, ◌<◌}
use native.Mathlib.Nat.{add-zero}
use native.Mathlib.Decide.{dec_le}
use native.Mathlib.Omega.{arith}
use Rattle.lists.specs.All.{All, done, ◌also◌}
use Rattle.words.specs.Word.{Word}
use Rattle.algebra.specs.Poly.{Term, Poly}
use Rattle.algebra.specs.Spot.{spot, nowhere, found, reduced, reducible, target}
use Rattle.working.specs.Change.{single}
use Rattle.working.proofs.Terms.{terms-length, terms_at}
use Rattle.leads.specs.CodeIndex.{CodeIndexed}
use Rattle.leads.specs.LeadCodes.{lead_codes_from, lead_codes_in, codes_in}
use Rattle.leads.specs.SpotOfWords.{spot_of_words}
use Rattle.leads.proofs.SpotOfTable.{spot_of_table}
use Rattle.packedsteps.specs.Spots.{term_of_of, NoSpots}
use Rattle.std.specs.Prelude.{Some, None}
use Rattle.packedsteps.specs.declared.Target.{Target}
use Rattle.packedsteps.proofs.Targets.{no_spots_next, target_found, target-reduced}
use Rattle.packedwords.specs.Packed.{Codes, unpacked}
use Rattle.packedwords.proofs.Packing.{unpacked-codes}
use Rattle.table.specs.Table.{gens_in, basis_count_in, letter_in, first_in, size_in, blocks_in}
use Rattle.table.specs.Polynomials.{basis_in}
use Rattle.table.specs.Tabled.{Tabled}
use Rattle.packedterms.specs.declared.WorkingFormula.{WorkingFormula}
use Rattle.packedterms.specs.InFormula.{term_in, formula_in, WorkingIn}
use Rattle.packedterms.proofs.Places.{term-place}
use Rattle.packedsteps.specs.Search.{codes_at, Placed, FirstFound}

-- codes one by one
codes_all : (w : Word) → Codes w → All (λ (c : ℕ). c < 32) w
codes_all [] h = done
codes_all (a ∷ w) h = h 0 also codes_all w (λ i. h (suc i))

lead-codes-all : (t : List ℕ) (j n : ℕ) → All (All (λ (c : ℕ). c < 32)) (lead_codes_from t j n)
unfolding lead_codes_from
lead-codes-all t j zero = done
lead-codes-all t j (suc n) =
    codes_all (codes_in t (first_in t j)) (unpacked-codes (size_in t (first_in t j) % 256) (blocks_in t (first_in t j))) also lead-codes-all t (suc j) n

module _ (t : List ℕ) (T : Tabled t) (index : List ℕ) (L : CodeIndexed (lead_codes_in t) index) where
  -- the spot of a packed word is that of its letters
  pub packed-spot : (n : ℕ) (bs : List ℕ) → spot_of_words (lead_codes_in t) (unpacked n bs) ≡ spot (basis_in t) (map (letter_in t) (unpacked n bs))
  packed-spot n bs =
      spot_of_table t T (λ (c : ℕ). c < 32) T.keys.own (lead-codes-all t (gens_in t + 1) (basis_count_in t)) (unpacked n bs)
      (codes_all (unpacked n bs) (unpacked-codes n bs))

  module _ (h : WorkingFormula) where
    abbrev n : ℕ
    n = h.terms

    abbrev f : Poly
    f = formula_in t h

    term_is : (k : ℕ) → k < n → term_of_of f k ≡ term_in t h k
    term_is k q = terms_at (term_in t h) n k (single 0 []) q

    spot_at_lem : (k : ℕ) → k < n → spot_of_words (lead_codes_in t) (codes_at h k) ≡ spot (basis_in t) (term_of_of f k).word
    spot_at_lem k q = packed-spot _ _ ∙ ap (λ (u : Term). spot (basis_in t) u.word) (sym (term_is k q))

    -- words without a leading word inside, from one term to another
    none_to : (from d : ℕ) → NoSpots (basis_in t) f from → ((j : ℕ) → from ≤ j → j < from + d → j < n → spot_of_words (lead_codes_in t) (codes_at h j) ≡ nowhere)
        → from + d ≤ n → NoSpots (basis_in t) f (from + d)
    none_to from zero none q m = rw (add-zero from) none
    none_to from (suc d) none q m =
        let e : from + suc d ≡ from + d + 1 = omega arith in
        let long = terms-length (term_in t h) 0 n in
        let before = none_to from d none (λ j a b i. q j a (omega arith) i) (omega arith) in
        rw e (no_spots_next (basis_in t) f (from + d) before (omega arith) (sym (spot_at_lem (from + d) (omega arith)) ∙ q (from + d) (omega arith) (omega arith) (omega arith)))

    -- nothing was found
    pub none-pending : (from : ℕ) → NoSpots (basis_in t) f from → FirstFound (lead_codes_in t) (codes_at h) from n None → target (basis_in t) f ≡ reduced
    unfolding FirstFound
    none-pending from none q = go (dec_le n from)
      where
        go : Dec (n ≤ from) → target (basis_in t) f ≡ reduced
        go (yes end) = let long = terms-length (term_in t h) 0 n in target-reduced (basis_in t) f from none (omega arith)
        go (no more) =
            let long = terms-length (term_in t h) 0 n in
            let all = none_to from (n - from) none (λ j lo hi i. q j lo i) (omega arith) in
            target-reduced (basis_in t) f (from + (n - from)) all (omega arith)

    -- a term was found
    pub found-pending : (from : ℕ) (a : Target) → NoSpots (basis_in t) f from → FirstFound (lead_codes_in t) (codes_at h) from n (Some a)
        → (a.term < n) × (spot (basis_in t) (term_in t h a.term).word ≡ found a.place a.number)
        × (target (basis_in t) f ≡ reducible (term_in t h a.term) a.place a.number) × NoSpots (basis_in t) f a.term
    unfolding FirstFound
    found-pending from a before_from (lo, hi, e, none) =
        let k = a.term in
        let long = terms-length (term_in t h) 0 n in
        let s = sym (spot_at_lem k hi) ∙ e in
        let d : from + (k - from) ≡ k = omega arith in
        let before = rw d at (none_to from (k - from) before_from (λ j b d i. none j b (omega arith)) (omega arith)) in (
          hi,
          ap (λ (u : Term). spot (basis_in t) u.word) (sym (term_is k hi)) ∙ s,
          target_found (basis_in t) f k before (omega arith) a.place a.number s ∙ ap (λ (u : Term). reducible u a.place a.number) (term_is k hi),
          before,
        )

-- the search can read the terms
pub working-placed : (t : List ℕ) (h : WorkingFormula) → WorkingIn t h → Placed h
working-placed t h W = record {
  count = W.holds.count;
  place = term-place _ _ _ _ _ _ W.holds;
  packs = λ i q. (W.holds.held i q).packs;
}
