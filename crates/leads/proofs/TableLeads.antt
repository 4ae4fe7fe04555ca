-- The leading words of a table's basis, by their numbers: there are as many as basis polynomials, and they have an index.
use mathlib.Core.Path.{◌≡◌, refl, sym, ◌∙◌, ap}
use mathlib.Core.List.{List, []}
use Prim.Native.Nat.{ℕ, zero, suc, ◌+◌, ◌-◌, ◌%◌, ◌≤◌, ◌<◌}
use native.Mathlib.Nat.{add-zero}
use native.Mathlib.Decide.{dec_lt}
use native.Mathlib.Omega.{arith}
use lib.ListN.{length, get_or}
use Rattle.lists.proofs.Every.{all_at, all_by_index}
use Rattle.algebra.specs.Ideal.{family}
use Rattle.working.specs.Working.{terms}
use Rattle.packedwords.specs.Packed.{Codes, Nonzero, unpacked}
use Rattle.packedwords.proofs.Packing.{unpacked-length, unpacked-codes}
use Rattle.table.specs.Table.{gens_in, basis_count_in, terms_in, items_in, first_in, size_in, blocks_in}
use Rattle.table.specs.Polynomials.{term_in, polynomial_in}
use Rattle.table.specs.Tabled.{Tabled}
use Rattle.table.proofs.Families.{polynomials-count, family-basis}
use Rattle.leads.specs.CodeIndex.{CodeIndexable}
use Rattle.leads.specs.LeadCodes.{codes_in, lead_codes_from, lead_codes_in}

module _ (t : List ℕ) where
  pub lead-codes-length : (j n : ℕ) → length (lead_codes_from t j n) ≡ n
  unfolding lead_codes_from
  lead-codes-length j zero = refl
  lead-codes-length j (suc n) = ap suc (lead-codes-length (suc j) n)

  pub lead-codes_at : (j n g : ℕ) → g < n → get_or (lead_codes_from t j n) g [] ≡ codes_in t (first_in t (j + g))
  unfolding lead_codes_from
  lead-codes_at j zero g h = absurd (omega arith)
  lead-codes_at j (suc n) zero h = ap (λ (i : ℕ). codes_in t (first_in t i)) (sym (add-zero j))
  lead-codes_at j (suc n) (suc g) h =
      let e : suc j + g ≡ j + suc g = omega arith in
      lead-codes_at (suc j) n g (omega arith) ∙ ap (λ (i : ℕ). codes_in t (first_in t i)) e

  -- No polynomial of the basis is zero, so each has a term.
  pub item-begins : Tabled t → (j : ℕ) → gens_in t < j → j ≤ items_in t → first_in t j < first_in t (suc j)
  unfolding family terms
  item-begins z j lo hi = go (dec_lt (first_in t j) (first_in t (suc j)))
    where
      k : ℕ
      k = j - gens_in t - 1

      go : Dec (first_in t j < first_in t (suc j)) → first_in t j < first_in t (suc j)
      go (yes q) = q
      go (no q) =
          let n = polynomials-count t (gens_in t + 1) (basis_count_in t) in
          let e : gens_in t + suc k ≡ j = omega arith in
          let none : first_in t (suc j) - first_in t j ≡ 0 = omega arith in
          let empty : polynomial_in t j ≡ [] = ap (terms (term_in t) (first_in t j)) none in
          absurd (all_at z.nonzero [] k (omega arith) (family-basis t k (omega arith) ∙ ap (polynomial_in t) e ∙ empty))

  -- leading word g, as it is read: base is the item of the first, i the term, s its size
  module _ (g base i s : ℕ) (b : base ≡ gens_in t + 1) (e : i ≡ first_in t (base + g)) where
    term-read : first_in t (gens_in t + 1 + g) ≡ i
    term-read = ap (λ (j : ℕ). first_in t (j + g)) (sym b) ∙ sym e

    pub lead-read : s ≡ size_in t i → g < basis_count_in t → get_or (lead_codes_in t) g [] ≡ unpacked (s % 256) (blocks_in t i)
    lead-read f h =
        lead-codes_at (gens_in t + 1) (basis_count_in t) g h ∙ ap (codes_in t) term-read ∙ ap (λ (z : ℕ). unpacked (z % 256) (blocks_in t i)) (sym f)

    pub term-inside : Tabled t → g < basis_count_in t → i < terms_in t
    term-inside h p =
        let j = gens_in t + 1 + g in
        let q = item-begins h j (omega arith) (omega arith) in
        let r = h.most j (omega arith) (omega arith) in
        let u = term-read in
        omega arith

  module _ (h : Tabled t) where
    pub leads_indexable : CodeIndexable (lead_codes_in t)
    leads_indexable =
        let n = lead-codes-length (gens_in t + 1) (basis_count_in t) in
        record {
          few = let b = h.basis in omega arith;
          short = all_by_index (lead_codes_in t) [] (λ g p. short g (omega arith));
          codes = all_by_index (lead_codes_in t) [] (λ g p. codes g (omega arith));
          nonzero = all_by_index (lead_codes_in t) [] (λ g p. nonzero g (omega arith));
        }
      where
        short : (g : ℕ) → g < basis_count_in t → length (get_or (lead_codes_in t) g []) ≤ 24
        short g p =
            let i = first_in t (gens_in t + 1 + g) in
            let e = ap length (lead-codes_at (gens_in t + 1) (basis_count_in t) g p) ∙ unpacked-length (size_in t i % 256) (blocks_in t i) in
            let s = h.short i (term-inside g (gens_in t + 1) i 0 refl refl h p) in
            omega arith

        codes : (g : ℕ) → g < basis_count_in t → Codes (get_or (lead_codes_in t) g [])
        codes g p =
            let i = first_in t (gens_in t + 1 + g) in
            rw (lead-codes_at (gens_in t + 1) (basis_count_in t) g p) (unpacked-codes (size_in t i % 256) (blocks_in t i))

        nonzero : (g : ℕ) → g < basis_count_in t → Nonzero (get_or (lead_codes_in t) g [])
        nonzero g p =
            let i = first_in t (gens_in t + 1 + g) in
            rw (lead-codes_at (gens_in t + 1) (basis_count_in t) g p) (h.coded i (term-inside g (gens_in t + 1) i 0 refl refl h p))
