-- The spot of the leading codes of a table's basis is the spot of the basis, in the word of letters.
use mathlib.Core.Path.{◌≡◌, refl, sym, ◌∙◌, ap, ap₂}
use mathlib.Core.List.{List, ◌∷◌, map}
use Prim.Native.Nat.{ℕ, zero, suc, ◌+◌, ◌-◌, ◌≤◌, ◌<◌}
use native.Mathlib.Omega.{arith}
use Rattle.lists.specs.All.{All}
use Rattle.words.specs.Word.{Word}
use Rattle.algebra.specs.Groebner.{lead}
use Rattle.algebra.specs.Spot.{spot}
use Rattle.working.specs.Working.{terms}
use Rattle.table.specs.Table.{gens_in, basis_count_in, first_in, letter_in}
use Rattle.table.specs.Polynomials.{polynomial_in, polynomials_in, basis_in}
use Rattle.table.specs.Tabled.{Tabled}
use Rattle.leads.specs.LeadCodes.{codes_in, lead_codes_from, lead_codes_in}
use Rattle.leads.specs.SpotOfWords.{spot_of_words}
use Rattle.leads.proofs.TableLeads.{item-begins}
use Rattle.leads.proofs.SpotOfLeads.{spot_of_leads}
use Rattle.leads.proofs.SpotOfCodes.{spot_in_letters}

module _ (t : List ℕ) where
  -- an item that has a term leads with the word of its first term
  item-leads : (j : ℕ) → first_in t j < first_in t (suc j) → map (letter_in t) (codes_in t (first_in t j)) ≡ lead (polynomial_in t j)
  unfolding terms lead
  item-leads j h =
      let n = first_in t (suc j) - first_in t j - 1 in
      let e : first_in t (suc j) - first_in t j ≡ suc n = omega arith in
      rw e refl

  from_leads : (j n : ℕ) → ((i : ℕ) → j ≤ i → i < j + n → first_in t i < first_in t (suc i))
      → map (map (letter_in t)) (lead_codes_from t j n) ≡ map lead (polynomials_in t j n)
  unfolding lead_codes_from polynomials_in
  from_leads j zero h = refl
  from_leads j (suc n) h =
      ap₂ ◌∷◌ (item-leads j (h j (omega arith) (omega arith))) (from_leads (suc j) n (λ i a b. h i (omega arith) (omega arith)))

  module _ (h : Tabled t) where
    -- the leading codes, in letters, are the leading words of the basis
    pub lead-codes_in_letters : map (map (letter_in t)) (lead_codes_in t) ≡ map lead (basis_in t)
    lead-codes_in_letters = from_leads (gens_in t + 1) (basis_count_in t) (λ i a b. item-begins t h i (omega arith) (omega arith))

    -- Where no two codes that have P stand for one letter, and the words have such codes alone, the spot of the leading codes in a word of codes is
    -- the spot of the basis in the word of letters.
    pub spot_of_table : (P : ℕ → Type 0) → ((c d : ℕ) → P c → P d → letter_in t c ≡ letter_in t d → c ≡ d)
        → All (All P) (lead_codes_in t) → (w : Word) → All P w → spot_of_words (lead_codes_in t) w ≡ spot (basis_in t) (map (letter_in t) w)
    spot_of_table P own p w q =
        sym (spot_in_letters P (letter_in t) own (lead_codes_in t) w p q)
        ∙ ap (λ (ls : List Word). spot_of_words ls (map (letter_in t) w)) lead-codes_in_letters
        ∙ spot_of_leads (basis_in t) h.nonzero (map (letter_in t) w)
