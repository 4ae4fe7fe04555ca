-- The leading term of a basis polynomial by its number: the first term of its item. No basis polynomial of a table is zero, so each has one.
use mathlib.Core.Path.{◌≡◌, refl, sym, ◌∙◌, ap}
use mathlib.Core.Logic.{◌≢◌}
use mathlib.Core.List.{List, []}
use Prim.Native.Nat.{ℕ, zero, suc, ◌+◌, ◌-◌, ◌%◌, ◌≤◌, ◌<◌}
use native.Mathlib.Decide.{dec_lt}
use native.Mathlib.Omega.{arith}
use lib.ListN.{length, get_or-eq_default}
use Rattle.lists.proofs.Every.{all_at}
use Rattle.algebra.specs.Poly.{Term, Poly}
use Rattle.algebra.specs.Ideal.{family}
use Rattle.algebra.specs.Groebner.{lead, lead_coef}
use Rattle.working.specs.Working.{terms}
use Rattle.table.specs.Table.{gens_in, basis_count_in, items_in, terms_in, first_in, size_in, blocks_in}
use Rattle.table.specs.Polynomials.{word_in, term_in, polynomial_in, basis_in}
use Rattle.table.specs.Tabled.{Tabled}
use Rattle.table.proofs.WordSizes.{word_size}
use Rattle.table.proofs.Families.{polynomials-count, family-basis}

-- the number of a polynomial that is not zero is one of the basis
pub number_in : (t : List ℕ) (g : ℕ) → family (basis_in t) g ≢ [] → (1 ≤ g) × (g ≤ basis_count_in t)
unfolding family
number_in t zero h = absurd (h refl)
number_in t (suc g) h = (omega arith, go (dec_lt (basis_count_in t) (suc g)))
  where
    go : Dec (basis_count_in t < suc g) → suc g ≤ basis_count_in t
    go (no q) = omega arith
    go (yes q) =
        let n = polynomials-count t (gens_in t + 1) (basis_count_in t) in
        let k : length (basis_in t) ≤ g = omega arith in
        absurd (h (get_or-eq_default (basis_in t) [] k))

pub basis-some : (t : List ℕ) → Tabled t → (g : ℕ) → g < basis_count_in t → family (basis_in t) (suc g) ≢ []
unfolding family
basis-some t T g h = all_at T.nonzero [] g (rw (polynomials-count t (gens_in t + 1) (basis_count_in t)) h)

-- terms that are not zero lead with the first
pub terms-first : (F : ℕ → Term) (i n : ℕ) → terms F i n ≢ [] → (0 < n) × (lead (terms F i n) ≡ (F i).word) × (lead_coef (terms F i n) ≡ (F i).coef)
unfolding terms lead lead_coef
terms-first F i zero h = absurd (h refl)
terms-first F i (suc n) h = (omega arith, refl, refl)

-- What is needed of the leading term of basis polynomial g.
pub record LeadTerm (t : List ℕ) (g : ℕ) : Type 0 where
  pub some : 1 ≤ g
  pub most : g ≤ basis_count_in t
  pub item : gens_in t + g ≤ items_in t
  pub polynomial : family (basis_in t) g ≡ polynomial_in t (gens_in t + g)
  pub inside : first_in t (gens_in t + g) < terms_in t
  pub word : word_in t (first_in t (gens_in t + g)) ≡ lead (family (basis_in t) g)
  pub letters : length (lead (family (basis_in t) g)) ≡ size_in t (first_in t (gens_in t + g)) % 256

pub lead-term : (t : List ℕ) → Tabled t → (g : ℕ) → 1 ≤ g → g ≤ basis_count_in t → LeadTerm t g
lead-term t T zero some most = absurd (omega arith)
lead-term t T (suc k) some most =
    let j = gens_in t + suc k in
    let e = family-basis t k (omega arith) in
    let f = terms-first (term_in t) (first_in t j) (first_in t (suc j) - first_in t j) (λ z. basis-some t T k (omega arith) (e ∙ z)) in
    let lo = f.0 in
    let end = T.most j (omega arith) (omega arith) in
    let i = first_in t j in
    record {
      some = some;
      most = most;
      item = omega arith;
      polynomial = e;
      inside = omega arith;
      word = sym (ap lead e ∙ f.1);
      letters = ap (λ (q : Poly). length (lead q)) e ∙ ap length f.1 ∙ word_size t (size_in t i) (blocks_in t i);
    }
