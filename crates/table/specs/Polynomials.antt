-- The polynomials of a table: relations and basis.
use Rattle.std.specs.Prelude.{◌≢◌, List, [], ◌∷◌, ℕ, zero, suc, ◌+◌, ◌-◌}
use Rattle.lists.specs.All.{All}
use Rattle.words.specs.Word.{Word}
use Rattle.algebra.specs.Poly.{Term, Poly}
use Rattle.working.specs.Working.{terms}
use Rattle.table.specs.Table.{gens_in, basis_count_in, first_in, coef_in, size_in, blocks_in}
use Rattle.table.specs.Words.{word_of}

-- The word of term i, and the term.
abbrev pub word_in : List ℕ → ℕ → Word
word_in t i = word_of t (size_in t i) (blocks_in t i)

abbrev pub term_in : List ℕ → ℕ → Term
term_in t i = record { coef = coef_in t i; word = word_in t i }

-- The polynomial of item j.
abbrev pub polynomial_in : List ℕ → ℕ → Poly
polynomial_in t j = terms (term_in t) (first_in t j) (first_in t (suc j) - first_in t j)

-- n polynomials, from item j on.
unfoldable pub polynomials_in : List ℕ → ℕ → ℕ → List Poly
unfolding terms
polynomials_in t j zero = []
polynomials_in t j (suc n) = polynomial_in t j ∷ polynomials_in t (suc j) n

-- The relations, and the basis behind them.
abbrev pub relations_in : List ℕ → List Poly
relations_in t = polynomials_in t 1 (gens_in t)

abbrev pub basis_in : List ℕ → List Poly
basis_in t = polynomials_in t (gens_in t + 1) (basis_count_in t)

-- None of the polynomials is zero.
abbrev pub NoneZero : List Poly → Type 0
NoneZero ps = All (λ f. f ≢ []) ps
