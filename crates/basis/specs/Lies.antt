-- Polynomials of a basis that lie in slices.
use Rattle.std.specs.Prelude.{List, ℕ}
use Rattle.working.specs.Family.{Terms, Runs}

-- count polynomials lie in the slices, from entry base of firsts on: parts of the first m terms, which are well formed with elements below p, for some p and m.
pub record BasisLies (coefs starts lens bytes firsts : List ℕ) (base count : ℕ) : Type 0 where
  pub p : ℕ
  pub m : ℕ
  pub terms : Terms p coefs starts lens bytes m
  pub runs : Runs firsts base count m
