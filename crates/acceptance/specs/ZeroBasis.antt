-- Refusal 8, as document 02 has it (P4): a fact about the bytes.
use Rattle.std.specs.Prelude.{◌≡◌, ◌≢◌, List, [], ℕ, ◌≤◌, ◌<◌, length}
use Rattle.algebra.specs.Poly.{Poly}
use Rattle.algebra.specs.Ideal.{family}
use Rattle.package.specs.Package.{Package, read, read_package}
use Rattle.acceptance.specs.Content.{basis}

-- Polynomial number i of the list, counted from 1, is zero, and none before it is.
pub record FirstZero (ps : List Poly) (i : ℕ) : Type 0 where
  pub some : 1 ≤ i
  pub most : i ≤ length ps
  pub zero : family ps i ≡ []
  pub before : (k : ℕ) → 1 ≤ k → k < i → family ps k ≢ []

-- The bytes read as a package, whose basis polynomial number i is the first that is zero. Its sums may be any that read.
pub record ZeroBasis (bytes : List ℕ) (i : ℕ) : Type 0 where
  pub content : Package
  pub reads : read_package bytes ≡ read content
  pub first : FirstZero (basis content) i
