-- A package that was accepted, in its table.
use Rattle.std.specs.Prelude.{◌≡◌, List, ℕ, length, Result, Ok, Err}
use Rattle.package.specs.declared.Refusal.{Refusal}
use Rattle.package.specs.Package.{Package, refused, read}
use Rattle.package.specs.Readable.{Readable}
use Rattle.overlaps.specs.Overlaps.{leads, overlaps}
use Rattle.acceptance.specs.Content.{relations, basis}
use Rattle.acceptance.specs.Acceptance.{acceptance}
use Rattle.table.specs.Polynomials.{relations_in, basis_in}
use Rattle.table.specs.Tabled.{Tabled}
use Rattle.tablesums.specs.Heading.{head_in}

-- The bytes are accepted as a package, and t is its table.
pub record TableAccepted (bytes t : List ℕ) : Type 0 where
  pub whole : Package
  pub accepted : acceptance bytes ≡ read whole
  pub readable : Readable whole
  pub tabled : Tabled t
  pub head : whole.head ≡ head_in t
  pub relations : relations_in t ≡ relations whole
  pub basis : basis_in t ≡ basis whole

-- What the answer of reading and checking says of the bytes, and of the table.
unfoldable pub Accepts : List ℕ → List ℕ → Result ℕ Refusal → Type 0
unfolding acceptance overlaps leads
Accepts bytes t (Err r) = acceptance bytes ≡ refused r.number r.place
Accepts bytes t (Ok count) = TableAccepted bytes t × (count ≡ length (overlaps (leads (basis_in t))))
