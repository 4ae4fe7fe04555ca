-- The check of a package that reads answers no refusal exactly where the facts of acceptance hold of it, and then its basis is accepted.
use mathlib.Core.Path.{◌≡◌}
use mathlib.Core.Logic.{◌↔◌}
use Rattle.field.specs.Field.{field_of}
use Rattle.words.specs.Word.{Letter}
use Rattle.words.specs.Order.{word_order}
use Rattle.words.proofs.WordOrder.{word-order-admissible}
use Rattle.algebra.specs.Ideal.{family}
use Rattle.algebra.specs.Short.{Accepted}
use Rattle.package.specs.Package.{Package}
use Rattle.package.specs.Readable.{Readable}
use Rattle.acceptance.specs.Content.{relations, basis}
use Rattle.acceptance.specs.Check.{fine, checked}
use Rattle.acceptance.specs.Facts.{Acceptable}
use Rattle.acceptance.proofs.AcceptedIff.{facts_iff}
use Rattle.acceptance.proofs.Accepted.{accepted}
use Rattle.acceptance.proofs.ReadableContent.{readable-field, relations-written, basis-written, sums-letters}

module _ (P : Package) (r : Readable P) where
  -- demand 2: a package that reads is accepted exactly when 01's facts hold of it
  pub accepted_iff_facts : (checked P ≡ fine) ↔ Acceptable P
  unfolding checked
  accepted_iff_facts = facts_iff (readable-field P r) word-order-admissible (relations P) (basis P) P.sums (relations-written P r) (basis-written P r)

  -- what acceptance means for the mathematics, in the package's letters
  pub package_accepted : Acceptable P → Accepted (Letter P.head.letters) (field_of P.head.p) word_order (family (relations P)) (family (basis P))
  package_accepted h =
      accepted (readable-field P r) word-order-admissible (relations P) (basis P) P.sums (relations-written P r) (basis-written P r) (sums-letters P r) h
