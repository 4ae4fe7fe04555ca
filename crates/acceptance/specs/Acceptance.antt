-- What a package's bytes are accepted as (document 01, 'Numbers and places': the order of refusals).
use Rattle.std.specs.Prelude.{List, ℕ}
use Rattle.package.specs.Package.{Package, Outcome, refused, read, read_package}
use Rattle.acceptance.specs.Check.{Verdict, refusal, fine, checked}

-- A package's bytes, judged: refused with number and place, or the package.
unfoldable pub judged_by : (Package → Verdict) → Outcome → Outcome
judged_by judge (refused n k) = refused n k
judged_by judge (read P) = elim (judge P) [ refusal n k ↦ refused n k | fine ↦ read P ]

-- The check judges 1 to 15; what it does not refuse is accepted.
unfoldable pub acceptance : List ℕ → Outcome
unfolding judged_by read_package checked
acceptance bytes = judged_by checked (read_package bytes)
