-- Demand 2: the check answers number 0 exactly for the texts of readable packages of which the facts of acceptance hold.
use mathlib.Core.Path.{◌≡◌, refl, sym, ◌∙◌, ap}
use mathlib.Core.Logic.{◌↔◌}
use mathlib.Core.List.{List}
use Prim.Native.Nat.{ℕ}
use native.Mathlib.Omega.{arith}
use Rattle.package.specs.Package.{Outcome, refused, read, read_package}
use Rattle.package.proofs.PackageTexts.{reads_iff}
use Rattle.acceptance.specs.Check.{checked}
use Rattle.acceptance.proofs.Packages.{accepted_iff_facts}
use Rattle.acceptance.specs.Acceptance.{judged_by, acceptance}
use Rattle.services.specs.Services.{check_answer, checked_as}
use Rattle.services.specs.Demands.{Between, FactsHold}
use Rattle.package.proofs.ReadingNumbers.{Numbered, read_known}
use Rattle.services.proofs.Answers.{accepted_is, answered-fine}

pub accepted_iff : (bytes : List ℕ) → ((checked_as bytes).number ≡ 0) ↔ FactsHold bytes
unfolding checked_as check_answer acceptance judged_by Numbered
accepted_iff bytes = (λ n. go (read_package bytes) refl (read_known bytes) n, from)
  where
    go : (o : Outcome) → read_package bytes ≡ o → Numbered (Between 1 7) (read_package bytes) → (checked_as bytes).number ≡ 0 → FactsHold bytes
    go (refused r k) q u n =
        let b : Between 1 7 r = rw q at u in
        let e : r ≡ 0 = ap (λ (x : Outcome). (check_answer (judged_by checked x)).number) (sym q) ∙ n in absurd (omega (arith, b.0))
    go (read P) q u n =
        let (x, y, z) = (reads_iff bytes P).0 q in
        record { content = P; is_text = y; size = z; readable = x; facts = (accepted_iff_facts P x).0 (answered-fine bytes P q n) }

    from : FactsHold bytes → (checked_as bytes).number ≡ 0
    from h =
        let P = h.content in
        let e = (reads_iff bytes P).1 (h.readable, h.is_text, h.size) in
        ap (λ (o : Outcome). (check_answer o).number) (accepted_is bytes P e ((accepted_iff_facts P h.readable).1 h.facts))
