-- The three demands (specs/Demands.antt) hold.
use mathlib.Core.Path.{◌≡◌, refl, sym, ◌∙◌}
use mathlib.Core.Logic.{◌≢◌, ◌⊎◌, inl, inr}
use Prim.Native.Nat.{ℕ, zero, suc, ◌≤◌}
use native.Mathlib.Omega.{arith}
use lib.ListN.{length}
use Rattle.services.specs.Services.{checked_as, listed_as, shortened_as, membership_as}
use Rattle.services.specs.Demands.{Between, Demand1, Demand2, Demand3}
use Rattle.services.proofs.ServiceNumbers.{check_numbers, check_success, list_numbers, list_success, short_numbers, short_success, member_numbers, member_success}
use Rattle.services.proofs.Refusals.{refused-check, refused-list, refused-short, refused-member}
use Rattle.services.proofs.Acceptance.{accepted_iff}
use Rattle.services.proofs.Judgements.{package_first, formula-next, refusals-told, room-last}
use Rattle.services.proofs.FieldRefusals.{refused_by_3, check_3, list_3, short_3, member_3}
use Rattle.services.proofs.ZeroRefusals.{refused_by_8, check_8, list_8, short_8, member_8}
use Rattle.services.proofs.StepsByRule.{step-taken}
use Rattle.package.proofs.PackageTexts.{reads-written}
use Rattle.services.proofs.RunsByRule.{steps-end_iff}
use Rattle.services.proofs.DefinedAnswers.{check-count, list-overlaps, short_by_steps, member_by_steps}
use Rattle.services.proofs.ShortForms.{accepted-field, same-bytes_iff, written-short, member_iff}

-- An answer's number is 0, and a refusal's is not.
answer_or_refusal : {A B : Type 0} (n : ℕ) → (n ≡ 0 → A) → (n ≢ 0 → B) → A ⊎ B
answer_or_refusal zero a b = inl (a refl)
answer_or_refusal (suc n) a b = inr (b (λ e. omega arith))

positive : (n : ℕ) → n ≢ 0 → 1 ≤ n
positive zero h = absurd (h refl)
positive (suc n) h = omega arith

demand1 : Demand1
demand1 = record {
  check = λ bytes.
      let n = (checked_as bytes).number in
      answer_or_refusal n (λ e. (e, check_success bytes e)) (λ h. let (k, l) = check_numbers bytes in (((positive n h, k), l), refused-check bytes h));
  list = λ bytes out.
      let n = (listed_as bytes (length out)).number in
      answer_or_refusal n (λ e. (e, list_success bytes (length out) e))
      (λ h. let (a, b, c) = refused-list bytes out h in (listed n h (list_numbers bytes (length out)), a, b, c));
  short = λ bytes text budget out.
      let n = (shortened_as bytes text budget (length out)).number in
      answer_or_refusal n (λ e. (e, short_success bytes text budget (length out) e))
      (λ h. let (a, b, c) = refused-short bytes text budget out h in let (k, l) = short_numbers bytes text budget (length out) in (((positive n h, k), l), a, b, c));
  member = λ bytes text budget.
      let n = (membership_as bytes text budget).number in
      answer_or_refusal n (λ e. (e, member_success bytes text budget e))
      (λ h. let (a, b) = refused-member bytes text budget h in let (k, l) = member_numbers bytes text budget in (((positive n h, k), l), a, b));
}
  where
    listed : (n : ℕ) → n ≢ 0 → (n ≤ 8) ⊎ (n ≡ 19) → Between 1 8 n ⊎ (n ≡ 19)
    listed n h (inl l) = inl (positive n h, l)
    listed n h (inr e) = inr e

demand2 : Demand2
demand2 = record {
  accepted = accepted_iff;
  check-count = check-count;
  list = list-overlaps;
  no_field = refused_by_3;
  check-field = check_3;
  list-field = list_3;
  short-field = short_3;
  member-field = member_3;
  zero-basis = refused_by_8;
  check-zero = check_8;
  list-zero = list_8;
  short-zero = short_8;
  member-zero = member_8;
  package_first = package_first;
  formula-next = formula-next;
  step = λ bytes P acc {f} c {t} {i} {n} r. step-taken P (reads-written P bytes acc.reads).0 c r;
  steps = steps-end_iff;
  refusals = refusals-told;
  room-last = room-last;
  short = short_by_steps;
  member = member_by_steps;
}

demand3 : Demand3
demand3 = record {
  field = λ {bytes} {P} acc. accepted-field bytes P acc;
  same_bytes = λ {bytes} {P} acc {f} {g} x y.
      let i = same-bytes_iff bytes P acc x.text y.text f g x.reads y.reads x.budget y.budget x.out y.out x.answered y.answered in
      (λ e. i.0 (x.bytes-written ∙ e ∙ sym y.bytes-written), λ d. sym x.bytes-written ∙ i.1 d ∙ y.bytes-written);
  short-form = λ {bytes} {P} acc {f} x. rw x.bytes-written at (written-short bytes P acc x.text f x.reads x.budget x.out x.answered);
  member = λ {bytes} {P} acc text f reads budget. member_iff bytes P acc text f reads budget;
}

-- Every service answers, or refuses and changes nothing; what is answered is what 01 says; and short forms decide equality modulo the relations.
pub demands : Demand1 × Demand2 × Demand3
demands = (demand1, demand2, demand3)
