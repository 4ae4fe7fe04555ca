-- Steps by 01's rule are the computed sequence of steps: one end is reached from a formula, in one number of steps, and a run that ends reaches it.
use mathlib.Core.Path.{◌≡◌, refl, sym, ◌∙◌, ap}
use mathlib.Core.List.{List, [], ◌∷◌}
use Prim.Native.Nat.{ℕ, suc}
use lib.ListN.{length}
use Rattle.field.specs.Field.{field_of}
use Rattle.words.specs.Order.{word_order}
use Rattle.words.proofs.WordOrder.{word-order-admissible}
use Rattle.algebra.specs.Poly.{Term, Poly}
use Rattle.algebra.specs.Written.{Written}
use Rattle.algebra.specs.Ideal.{family, Line}
use Rattle.algebra.specs.Rewriting.{StepAt}
use Rattle.algebra.specs.StepRule.{StepRule, NoStep}
use Rattle.algebra.specs.Steps.{line_at, stepped, Sequence, ended, step}
use Rattle.algebra.proofs.ComputedSteps.{step_of_target}
use Rattle.algebra.proofs.RuleOfSteps.{target_iff, target-none_iff}
use Rattle.algebra.proofs.Running.{take_away-written, run_sequence}
use Rattle.algebra.proofs.OneSequence.{sequence_unique}
use Rattle.package.specs.Package.{Package}
use Rattle.package.specs.Readable.{Readable}
use Rattle.package.proofs.PackageTexts.{reads-written}
use Rattle.acceptance.specs.Content.{basis}
use Rattle.acceptance.specs.Reduction.{formula_limits}
use Rattle.acceptance.proofs.ReadableContent.{readable-field, basis-leading}
use Rattle.acceptance.proofs.FormulaContent.{formula-content}
use Rattle.services.specs.Demands.{StepsTo, unmoved, step_then, OnlySteps}
use Rattle.services.proofs.NumberZero.{accepted_as, RanTo}

module _ (P : Package) (r : Readable P) where
  -- A step leaves a polynomial in written form.
  pub stepped-written : (f : Poly) (t : Term) (i n : ℕ) → Written (field_of P.head.p) word_order f
      → Written (field_of P.head.p) word_order (stepped (field_of P.head.p) word_order (basis P) f t i n)
  unfolding stepped
  stepped-written f t i n c = take_away-written (readable-field P r) word-order-admissible (family (basis P)) f (line_at (field_of P.head.p) (basis P) t i n) c

  -- The step that the rule names is a step of the theory.
  pub step-taken : {f : Poly} → Written (field_of P.head.p) word_order f → {t : Term} {i n : ℕ} → StepRule word_order (basis P) f t i n
      → StepAt (field_of P.head.p) word_order (family (basis P)) f (stepped (field_of P.head.p) word_order (basis P) f t i n) t i n
  step-taken c {t} {i} {n} q =
      step_of_target (readable-field P r) word-order-admissible (basis P) (basis-leading P r) c t i n ((target_iff (basis P) word-order-admissible c t i n).1 q)

  rule_of_sequence : {f N : Poly} {xs : List Line} → Written (field_of P.head.p) word_order f
      → Sequence (field_of P.head.p) word_order (basis P) f xs N → StepsTo P f (length xs) N × NoStep (basis P) N
  rule_of_sequence {f} c (ended e) = (unmoved, (target-none_iff (basis P) f).0 e)
  rule_of_sequence {f} c (step {t = t} {i} {n} e s) =
      let (x, y) = rule_of_sequence (stepped-written f t i n c) s in
      (step_then ((target_iff (basis P) word-order-admissible c t i n).0 e) x, y)

  sequence_of_rule : {f N : Poly} {m : ℕ} → Written (field_of P.head.p) word_order f → StepsTo P f m N → NoStep (basis P) N
      → (xs : List Line) × Sequence (field_of P.head.p) word_order (basis P) f xs N × (length xs ≡ m)
  sequence_of_rule {f} c unmoved e = ([], ended ((target-none_iff (basis P) f).1 e), refl)
  sequence_of_rule {f} c (step_then {t = t} {i} {n} x s) e =
      let (xs, q, l) = sequence_of_rule (stepped-written f t i n c) s e in
      (line_at (field_of P.head.p) (basis P) t i n ∷ xs, step ((target_iff (basis P) word-order-admissible c t i n).1 x) q, ap suc l)

  -- One end is reached from f by the rule, in one number of steps.
  pub steps_unique : {f M N : Poly} {m n : ℕ} → Written (field_of P.head.p) word_order f
      → StepsTo P f m M → NoStep (basis P) M → StepsTo P f n N → NoStep (basis P) N → (m ≡ n) × (M ≡ N)
  steps_unique c a u b v =
      let (xs, s, l) = sequence_of_rule c a u in
      let (ys, q, k) = sequence_of_rule c b v in
      let (e, d) = sequence_unique s q in
      (sym l ∙ ap length e ∙ k, d)

-- A run that ended reached it.
pub only-steps : (bytes text : List ℕ) (budget : ℕ) (N : Poly) (m : ℕ) (x : RanTo bytes text budget N m) (n : ℕ) → n ≡ m → OnlySteps x.content x.input n N
only-steps bytes text budget N m x n e =
    let P = x.content in
    let r = (reads-written P bytes (accepted_as bytes P x.accepted).reads).0 in
    let c = (formula-content P.head.p P.head.letters formula_limits text x.input x.reads).0 in
    let (xs, s, l) = run_sequence 512 (field_of P.head.p) word_order (basis P) budget x.input N m x.ran in
    let (a, b) = rule_of_sequence P r c s in
    let w : StepsTo P x.input n N = rw (e, ← l) a in
    record { steps = w; last = b; only = λ k M v y. steps_unique P r c v y w b }
