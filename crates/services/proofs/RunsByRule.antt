-- A run ends as 01 says: with the answer where no step is left, with 17 where a step leaves over 512 terms, with 18 where the budget is used; and each of
-- these exactly then.
use mathlib.Core.Path.{◌≡◌, refl, sym, ◌∙◌, ap, subst}
use mathlib.Core.Bool.{Bool, true, false}
use mathlib.Core.Logic.{◌↔◌}
use mathlib.Core.List.{List}
use Prim.Native.Nat.{ℕ, zero, suc, ◌+◌, ◌≤◌, ◌<◌}
use native.Mathlib.Nat.{zero-add}
use native.Mathlib.Omega.{arith}
use lib.Dec.{ltb}
use lib.ListN.{length}
use borrow.Author.Tests.{lt-ltb, le-ltb, ltb-true, ltb-false}
use Rattle.field.specs.Field.{field_of}
use Rattle.words.specs.Order.{word_order}
use Rattle.words.proofs.WordOrder.{word-order-admissible}
use Rattle.algebra.specs.Poly.{Term, Poly}
use Rattle.algebra.specs.Written.{Written}
use Rattle.algebra.specs.StepRule.{StepRule, NoStep}
use Rattle.algebra.specs.Spot.{Target, reduced, reducible, target}
use Rattle.algebra.specs.Steps.{stepped, Ended, answer, over, spent, onward, run}
use Rattle.algebra.proofs.RuleOfSteps.{target_iff, target-none_iff, rule_unique}
use Rattle.package.specs.Package.{Package}
use Rattle.package.specs.Readable.{Readable}
use Rattle.package.proofs.PackageTexts.{reads-written}
use Rattle.acceptance.specs.Content.{basis}
use Rattle.acceptance.specs.Reduction.{formula_limits, Reduction, refused_by, short_form, reduction_of, reduction}
use Rattle.acceptance.proofs.FormulaContent.{formula-content}
use Rattle.services.specs.Demands.{AcceptedAs, ReadAs, StepsTo, unmoved, step_then, AtMost512, StepsEnd, nothing_left, too_many_of, budget_used}
use Rattle.services.proofs.FormulaSize.{formula-size}
use Rattle.services.proofs.Answers.{acceptance_is, reduction_is}
use Rattle.services.proofs.StepsByRule.{stepped-written}

module _ (P : Package) (r : Readable P) where
  -- The polynomial after the step at a term, a place and a number.
  abbrev after_step : Poly → Term → ℕ → ℕ → Poly
  after_step f t i n = stepped (field_of P.head.p) word_order (basis P) f t i n

  -- In written form.
  abbrev InForm : Poly → Type 0
  InForm f = Written (field_of P.head.p) word_order f

  -- A run of this package, with a budget of b, after `used` steps.
  abbrev run_from : ℕ → ℕ → Poly → Ended
  run_from b used f = run 512 (field_of P.head.p) word_order (basis P) b used f

  -- What follows a step with a budget of b more.
  abbrev afterwards : ℕ → ℕ → Poly → Term → ℕ → ℕ → Ended
  afterwards b used f t i n = elim (ltb 512 (length (after_step f t i n))) [ true ↦ over (suc used) | false ↦ run_from b (suc used) (after_step f t i n) ]

  -- Where the rule names a step, a run with some budget left makes it.
  run_step : (b used : ℕ) {f : Poly} → InForm f → {t : Term} {i n : ℕ} → StepRule word_order (basis P) f t i n → run_from (suc b) used f ≡ afterwards b used f t i n
  unfolding run onward
  run_step b used {f} c {t} {i} {n} e = ap (onward (afterwards b used f) f used) ((target_iff (basis P) word-order-admissible c t i n).1 e)

  run_small : (b used : ℕ) {f : Poly} → InForm f → {t : Term} {i n : ℕ} → StepRule word_order (basis P) f t i n → length (after_step f t i n) ≤ 512
      → run_from (suc b) used f ≡ run_from b (suc used) (after_step f t i n)
  run_small b used {f} c {t} {i} {n} e h =
      run_step b used c e
      ∙ ap (λ (x : Bool). elim x [ true ↦ over (suc used) | false ↦ run_from b (suc used) (after_step f t i n) ]) (le-ltb 512 (length (after_step f t i n)) h)

  run_large : (b used : ℕ) {f : Poly} → InForm f → {t : Term} {i n : ℕ} → StepRule word_order (basis P) f t i n → 512 < length (after_step f t i n)
      → run_from (suc b) used f ≡ over (suc used)
  run_large b used {f} c {t} {i} {n} e h =
      run_step b used c e
      ∙ ap (λ (x : Bool). elim x [ true ↦ over (suc used) | false ↦ run_from b (suc used) (after_step f t i n) ]) (lt-ltb 512 (length (after_step f t i n)) h)

  -- Where no step is left a run answers.
  run-last : (b used : ℕ) (f : Poly) → NoStep (basis P) f → run_from b used f ≡ answer f used
  unfolding run onward
  run-last zero used f e = ap (onward (λ t i n. spent) f used) ((target-none_iff (basis P) f).1 e)
  run-last (suc b) used f e = ap (onward (afterwards b used f) f used) ((target-none_iff (basis P) f).1 e)

  -- The way after a step that keeps to 512 terms.
  small-next : {f : Poly} {t : Term} {i n m : ℕ} → StepRule word_order (basis P) f t i n → AtMost512 P f (suc m) → AtMost512 P (after_step f t i n) m
  small-next e s k g l w = s (suc k) g (omega arith) (step_then e w)

  small_one : {f : Poly} {t : Term} {i n m : ℕ} → StepRule word_order (basis P) f t i n → AtMost512 P f (suc m) → length (after_step f t i n) ≤ 512
  small_one {f} {t} {i} {n} e s = s 1 (after_step f t i n) (omega arith) (step_then e unmoved)

  run-answers : {f N : Poly} {m : ℕ} (b used : ℕ) → InForm f → StepsTo P f m N → NoStep (basis P) N → m ≤ b → AtMost512 P f m → run_from b used f ≡ answer N (used + m)
  run-answers {f} b used c unmoved last h s = run-last b used f last ∙ ap (answer f) (omega arith)
  run-answers zero used c (step_then e w) last h s = absurd (omega arith)
  run-answers {f} {N} (suc b) used c (step_then {t = t} {i} {n} e w) last h s =
      run_small b used c e (small_one e s)
      ∙ run-answers b (suc used) (stepped-written P r f t i n c) w last (omega arith) (small-next e s)
      ∙ ap (answer N) (omega arith)

  -- No step leaves a formula as it is.
  none_moved : {f g : Poly} → StepsTo P f 0 g → f ≡ g
  none_moved unmoved = refl

  run-over : {f g : Poly} {m : ℕ} (b used : ℕ) → InForm f → StepsTo P f (suc m) g → 512 < length g → suc m ≤ b → AtMost512 P f m → run_from b used f ≡ over (used + suc m)
  run-over {m = m} zero used c w l h s = absurd (omega arith)
  run-over {f = f} {g = g} {m = zero} (suc b) used c (step_then {t = t} {i} {n} e w) l h s =
      run_large b used c e (subst (λ (x : Poly). 512 < length x) (sym (none_moved w)) l) ∙ ap over (omega arith)
  run-over {f = f} {g = g} {m = suc m} (suc b) used c (step_then {t = t} {i} {n} e w) l h s =
      run_small b used c e (small_one e s)
      ∙ run-over {f = after_step f t i n} b (suc used) (stepped-written P r f t i n c) w l (omega arith) (small-next e s)
      ∙ ap over (omega arith)

  run-spent : {f g : Poly} (b used : ℕ) → InForm f → StepsTo P f b g → (NoStep (basis P) g → ⊥) → AtMost512 P f b → run_from b used f ≡ spent
  unfolding run onward
  run-spent {f} zero used c unmoved left s = go (target (basis P) f) refl
    where
      go : (o : Target) → target (basis P) f ≡ o → onward (λ t i n. spent) f used o ≡ spent
      go reduced e = absurd (left ((target-none_iff (basis P) f).0 e))
      go (reducible t i n) e = refl
  run-spent {f} (suc b) used c (step_then {t = t} {i} {n} e w) left s =
      run_small b used c e (small_one e s) ∙ run-spent {f = after_step f t i n} b (suc used) (stepped-written P r f t i n c) w left (small-next e s)

  -- How a run ended, in 01's words, where `used` steps were made before it.
  Met : ℕ → ℕ → Poly → Ended → Type 0
  Met b used f (answer N k) = (m : ℕ) × (k ≡ used + m) × StepsTo P f m N × NoStep (basis P) N × (m ≤ b) × AtMost512 P f m
  Met b used f (over k) = (g : Poly) × (m : ℕ) × (k ≡ used + suc m) × StepsTo P f (suc m) g × (512 < length g) × (suc m ≤ b) × AtMost512 P f m
  Met b used f spent = (g : Poly) × StepsTo P f b g × (NoStep (basis P) g → ⊥) × AtMost512 P f b

  small-zero : {f : Poly} → length f ≤ 512 → AtMost512 P f 0
  small-zero h zero g l unmoved = h
  small-zero h (suc k) g l w = absurd (omega arith)

  small-suc : {f : Poly} → InForm f → length f ≤ 512 → {t : Term} {i n m : ℕ} → StepRule word_order (basis P) f t i n → AtMost512 P (after_step f t i n) m → AtMost512 P f (suc m)
  small-suc c h e s zero g l unmoved = h
  small-suc c h e s (suc k) g l (step_then d w) =
      let (x, y, z) = rule_unique (basis P) word-order-admissible c d e in s k g (omega arith) (rw (x, y, z) at w)

  -- What a step and the run behind it meet.
  met_next : (b used : ℕ) {f : Poly} → InForm f → length f ≤ 512 → {t : Term} {i n : ℕ} → StepRule word_order (basis P) f t i n
      → (x : Ended) → Met b (suc used) (after_step f t i n) x → Met (suc b) used f x
  unfolding Met
  met_next b used c h e (answer N k) (m, q, w, last, l, s) = (suc m, omega arith, step_then e w, last, omega arith, small-suc c h e s)
  met_next b used c h e (over k) (g, m, q, w, u, l, s) = (g, suc m, omega arith, step_then e w, u, omega arith, small-suc c h e s)
  met_next b used c h e spent (g, w, left, s) = (g, step_then e w, left, small-suc c h e s)

  met : (b used : ℕ) (f : Poly) → InForm f → length f ≤ 512 → Met b used f (run_from b used f)
  unfolding Met run onward
  met zero used f c h = go (target (basis P) f) refl
    where
      go : (o : Target) → target (basis P) f ≡ o → Met zero used f (onward (λ t i n. spent) f used o)
      go reduced e = (0, omega arith, unmoved, (target-none_iff (basis P) f).0 e, omega arith, small-zero h)
      go (reducible t i n) e = (f, unmoved, λ none. apart (sym ((target-none_iff (basis P) f).1 none) ∙ e), small-zero h)
        where
          apart : reduced ≡ reducible t i n → ⊥
          apart q = let z : ◌≡◌ {A = ℕ} 0 1 = cc in omega arith
  met (suc b) used f c h = go (λ t i n. met b (suc used) (after_step f t i n) (stepped-written P r f t i n c)) (target (basis P) f) refl
    where
      Rest : Type 0
      Rest = (t : Term) (i n : ℕ) → length (after_step f t i n) ≤ 512 → Met b (suc used) (after_step f t i n) (run_from b (suc used) (after_step f t i n))

      by : Rest → (t : Term) (i n : ℕ) → StepRule word_order (basis P) f t i n → (x : Bool) → ltb 512 (length (after_step f t i n)) ≡ x
          → Met (suc b) used f (elim x [ true ↦ over (suc used) | false ↦ run_from b (suc used) (after_step f t i n) ])
      by rest t i n e true q = (after_step f t i n, 0, omega arith, step_then e unmoved, ltb-true 512 (length (after_step f t i n)) q, omega arith, small-zero h)
      by rest t i n e false q = met_next b used c h e (run_from b (suc used) (after_step f t i n)) (rest t i n (ltb-false 512 (length (after_step f t i n)) q))

      go : Rest → (o : Target) → target (basis P) f ≡ o → Met (suc b) used f (onward (afterwards b used f) f used o)
      go rest reduced e = (0, omega arith, unmoved, (target-none_iff (basis P) f).0 e, omega arith, small-zero h)
      go rest (reducible t i n) e = by rest t i n ((target_iff (basis P) word-order-admissible c t i n).0 e) (ltb 512 (length (after_step f t i n))) refl

  -- From the first step on: the run ends as 01 says.
  ends_of : (budget : ℕ) (f : Poly) (x : Ended) → Met budget 0 f x → StepsEnd P f budget (reduction_of budget x)
  unfolding Met reduction_of
  ends_of budget f (answer N k) (m, q, w, last, l, s) = let p : k ≡ m = omega arith in rw p (nothing_left w last l s)
  ends_of budget f (over k) (g, m, q, w, u, l, s) = let p : k ≡ suc m = omega arith in rw p (too_many_of w u l s)
  ends_of budget f spent (g, w, left, s) = budget_used w left s

  run_of_ends : (budget : ℕ) (f : Poly) → InForm f → (x : Reduction) → StepsEnd P f budget x → reduction_of budget (run_from budget 0 f) ≡ x
  unfolding reduction_of
  run_of_ends budget f c _ (nothing_left {N} {m} w last l s) = ap (reduction_of budget) (run-answers budget 0 c w last l s) ∙ ap (short_form N) (zero-add m)
  run_of_ends budget f c _ (too_many_of {m = m} w u l s) = ap (reduction_of budget) (run-over budget 0 c w u l s) ∙ ap (refused_by 17) (zero-add (suc m))
  run_of_ends budget f c _ (budget_used w left s) = ap (reduction_of budget) (run-spent budget 0 c w left s)

-- What the formula services judge before 19, exactly.
pub steps-end_iff : (bytes text : List ℕ) (budget : ℕ) (P : Package) (f : Poly) → AcceptedAs bytes P → ReadAs P text f
    → (x : Reduction) → (reduction bytes text budget ≡ x) ↔ StepsEnd P f budget x
steps-end_iff bytes text budget P f acc reads x =
    let r = (reads-written P bytes acc.reads).0 in
    let c = (formula-content P.head.p P.head.letters formula_limits text f reads).0 in
    let e = reduction_is bytes P (acceptance_is bytes P acc) text f reads budget in
    let l = formula-size P text f reads in
    let s = ends_of P r budget f (run 512 (field_of P.head.p) word_order (basis P) budget 0 f) (met P r budget 0 f c (omega arith)) in (
      λ q. subst (StepsEnd P f budget) (sym e ∙ q) s,
      λ y. e ∙ run_of_ends P r budget f c x y,
    )
