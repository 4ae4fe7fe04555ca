-- Under an empty basis every formula is its own short form, and under the basis 1 every formula comes to zero, one term a step.
use mathlib.Core.Path.{◌≡◌, refl, sym, ◌∙◌, ap}
use mathlib.Core.Bool.{Bool, true, false}
use mathlib.Core.List.{List, [], ◌∷◌}
use Prim.Native.Nat.{ℕ, suc, ◌+◌, ◌≤◌}
use native.Mathlib.Nat.{zero-add}
use native.Mathlib.Omega.{arith}
use lib.Dec.{ltb}
use lib.ListN.{length}
use borrow.Author.Tests.{eq-eqb, le-ltb}
use Rattle.field.specs.Field.{Operations, Field, field_of}
use Rattle.field.proofs.Derived.{red-zero, red-mul-right, divided_by_one, sub_self, neg-eq-mul}
use Rattle.std.specs.declared.cmp.Ordering.{Ordering}
use Rattle.std.specs.declared.cmp.Ordering.TheVariants.{Less, Equal, Greater}
use Rattle.words.specs.Word.{Word}
use Rattle.words.specs.Order.{Order, Admissible, word_order}
use Rattle.words.proofs.Admissible.{order_refl}
use Rattle.words.proofs.WordOrder.{word-order-admissible}
use Rattle.algebra.specs.Poly.{Term, Poly, scale, shift}
use Rattle.algebra.specs.Written.{put, insert, plus}
use Rattle.algebra.specs.Ideal.{family}
use Rattle.algebra.specs.Groebner.{lead, lead_coef}
use Rattle.algebra.specs.Spot.{first_begins, nowhere, found, spot_at, spot_from, spot, Target, reduced, reducible, target_of, target}
use Rattle.algebra.specs.Steps.{take_away, line_at, stepped, Ended, answer, over, spent, onward, run}
use Rattle.package.specs.Package.{Package}
use Rattle.package.specs.Readable.{RowsInOrder}
use Rattle.package.specs.Writing.{write_formula}
use Rattle.package.proofs.FormulaTexts.{formula-reads}
use Rattle.package.proofs.PackageTexts.{reads-written}
use Rattle.acceptance.specs.Content.{basis}
use Rattle.acceptance.proofs.ReadableContent.{readable-field}
use Rattle.acceptance.specs.Reduction.{formula_limits, reduction_of, formula_reduced, package_reduced}
use Rattle.services.specs.Demands.{AcceptedAs, ReadAs}
use Rattle.services.specs.Examples.{Shortens}
use Rattle.services.proofs.Answers.{acceptance_is}
use Rattle.services.proofs.FormulaSize.{formula-size}
use Rattle.services.proofs.Rows.{shortens}

-- No leading word stands in a word, so nothing is reducible.
spot_of_none : (w : Word) (i : ℕ) → spot_from [] w i ≡ nowhere
unfolding spot_from spot_at first_begins
spot_of_none [] i = refl
spot_of_none (a ∷ w) i = spot_of_none w (suc i)

target_of_none : (f : Poly) → target [] f ≡ reduced
unfolding target target_of spot
target_of_none [] = refl
target_of_none (t ∷ f) = ap (λ s. target_of t s (target [] f)) (spot_of_none t.word 0) ∙ target_of_none f

-- The basis whose one polynomial is 1.
abbrev pub basis_one : List Poly
basis_one = (record { coef = 1; word = [] } ∷ []) ∷ []

-- The empty word stands in every word, so the first term is reducible.
spot_one : (w : Word) → spot basis_one w ≡ found 0 1
unfolding spot spot_from spot_at first_begins
spot_one [] = refl
spot_one (a ∷ w) = refl

target_one : (t : Term) (f : Poly) → target basis_one (t ∷ f) ≡ reducible t 0 1
unfolding target target_of
target_one t f = ap (λ s. target_of t s (target basis_one f)) (spot_one t.word)

module _ {K : Operations} (F : Field K) {O : Order} (A : Admissible O) where
  open K use {red, add, mul, neg, inv}

  -- The coefficient after the step is 0.
  cancels : (c : ℕ) → red (add (mul (neg (mul c (inv 1))) 1) c) ≡ 0
  cancels c =
      rw (F.mul_one, F.red-neg, divided_by_one F, neg-eq-mul F (red c), red-mul-right F, F.add_comm (mul (neg 1) c) c, sub_self F) (red-zero F)

  -- The step takes the term away.
  stepped_one : (t : Term) (f : Poly) → stepped K O basis_one (t ∷ f) t 0 1 ≡ f
  unfolding stepped take_away line_at plus insert put scale shift family lead lead_coef
  stepped_one t f =
      ap (λ (c : Ordering). elim c [
        | Less ↦ t ∷ insert K O s f
        | Equal ↦ put K (add s.coef t.coef) t.word f
        | Greater ↦ put K s.coef s.word (t ∷ f)
      ]) (order_refl A t.word)
      ∙ ap (λ (b : Bool). elim b [ true ↦ f | false ↦ record { coef = red (add s.coef t.coef); word = t.word } ∷ f ])
      (eq-eqb (red (add s.coef t.coef)) 0 (cancels t.coef))
    where
      s : Term
      s = record { coef = mul (neg (mul t.coef (inv 1))) 1; word = t.word }

  -- As many steps as there are terms leave zero.
  run_one : (limit : ℕ) (f : Poly) (used : ℕ) → length f ≤ limit → run limit K O basis_one (length f) used f ≡ answer [] (used + length f)
  unfolding run onward target
  run_one limit [] used h = ap (answer []) (omega arith)
  run_one limit (t ∷ f) used h =
      ap (onward after (t ∷ f) used) (target_one t f)
      ∙ ap (λ (g : Poly). next (ltb limit (length g)) g) (stepped_one t f)
      ∙ ap (λ (b : Bool). next b f) (le-ltb limit (length f) (omega arith))
      ∙ run_one limit f (suc used) (omega arith)
      ∙ ap (answer []) (omega arith)
    where
      next : Bool → Poly → Ended
      next b g = elim b [ true ↦ over (suc used) | false ↦ run limit K O basis_one (length f) (suc used) g ]

      after : Term → ℕ → ℕ → Ended
      after u i n = next (ltb limit (length (stepped K O basis_one (t ∷ f) u i n))) (stepped K O basis_one (t ∷ f) u i n)

module _ (bytes : List ℕ) (P : Package) (acc : AcceptedAs bytes P) where
  module _ (text : List ℕ) (f : Poly) (reads : ReadAs P text f) where
    -- The formula's bytes are the text of its terms, which are in order.
    formula-text : RowsInOrder P.head.p P.head.letters formula_limits [] 0 f × (text ≡ write_formula f)
    formula-text = formula-reads P.head.p P.head.letters formula_limits text f reads

    -- Under an empty basis each formula is its own short form.
    pub none_keeps : basis P ≡ [] → Shortens bytes text text 0
    unfolding package_reduced formula_reduced reduction_of run onward
    none_keeps e =
        shortens (acceptance_is bytes P acc) (ap (formula_reduced P 0) reads ∙ ap (λ (ps : List Poly). reduction_of 0 (run 512 (field_of P.head.p) word_order ps 0 0 f)) e
        ∙ ap (λ (o : Target). reduction_of 0 (onward (λ t i n. spent) f 0 o)) (target_of_none f)) (sym formula-text.1)

    -- Under the basis 1 every short form is zero, and each step takes one term.
    pub one_empties : basis P ≡ basis_one → Shortens bytes text (write_formula []) (length f)
    unfolding package_reduced formula_reduced reduction_of
    one_empties e =
        let F = readable-field P (reads-written P bytes acc.reads).0 in
        let l = formula-size P text f reads in
        shortens (acceptance_is bytes P acc) (ap (formula_reduced P (length f)) reads
        ∙ ap (λ (ps : List Poly). reduction_of (length f) (run 512 (field_of P.head.p) word_order ps (length f) 0 f)) e
        ∙ ap (reduction_of (length f)) (run_one F word-order-admissible 512 f 0 (omega arith) ∙ ap (answer []) (zero-add (length f)))) refl
