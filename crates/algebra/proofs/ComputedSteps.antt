-- The step that is computed is a step of the theory (source document 002, definition 3.4.1): the line that it takes away is the word's coefficient ×
-- left × (the polynomial divided by its leading coefficient) × right, so that the word goes. Where the polynomial leads with 1, nothing is divided.
use mathlib.Core.Path.{◌≡◌, refl, sym, ◌∙◌, ap}
use mathlib.Core.Logic.{◌≢◌, ◌⊎◌, inl, inr}
use mathlib.Core.List.{List, []}
use Prim.Native.Nat.{ℕ, ◌<◌}
use Rattle.field.specs.Field.{Operations, Field}
use Rattle.field.proofs.Derived.{divided_by_one}
use Rattle.words.specs.Word.{Word}
use Rattle.words.specs.Order.{Order, Admissible}
use Rattle.algebra.specs.Poly.{Term, Poly, coeff, scale, shift}
use Rattle.algebra.specs.Written.{Written}
use Rattle.algebra.specs.Ideal.{family, Line, product}
use Rattle.algebra.specs.Groebner.{lead_coef, Led, Inside, monic}
use Rattle.algebra.specs.Rewriting.{taken, Step, StepAt, Steps, stay, next}
use Rattle.algebra.specs.Spot.{spot, found, reducible, target}
use Rattle.algebra.specs.Steps.{take_away, line_at, stepped, Sequence, ended, step}
use Rattle.algebra.proofs.Coefficients.{coeff-scale, coeff-sub}
use Rattle.algebra.proofs.Lines.{shift-scale}
use Rattle.algebra.proofs.Running.{take_away-coeff, take_away-written}
use Rattle.algebra.proofs.Spots.{left_of, right_of, spot-found, target-reducible}
use Rattle.algebra.proofs.WrittenForm.{written_coeffs, scale_kept}

module _ {K : Operations} (F : Field K) {O : Order} (A : Admissible O) (ps : List Poly)
    (leads : (i : ℕ) → (family ps i ≡ []) ⊎ Led K O (family ps i)) where
  open F use {mul_assoc}

  leading : (w : Word) (i n : ℕ) → spot ps w ≡ found i n → Led K O (family ps n)
  leading w i n e = go (leads n)
    where
      go : (family ps n ≡ []) ⊎ Led K O (family ps n) → Led K O (family ps n)
      go (inl z) = absurd ((spot-found ps w i n e).0 z)
      go (inr l) = l

  -- where a leading word was found, it stands inside
  abbrev inside : (w : Word) (i n : ℕ) → spot ps w ≡ found i n → Inside K O (family ps) w
  inside w i n e = record {
    of = n;
    left = left_of ps w i n;
    right = right_of ps w i n;
    real = leading w i n e;
    fits = (spot-found ps w i n e).1;
  }

  -- the line's product is what such a step takes away
  line_taken : (f : Poly) (t : Term) (i n : ℕ) (e : spot ps t.word ≡ found i n) → coeff K f t.word ≡ t.coef
      → (w : Word) → coeff K (product K (family ps) (line_at K ps t i n)) w ≡ coeff K (taken K O (family ps) f (inside t.word i n e)) w
  unfolding product line_at taken monic
  line_taken f t i n e c w =
      let g = family ps n in
      let x = K.inv (lead_coef g) in
      let y = coeff K (shift (left_of ps t.word i n) (right_of ps t.word i n) g) w in
      coeff-scale F (K.mul t.coef x) (shift (left_of ps t.word i n) (right_of ps t.word i n) g) w
      ∙ mul_assoc t.coef x y
      ∙ sym (coeff-scale F (coeff K f t.word) (shift (left_of ps t.word i n) (right_of ps t.word i n) (scale K x g)) w
      ∙ rw (c, shift-scale K, coeff-scale F))

  -- the step that is computed is a step, at that term and place and with that polynomial
  pub step_of_target : {f : Poly} → Written K O f → (t : Term) (i n : ℕ) → target ps f ≡ reducible t i n → StepAt K O (family ps) f (stepped K O ps f t i n) t i n
  unfolding stepped
  step_of_target {f} c t i n e =
      let ((coef, some), at) = target-reducible ps (λ s. (coeff K f s.word ≡ s.coef) × (s.coef ≢ 0)) f t i n (written_coeffs F A c) e in
      let made : Step K O (family ps) f (take_away K O (family ps) f (line_at K ps t i n)) = record {
        word = t.word;
        has = λ z. some (sym coef ∙ z);
        place = inside t.word i n at;
        written = take_away-written F A (family ps) f (line_at K ps t i n) c;
        equal = λ w. take_away-coeff F A (family ps) f (line_at K ps t i n) w ∙ coeff-sub F f _ w ∙ rw (line_taken f t i n at coef w) (sym (coeff-sub F f _ w));
      } in
      record { step = made; word = refl; left = refl; of = refl }

  -- and a sequence of steps that is computed is one of the theory
  pub sequence_steps : {f N : Poly} {xs : List Line} → Written K O f → Sequence K O ps f xs N → Steps K O (family ps) f N
  unfolding stepped
  sequence_steps c (ended e) = stay
  sequence_steps {f} c (step {t = t} {i} {n} e s) = next (step_of_target c t i n e).step (sequence_steps (take_away-written F A (family ps) f (line_at K ps t i n) c) s)

-- Where the polynomial leads with 1, the line has the word's coefficient, as document 01 says.
pub line-leads_one : {K : Operations} → Field K → (ps : List Poly) (t : Term) (i n : ℕ) → t.coef < K.size → lead_coef (family ps n) ≡ 1
    → (line_at K ps t i n).coef ≡ t.coef
unfolding line_at
line-leads_one F ps t i n h e = rw e (divided_by_one F t.coef ∙ F.red_elem t.coef h)

-- So the step is 01's: it takes away the word's coefficient × left × polynomial × right.
pub stepped-leads_one : {K : Operations} → Field K → (O : Order) (ps : List Poly) (f : Poly) (t : Term) (i n : ℕ) → t.coef < K.size → lead_coef (family ps n) ≡ 1
    → stepped K O ps f t i n ≡ take_away K O (family ps) f (record { coef = t.coef; left = left_of ps t.word i n; of = n; right = right_of ps t.word i n })
unfolding stepped line_at
stepped-leads_one {K} F O ps f t i n h e =
    ap (λ (c : ℕ). take_away K O (family ps) f (record { coef = c; left = left_of ps t.word i n; of = n; right = right_of ps t.word i n }))
    (line-leads_one F ps t i n h e)

-- And a polynomial in written form that leads with 1 is not changed where it is divided by its leading coefficient.
pub monic-leads_one : {K : Operations} (F : Field K) {O : Order} (A : Admissible O) (f : Poly) → Written K O f → lead_coef f ≡ 1 → monic K f ≡ f
unfolding monic
monic-leads_one {K} F A f c e = rw e (scale_kept F A (K.inv 1) (λ a. F.mul_comm (K.inv 1) a ∙ divided_by_one F a) c)
