-- A step at a term of the formula: its word is cut, the products fit a place, and what is taken away is the step's line.
use mathlib.Core.Path.{◌≡◌, sym, ◌∙◌, ap, ap₂}
use mathlib.Core.List.{List}
use Prim.Native.Nat.{ℕ, suc, ◌+◌, ◌-◌, ◌*◌, ◌%◌, ◌≤◌, ◌<◌}
use native.Mathlib.Decide.{dec_lt}
use native.Mathlib.Omega.{arith}
use lib.ListN.{length, get_or}
use Rattle.lists.proofs.Parts.{part_length}
use Rattle.field.specs.Field.{field_of}
use Rattle.field.proofs.Fields.{element_of}
use Rattle.words.specs.Word.{Word}
use Rattle.algebra.specs.Poly.{Term, Poly, scale, shift}
use Rattle.algebra.specs.Written.{plus}
use Rattle.algebra.specs.Ideal.{family}
use Rattle.algebra.specs.Groebner.{lead_coef}
use Rattle.algebra.specs.Spot.{spot, found}
use Rattle.algebra.specs.Steps.{take_away, line_at, stepped}
use Rattle.algebra.proofs.Spots.{spot-found}
use Rattle.packedsteps.proofs.NotLonger.{below_length}
use Rattle.table.specs.Table.{prime_in, gens_in, basis_count_in, field_in, order_in, inverse_in, first_in, size_in, blocks_in}
use Rattle.table.specs.Words.{Sixfold}
use Rattle.table.specs.Polynomials.{word_in, polynomial_in, basis_in}
use Rattle.table.specs.Tabled.{Tabled}
use Rattle.packedterms.specs.declared.PackedWord.{PackedWord}
use Rattle.packedterms.specs.declared.WorkingFormula.{WorkingFormula}
use Rattle.packedterms.specs.Formula.{blocks_at}
use Rattle.packedterms.specs.InFormula.{term_in, WorkingIn, letters_in}
use Rattle.packedterms.proofs.Places.{term-place, coef-small}
use Rattle.itemadding.specs.Fits.{Fits}
use Rattle.itemadding.specs.LeadPlace.{LeadPlace}
use Rattle.packedsteps.specs.Cuts.{CutAt}
use Rattle.packedsteps.specs.Lines.{LineTaken}
use Rattle.table.proofs.FallingWords.{item_falls}
use Rattle.table.proofs.Inverses.{divided-back}
use Rattle.table.proofs.WordSizes.{word_size}
use Rattle.table.proofs.LeadingTerms.{LeadTerm}

-- The six blocks of a term's place hold its word.
pub term-held : (t : List ℕ) (f : WorkingFormula) → WorkingIn t f → (k : ℕ) → k < f.terms
    → Sixfold t (get_or f.sizes (get_or f.places k 0) 0) (blocks_at f.blocks (get_or f.places k 0))
term-held t f W k h =
    let s = get_or f.places k 0 in
    let inside = term-place t f.coefs f.sizes f.blocks f.places f.terms W.holds k h in
    let room = W.holds.room.blocks in
    let six = part_length (s * 6) 6 f.blocks (omega arith) in
    let held = W.holds.held k h in
    let fits = held.packs.fits in
    record { six = six; short = omega (arith, six); held = held }

-- Its coefficient is an element.
pub coef_held : (t : List ℕ) (f : WorkingFormula) → WorkingIn t f → (k : ℕ) → k < f.terms → (term_in t f k).coef < prime_in t
coef_held t f = coef-small t f.coefs f.sizes f.blocks f.places f.terms

-- No word of a basis polynomial is longer than its leading word.
module _ (t : List ℕ) (T : Tabled t) (g : ℕ) (L : LeadTerm t g) where
  none_longer : (i : ℕ) → first_in t (gens_in t + g) ≤ i → i < first_in t (suc (gens_in t + g)) → size_in t i % 256 ≤ size_in t (first_in t (gens_in t + g)) % 256
  none_longer i lo hi = go (dec_lt first i)
    where
      first : ℕ
      first = first_in t (gens_in t + g)

      size : (j : ℕ) → length (word_in t j) ≡ size_in t j % 256
      size j = word_size t (size_in t j) (blocks_in t j)

      go : Dec (first_in t (gens_in t + g) < i) → size_in t i % 256 ≤ size_in t (first_in t (gens_in t + g)) % 256
      go (no h) = let e : i ≡ first_in t (gens_in t + g) = omega arith in rw e (omega arith)
      go (yes h) =
          let some = L.some in
          let below = item_falls t T (gens_in t + g) (omega arith) L.item (first_in t (gens_in t + g)) i (omega arith) h hi in
          let short = below_length (word_in t i) (word_in t (first_in t (gens_in t + g))) below in
          omega (arith, size i, size (first_in t (gens_in t + g)))

  -- So the products of a step fit where the word that is cut did.
  pub step_fits : {v : Word} {z i r : ℕ} {left right : PackedWord 6} → CutAt t v z i g r left right → z % 256 ≤ 72
      → Fits t left.size right.size (first_in t (gens_in t + g)) (first_in t (suc (gens_in t + g)))
  step_fits C short = record { short = λ i lo hi. let e = C.letters in let m = none_longer i lo hi in omega arith }

-- x divided by the leading coefficient of basis polynomial g.
abbrev divided : (t : List ℕ) (x g : ℕ) → ℕ
divided t x g = (field_in t).mul x ((field_in t).inv (lead_coef (family (basis_in t) g)))

-- How that is computed: times the inverse, or x itself where that is 1.
module _ (t : List ℕ) (T : Tabled t) (x g : ℕ) where
  inverse_of : 1 ≤ g → g ≤ basis_count_in t → inverse_in t (g - 1) ≡ (field_in t).inv (lead_coef (family (basis_in t) g))
  inverse_of lo hi =
      let e : suc (g - 1) ≡ g = omega arith in
      T.inverses (g - 1) (omega arith) ∙ ap (λ (k : ℕ). (field_in t).inv (lead_coef (family (basis_in t) k))) e

  pub divided_is : (p y r : ℕ) → 1 ≤ g → g ≤ basis_count_in t → p ≡ prime_in t → y ≡ inverse_in t (g - 1) → r ≡ (field_of p).mul x y → r ≡ divided t x g
  divided_is p y r lo hi prime inverse product = product ∙ rw (prime, inverse, inverse_of lo hi)

  pub divided_one : x < prime_in t → 1 ≤ g → g ≤ basis_count_in t → inverse_in t (g - 1) ≡ 1 → x ≡ divided t x g
  divided_one small lo hi one =
      sym (ap ((field_in t).mul x) (sym (inverse_of lo hi) ∙ one) ∙ T.field.mul_one x ∙ T.field.red_elem x (element_of (prime_in t) small))

module _ (t : List ℕ) (u : Term) (z i g r : ℕ) (left right : PackedWord 6) (C : CutAt t u.word z i g r left right)
    (found_at : spot (basis_in t) u.word ≡ found i g) where
  -- The term is (coefficient of the line) × left × leading term × right.
  pub step-place : Tabled t → u.coef < prime_in t → family (basis_in t) g ≡ polynomial_in t (gens_in t + g)
      → LeadPlace (field_in t) (divided t u.coef g) (letters_in t left) (letters_in t right) (polynomial_in t (gens_in t + g)) u
  step-place T small e =
      let at = spot-found (basis_in t) u.word i g found_at in
      record {
        some = λ z. at.0 (e ∙ z);
        word = rw (C.left_word, C.right-word, ← e) at.1;
        coef = rw (← e) (divided-back t T g u.coef at.0 small);
      }

  pub step_line : LineTaken t u i g (divided t u.coef g) left right
  unfolding line_at
  step_line = record {
    left-held = C.left-held;
    right-held = C.right-held;
    line = ap₂ (λ (x y : Word). record { coef = divided t u.coef g; left = x; of = g; right = y }) C.left_word C.right-word;
  }

  pub step_sum : (f : Poly) → family (basis_in t) g ≡ polynomial_in t (gens_in t + g)
      → plus (field_in t) (order_in t) f
      (scale (field_in t) ((field_in t).neg (divided t u.coef g)) (shift (letters_in t left) (letters_in t right) (polynomial_in t (gens_in t + g))))
      ≡ stepped (field_in t) (order_in t) (basis_in t) f u i g
  unfolding stepped take_away line_at
  step_sum f p = rw (C.left_word, C.right-word, ← p)
