-- What the reader's slices hold of a formula that was read: cut to its number of terms they hold its polynomial, well formed and in written form.
use mathlib.Core.Path.{◌≡◌, refl, sym, ◌∙◌, ap}
use mathlib.Core.List.{List, [], ◌∷◌, ◌++◌}
use Prim.Native.Nat.{ℕ, zero, suc, ◌+◌, ◌-◌, ◌≤◌, ◌<◌}
use native.Mathlib.Omega.{arith}
use lib.ListN.{length, take}
use lib.Seq.{get_or-take, length-take-le}
use Rattle.field.specs.Field.{field_of}
use Rattle.lists.specs.All.{All}
use Rattle.words.specs.Laid.{Laid}
use Rattle.words.specs.Order.{word_order}
use Rattle.words.proofs.LaidWords.{laid-word-length}
use Rattle.algebra.specs.Poly.{Poly}
use Rattle.algebra.specs.Written.{Written}
use Rattle.std.specs.Prelude.{Ok}
use Rattle.package.specs.declared.Limits.{Limits}
use Rattle.package.specs.Formula.{formula, read_formula}
use Rattle.package.specs.Held.{WordsInside, rows_held, seen_formula}
use Rattle.package.proofs.FormulaTexts.{formula-reads}
use Rattle.working.specs.Polynomial.{poly_term, poly_at, Given}
use Rattle.working.specs.Working.{terms}
use Rattle.working.proofs.Terms.{terms-cut, all-terms, terms-same}
use Rattle.acceptance.proofs.FormulaContent.{rows_bounded, formula-content}

module _ (s cs os ls : List ℕ) where
  rows-terms : (n : ℕ) → rows_held s cs os ls n ≡ terms (poly_term cs os ls s) 0 n
  unfolding rows_held terms
  rows-terms zero = refl
  rows-terms (suc n) =
      let e : suc n - n ≡ 1 = omega arith in
      ap (λ (f : Poly). f ++ (poly_term cs os ls s n ∷ [])) (rows-terms n) ∙ sym (terms-cut (poly_term cs os ls s) n (suc n) (omega arith) ∙ rw e)

  -- The slices cut to n entries hold the first n terms.
  pub rows_poly : (n : ℕ) → n ≤ length cs → poly_at (take n cs) (take n os) (take n ls) s ≡ rows_held s cs os ls n
  rows_poly n l =
      rw (length-take-le n cs l) (terms-same (poly_term (take n cs) (take n os) (take n ls) s) (poly_term cs os ls s) 0 n same ∙ sym (rows-terms n))
    where
      same : (j : ℕ) → 0 ≤ j → j < 0 + n → poly_term (take n cs) (take n os) (take n ls) s j ≡ poly_term cs os ls s j
      same j a b = let q : j < n = omega arith in rw (get_or-take n cs j 0 q, get_or-take n os j 0 q, get_or-take n ls j 0 q)

-- What a caller of the reader knows of a formula that was read.
module _ (p letters : ℕ) (m : Limits) (s cs os ls : List ℕ) (n : ℕ) (seen : seen_formula s cs os ls (Ok n) ≡ read_formula p letters m s) (lc : n ≤ length cs) where
  abbrev held : Poly
  held = poly_at (take n cs) (take n os) (take n ls) s

  -- The bytes read as the polynomial that the slices hold.
  pub formula-held : read_formula p letters m s ≡ formula (poly_at (take n cs) (take n os) (take n ls) s)
  unfolding seen_formula
  formula-held = sym seen ∙ ap formula (sym (rows_poly s cs os ls n lc))

  -- It is in written form.
  pub held-written : Written (field_of p) word_order (poly_at (take n cs) (take n os) (take n ls) s)
  held-written = (formula-content p letters m s held formula-held).0

  held_bounded : All (λ t. (t.coef < p) × (length t.word ≤ m.len)) held
  held_bounded = rows_bounded p letters m held (formula-reads p letters m s held formula-held).0

  -- The slices are well formed where the limits allow no more than 24 letters.
  pub held_given : n ≤ length os → n ≤ length ls → WordsInside s os ls n → m.len ≤ 24 → Given p (take n cs) (take n os) (take n ls) s
  held_given lo ll inside most =
      let kc = length-take-le n cs lc in
      let ko = length-take-le n os lo in
      let kl = length-take-le n ls ll in
      let laid : Laid (take n os) (take n ls) s n = record {
        starting = omega arith;
        ending = omega arith;
        inside = λ i q. rw (get_or-take n os i 0 q, get_or-take n ls i 0 q) (inside i q);
      } in
      let bounds = all-terms (poly_term (take n cs) (take n os) (take n ls) s) (λ t. (t.coef < p) × (length t.word ≤ m.len)) 0 (length (take n cs)) held_bounded in
      record {
        starts = ko ∙ sym kc;
        lens = kl ∙ sym kc;
        small = λ i q. (bounds i (omega arith) (omega arith)).0;
        inside = λ i q. laid.inside i (omega arith);
        short = λ i q. omega (arith, (bounds i (omega arith) (omega arith)).1, laid-word-length (take n os) (take n ls) s n laid i (omega arith));
      }
