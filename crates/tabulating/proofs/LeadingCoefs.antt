-- The leading coefficients of a basis that lies in slices, where none of its polynomials is zero.
use mathlib.Core.Path.{◌≡◌, refl, ◌∙◌, ap, subst}
use mathlib.Core.Logic.{◌≢◌}
use mathlib.Core.List.{List, []}
use Prim.Native.Nat.{ℕ, zero, suc, ◌+◌, ◌-◌, ◌<◌}
use native.Mathlib.Nat.{add-zero}
use native.Mathlib.Numerals.{add-one}
use native.Mathlib.Omega.{arith}
use lib.ListN.{length, get_or}
use Rattle.lists.specs.All.{All}
use Rattle.lists.proofs.Every.{all_at}
use Rattle.lists.proofs.Entries.{part_at}
use Rattle.field.specs.Field.{Operations, field_of}
use Rattle.words.specs.Order.{Order}
use Rattle.algebra.specs.Poly.{Poly}
use Rattle.algebra.specs.Ideal.{family}
use Rattle.algebra.specs.Groebner.{lead_coef}
use Rattle.algebra.specs.Written as Wr
use Rattle.algebra.specs.Written.{Written}
use Rattle.working.specs.Polynomial.{poly_term}
use Rattle.working.specs.Family.{between, poly_between, family_at, Terms, Runs}
use Rattle.working.proofs.Between.{between-length}
use Rattle.table.specs.Polynomials.{NoneZero}
use Rattle.table.proofs.LeadingTerms.{terms-first}
use Rattle.tabulating.specs.Leading.{lead_at, Leading}

-- a polynomial in written form that is not zero has a leading coefficient
lead-some : {K : Operations} {O : Order} {f : Poly} → Written K O f → f ≢ [] → 0 < lead_coef f
unfolding lead_coef
lead-some Wr.zero n = absurd (n refl)
lead-some (Wr.term a b c d) n = omega arith

module _ (coefs starts lens bytes firsts : List ℕ) where
  abbrev polys : ℕ → ℕ → List Poly
  polys j n = family_at coefs starts lens bytes firsts j n

  polys_count : (j n : ℕ) → length (polys j n) ≡ n
  unfolding family_at
  polys_count j zero = refl
  polys_count j (suc n) = ap suc (polys_count (suc j) n)

  polys_at : (j n g : ℕ) → g < n → get_or (polys j n) g [] ≡ poly_between coefs starts lens bytes (get_or firsts (j + g) 0) (get_or firsts (j + g + 1) 0)
  unfolding family_at
  polys_at j zero g h = absurd (omega arith)
  polys_at j (suc n) zero h = rw (add-zero j, add-one j)
  polys_at j (suc n) (suc g) h = let e : suc j + g ≡ j + suc g = omega arith in rw e at (polys_at (suc j) n g (omega arith))

  module _ {p base n m : ℕ} (T : Terms p coefs starts lens bytes m) (R : Runs firsts base n m) (nonzero : NoneZero (polys base n)) where
    module _ (g : ℕ) (h : g < n) where
      abbrev a : ℕ
      a = get_or firsts (base + g) 0

      abbrev b : ℕ
      b = get_or firsts (base + g + 1) 0

      -- it has a first term, with that coefficient
      first : (a < b) × (lead_coef (poly_between coefs starts lens bytes a b) ≡ lead_at coefs firsts base g)
      first =
          let up = R.rising g h in
          let most = R.most g h in
          let hold = T.coefs_hold in
          let size = between-length coefs a b up (omega arith) in
          let some = subst (λ (f : Poly). f ≢ []) (polys_at base n g h) (all_at nonzero [] g (rw (polys_count base n) h)) in
          let f = terms-first (poly_term (between coefs a b) (between starts a b) (between lens a b) bytes) 0 (length (between coefs a b)) some in
          let q = f.0 in
          let e : a + 0 ≡ a = add-zero a in
          (omega arith, f.2 ∙ part_at coefs a (b - a) 0 (omega arith) ∙ ap (λ (i : ℕ). get_or coefs i 0) e)

    -- the leading coefficient by the polynomial's number
    pub lead_is : (g : ℕ) → g < n → lead_coef (family (polys base n) (suc g)) ≡ lead_at coefs firsts base g
    unfolding family
    lead_is g h = ap lead_coef (polys_at base n g h) ∙ (first g h).1

    pub leading : {O : Order} → All (Written (field_of p) O) (polys base n) → Leading p coefs firsts base n
    leading w = record {
      inside = λ g h. let l = (first g h).0 in let q = R.most g h in let k = T.coefs_hold in omega arith;
      some = λ g h. rw (← (first g h).1, ← polys_at base n g h) (lead-some (all_at w [] g (rw (polys_count base n) h)) (all_at nonzero [] g (rw (polys_count base n) h)));
      small = λ g h. let l = (first g h).0 in let q = R.most g h in T.small _ (omega arith);
    }
