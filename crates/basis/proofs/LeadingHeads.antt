-- Polynomials that lie in a package, one by one: whether one is zero, which is refusal 8, and where its leading word stands.
use mathlib.Core.Path.{◌≡◌, refl, ap, ◌∙◌}
use mathlib.Core.List.{List, [], ◌∷◌}
use Prim.Native.Nat.{ℕ, zero, suc, ◌+◌, ◌-◌, ◌≤◌, ◌<◌}
use native.Mathlib.Nat.{add-zero}
use native.Mathlib.Numerals.{add-one}
use native.Mathlib.Omega.{arith}
use native.Mathlib.Decide.{ℕ_discrete}
use lib.ListN.{length, get_or, set, take, drop}
use lib.Seq.{get_or-take, get_or-drop, get_or-set_same, get_or-set_other}
use Rattle.words.specs.Laid.{laid_from, laid_words}
use Rattle.algebra.specs.Groebner.{lead}
use Rattle.overlaps.specs.Overlaps.{leads}
use Rattle.working.specs.Working.{terms}
use Rattle.working.specs.Polynomial.{poly_term}
use Rattle.working.specs.Family.{between, poly_between, family_at}
use Rattle.working.proofs.Between.{between-length}
use Rattle.acceptance.specs.Check.{refusal, fine, zeros_judged}
use Rattle.basis.specs.Lies.{BasisLies}
use Rattle.basis.specs.Heads.{HeadsOf}

between_first : (xs : List ℕ) (a b : ℕ) → a < b → get_or (between xs a b) 0 0 ≡ get_or xs a 0
between_first xs a b h =
    let l : 0 < b - a = omega arith in
    get_or-take (b - a) (drop a xs) 0 0 l ∙ get_or-drop a xs 0 0 ∙ ap (λ n. get_or xs n 0) (add-zero a)

module _ (coefs starts lens bytes : List ℕ) (a b : ℕ) where
  -- the terms from a on, before b: none, or the first and the others
  poly_none : b ≤ a → poly_between coefs starts lens bytes a b ≡ []
  unfolding terms
  poly_none h = let e : b - a ≡ 0 = omega arith in rw e

  poly_some : a < b → b ≤ length coefs
      → poly_between coefs starts lens bytes a b
      ≡ record { coef = get_or coefs a 0; word = take (get_or lens a 0) (drop (get_or starts a 0) bytes) }
      ∷ terms (poly_term (between coefs a b) (between starts a b) (between lens a b) bytes) 1 (b - a - 1)
  unfolding terms
  poly_some h k =
      let l : a ≤ b = omega arith in
      let e : length (between coefs a b) ≡ suc (b - a - 1) = between-length coefs a b l k ∙ omega arith in
      rw (e, between_first coefs a b h, between_first starts a b h, between_first lens a b h)

-- Where the first g leading words stand.
pub Filled : (starts lens firsts : List ℕ) (base g : ℕ) (heads headlens : List ℕ) → Type 0
Filled starts lens firsts base g heads headlens =
    (j : ℕ) → j < g
    → (get_or firsts (base + j) 0 < get_or firsts (base + j + 1) 0)
    × (get_or heads j 0 ≡ get_or starts (get_or firsts (base + j) 0) 0)
    × (get_or headlens j 0 ≡ get_or lens (get_or firsts (base + j) 0) 0)

module _ (coefs starts lens bytes firsts : List ℕ) (base count : ℕ) (L : BasisLies coefs starts lens bytes firsts base count) where
  abbrev first : ℕ → ℕ
  first g = get_or firsts (base + g) 0

  abbrev last : ℕ → ℕ
  last g = get_or firsts (base + g + 1) 0

  -- the polynomials from number g on, one by one
  family-next : (g : ℕ) → g < count
      → family_at coefs starts lens bytes firsts (base + g) (count - g)
      ≡ poly_between coefs starts lens bytes (first g) (last g) ∷ family_at coefs starts lens bytes firsts (base + (g + 1)) (count - (g + 1))
  unfolding family_at
  family-next g h =
      let e : count - g ≡ suc (count - (g + 1)) = omega arith in
      let n : base + (g + 1) ≡ suc (base + g) = omega arith in
      let k : base + g + 1 ≡ suc (base + g) = omega arith in
      rw (e, n, k)

  module _ (g : ℕ) (h : g < count) where
    within : last g ≤ length coefs
    within = let x = L.runs.most g h in let y = L.terms.coefs_hold in omega arith

    -- where the leading word of polynomial g starts, and its length
    pub start-within : first g < last g → get_or starts (first g) 0 ≤ length bytes
    start-within k = let x = L.runs.most g h in omega (arith, L.terms.inside (first g) (omega arith))

    pub length-within : first g < last g → get_or lens (first g) 0 ≤ 24
    length-within k = let x = L.runs.most g h in L.terms.short (first g) (omega arith)

    pub zero-refused : last g ≤ first g → refusal 8 (g + 1) ≡ zeros_judged (family_at coefs starts lens bytes firsts (base + g) (count - g)) (g + 1)
    unfolding zeros_judged
    zero-refused k = rw (family-next g h, poly_none coefs starts lens bytes (first g) (last g) k)

    pub zeros-next : first g < last g
        → zeros_judged (family_at coefs starts lens bytes firsts (base + (g + 1)) (count - (g + 1))) (g + 1 + 1)
        ≡ zeros_judged (family_at coefs starts lens bytes firsts (base + g) (count - g)) (g + 1)
    unfolding zeros_judged
    zeros-next k = rw (family-next g h, poly_some coefs starts lens bytes (first g) (last g) k within, zeros_judged, add-one (g + 1))

    pub filled_next : (heads headlens : List ℕ) → g < length heads → g < length headlens → first g < last g → Filled starts lens firsts base g heads headlens
        → Filled starts lens firsts base (g + 1) (set heads g (get_or starts (first g) 0)) (set headlens g (get_or lens (first g) 0))
    unfolding Filled
    filled_next heads headlens u v k f j l = go (ℕ_discrete j g)
      where
        go : Dec (j ≡ g) → (first j < last j) × (get_or (set heads g (get_or starts (first g) 0)) j 0 ≡ get_or starts (first j) 0) × (get_or (set headlens g (get_or lens (first g) 0)) j 0 ≡ get_or lens (first j) 0)
        go (yes e) = rw e (k, get_or-set_same heads g (get_or starts (first g) 0) 0 u, get_or-set_same headlens g (get_or lens (first g) 0) 0 v)
        go (no e) =
            let (x, y, z) = f j (omega arith) in
            (x, get_or-set_other heads g j (get_or starts (first g) 0) 0 e ∙ y, get_or-set_other headlens g j (get_or lens (first g) 0) 0 e ∙ z)

  pub filled_none : (heads headlens : List ℕ) → Filled starts lens firsts base 0 heads headlens
  unfolding Filled
  filled_none heads headlens j l = absurd (omega arith)

  pub zeros-start : zeros_judged (family_at coefs starts lens bytes firsts (base + 0) (count - 0)) (0 + 1) ≡ zeros_judged (family_at coefs starts lens bytes firsts base count) 1
  zeros-start = let e : count - 0 ≡ count = omega arith in rw (add-zero base, e)

  pub zeros-end : (g : ℕ) → count ≤ g → fine ≡ zeros_judged (family_at coefs starts lens bytes firsts (base + g) (count - g)) (g + 1)
  unfolding zeros_judged family_at
  zeros-end g h = let e : count - g ≡ 0 = omega arith in rw e

  module _ (heads headlens : List ℕ) (F : Filled starts lens firsts base count heads headlens) where
    leading_from : (g n : ℕ) → g + n ≡ count → laid_from heads headlens bytes g n ≡ leads (family_at coefs starts lens bytes firsts (base + g) n)
    unfolding laid_from leads lead family_at Filled
    leading_from g zero e = refl
    leading_from g (suc n) e =
        let l : g < count = omega arith in
        let (x, y, z) = F g l in
        let k : base + suc g ≡ suc (base + g) = omega arith in
        let k' : base + g + 1 ≡ suc (base + g) = omega arith in
        let ih : laid_from heads headlens bytes (suc g) n ≡ leads (family_at coefs starts lens bytes firsts (suc (base + g)) n) = rw k at (leading_from (suc g) n (omega arith)) in
        let q = rw k' at (poly_some coefs starts lens bytes (first g) (last g) x (within g l)) in
        rw (y, z, q, ih)

    pub heads_of : count ≤ length heads → count ≤ length headlens → HeadsOf coefs starts lens bytes firsts base count heads headlens
    unfolding Filled laid_words
    heads_of u v = record {
      laid = record { starting = u; ending = v; inside = λ g l. let (x, y, z) = F g l in let k = L.runs.most g l in rw (y, z) (L.terms.inside (first g) (omega arith)) };
      short = λ g l. let (x, y, z) = F g l in let k = L.runs.most g l in rw z (L.terms.short (first g) (omega arith));
      leading = leading_from 0 count (omega arith) ∙ ap (λ j. leads (family_at coefs starts lens bytes firsts j count)) (add-zero base);
    }
