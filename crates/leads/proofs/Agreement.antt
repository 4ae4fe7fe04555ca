-- Whether v begins with b, by the letters of b: for a word without 0, against v with zeros behind its end.
use mathlib.Core.Path.{◌≡◌, refl, sym, ◌∙◌}
use mathlib.Core.Bool.{true, true≢false}
use mathlib.Core.List.{[], ◌∷◌}
use Prim.Native.Nat.{ℕ, zero, suc, ◌≤◌, ◌<◌}
use native.Mathlib.Decide.{ℕ_discrete}
use native.Mathlib.Omega.{arith}
use lib.ListN.{length, get_or}
use borrow.Author.Tests.{eq-eqb, ne_eqb}
use Rattle.words.specs.Word.{Word}
use Rattle.words.specs.Place.{begins}
use Rattle.packedwords.specs.Packed.{Nonzero}

pub begins-letters : (b v : Word) → begins b v ≡ true → (j : ℕ) → j < length b → get_or b j 0 ≡ get_or v j 0
unfolding begins
begins-letters [] v e j h = absurd (omega arith)
begins-letters (x ∷ b) [] e j h = absurd (true≢false (sym e))
begins-letters (x ∷ b) (a ∷ v) e j h = go (ℕ_discrete x a) (begins-letters b v) j h
  where
    go : Dec (x ≡ a) → (begins b v ≡ true → (i : ℕ) → i < length b → get_or b i 0 ≡ get_or v i 0)
        → (i : ℕ) → i < suc (length b) → get_or (x ∷ b) i 0 ≡ get_or (a ∷ v) i 0
    go (yes d) rest zero l = d
    go (yes d) rest (suc i) l = rest (rw (begins, eq-eqb x a d) at e) i (omega arith)
    go (no n) rest i l = absurd (true≢false (sym e ∙ rw (begins, ne_eqb x a n)))

pub letters-begin : (b v : Word) → Nonzero b → ((j : ℕ) → j < length b → get_or b j 0 ≡ get_or v j 0) → begins b v ≡ true
unfolding begins
letters-begin [] v z h = refl
letters-begin (x ∷ b) [] z h = absurd (let p : 1 ≤ x = z 0 (omega arith) in let q : x ≡ 0 = h 0 (omega arith) in omega arith)
letters-begin (x ∷ b) (a ∷ v) z h =
    let e : x ≡ a = h 0 (omega arith) in
    rw (begins, eq-eqb x a e) (letters-begin b v (λ j l. z (suc j) (omega arith)) (λ j l. h (suc j) (omega arith)))
