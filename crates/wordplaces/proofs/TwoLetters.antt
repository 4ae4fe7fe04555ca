-- Two letters beside two others: what `two_same` says of them, and that it is what their numbers say.
use mathlib.Core.Path.{◌≡◌, refl}
use mathlib.Core.Bool.{Bool, true, false, false≢true}
use mathlib.Core.List.{[], ◌∷◌}
use Prim.Native.Nat.{ℕ, ◌+◌, ◌*◌, ◌<◌}
use native.Mathlib.Omega.{arith}
use lib.Dec.{eqb}
use lib.ListN.{get_or}
use borrow.Author.Tests.{eq-eqb, ne_eqb, eqb-true, eqb-false}
use Rattle.std.specs.Int.{w16, from_le_bytes}
use Rattle.words.specs.Word.{Word}
use Rattle.wordplaces.specs.TwoLetters.{two_same}

module _ (u v : Word) (i j : ℕ) where
  pub both_same : two_same u i v j ≡ true → (get_or u i 0 ≡ get_or v j 0) × (get_or u (i + 1) 0 ≡ get_or v (j + 1) 0)
  unfolding two_same
  both_same = go (eqb (get_or u i 0) (get_or v j 0)) refl
    where
      go : (t : Bool) → eqb (get_or u i 0) (get_or v j 0) ≡ t → elim t [ true ↦ eqb (get_or u (i + 1) 0) (get_or v (j + 1) 0) | false ↦ false ] ≡ true
          → (get_or u i 0 ≡ get_or v j 0) × (get_or u (i + 1) 0 ≡ get_or v (j + 1) 0)
      go true e h = (eqb-true (get_or u i 0) (get_or v j 0) e, eqb-true (get_or u (i + 1) 0) (get_or v (j + 1) 0) h)
      go false e h = absurd (false≢true h)

  pub same_both : get_or u i 0 ≡ get_or v j 0 → get_or u (i + 1) 0 ≡ get_or v (j + 1) 0 → two_same u i v j ≡ true
  unfolding two_same
  same_both e f = rw (two_same, eq-eqb (get_or u i 0) (get_or v j 0) e, eq-eqb (get_or u (i + 1) 0) (get_or v (j + 1) 0) f)

-- a byte and what is behind it each, as numbers
pub two_numbers : (a b c d : ℕ) → a < 256 → c < 256 → eqb (a + b * 256) (c + d * 256) ≡ elim (eqb a c) [ true ↦ eqb b d | false ↦ false ]
two_numbers a b c d h k = go (eqb a c) refl (eqb b d) refl
  where
    go : (t : Bool) → eqb a c ≡ t → (s : Bool) → eqb b d ≡ s → eqb (a + b * 256) (c + d * 256) ≡ elim t [ true ↦ s | false ↦ false ]
    go true e true f = let p = eqb-true a c e in let q = eqb-true b d f in eq-eqb (a + b * 256) (c + d * 256) (omega arith)
    go true e false f = let p = eqb-true a c e in ne_eqb (a + b * 256) (c + d * 256) (λ z. eqb-false b d f (omega arith))
    go false e s f = ne_eqb (a + b * 256) (c + d * 256) (λ z. eqb-false a c e (omega arith))

pub two_same_lem : (u v : Word) (i j a b c d : ℕ) → (a ≡ get_or u i 0) × (a < 256) → (b ≡ get_or u (i + 1) 0) × (b < 256) → (c ≡ get_or v j 0) × (c < 256) → (d ≡ get_or v (j + 1) 0) × (d < 256)
    → eqb (a + b * 256) (c + d * 256) ≡ two_same u i v j
unfolding two_same
two_same_lem u v i j a b c d (p, h) (q, g) (r, k) (s, l) =
    rw (p, q, r, s) (two_numbers (get_or u i 0) (get_or u (i + 1) 0) (get_or v j 0) (get_or v (j + 1) 0) (rw p at h) (rw r at k))

-- two bytes read at once are the same number exactly if the letters are the same
pub two_read_same : (u v : Word) (i j r s : ℕ) → ((k : ℕ) → get_or u k 0 < 256) → ((k : ℕ) → get_or v k 0 < 256)
    → r ≡ from_le_bytes w16 (get_or u i 0 ∷ get_or u (i + 1) 0 ∷ []) → s ≡ from_le_bytes w16 (get_or v j 0 ∷ get_or v (j + 1) 0 ∷ [])
    → eqb r s ≡ two_same u i v j
two_read_same u v i j r s b c e f =
    let p : r ≡ get_or u i 0 + get_or u (i + 1) 0 * 256 = omega (arith, e) in
    let q : s ≡ get_or v j 0 + get_or v (j + 1) 0 * 256 = omega (arith, f) in
    rw (p, q) (two_same_lem u v i j (get_or u i 0) (get_or u (i + 1) 0) (get_or v j 0) (get_or v (j + 1) 0)
    (refl, b i) (refl, b (i + 1)) (refl, c j) (refl, c (j + 1)))
