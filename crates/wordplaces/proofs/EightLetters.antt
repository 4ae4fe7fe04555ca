-- Letters as numbers: of as many letters, the numbers are equal exactly if the letters are.
use mathlib.Core.Path.{◌≡◌, refl, ◌∙◌, ap}
use mathlib.Core.Bool.{Bool, true, false, false≢true}
use mathlib.Core.List.{[], ◌∷◌}
use Prim.Native.Nat.{ℕ, zero, suc, ◌+◌, ◌<◌}
use native.Mathlib.Nat.{add-zero}
use native.Mathlib.Omega.{arith}
use lib.Dec.{eqb}
use lib.ListN.{get_or}
use borrow.Author.Tests.{eqb-true}
use Rattle.std.specs.Int.{w64, from_le_bytes}
use Rattle.words.specs.Word.{Word}
use Rattle.wordplaces.specs.EightLetters.{same_for, letters_number, NumberAt}
use Rattle.wordplaces.proofs.TwoLetters.{two_numbers}

-- n letters of u from place i on are bytes
abbrev Bytes : Word → ℕ → ℕ → Type 0
Bytes u i n = (k : ℕ) → k < n → get_or u (i + k) 0 < 256

bytes-first : (u : Word) (i n : ℕ) → Bytes u i (suc n) → get_or u i 0 < 256
bytes-first u i n b = rw (add-zero i) at (b 0 (omega arith))

bytes_rest : (u : Word) (i n : ℕ) → Bytes u i (suc n) → Bytes u (i + 1) n
bytes_rest u i n b k h = let e : i + 1 + k ≡ i + suc k = omega arith in rw e (b (suc k) (omega arith))

numbers_same : (u v : Word) (n i j : ℕ) → Bytes u i n → Bytes v j n → eqb (letters_number u i n) (letters_number v j n) ≡ same_for u i v j n
unfolding letters_number same_for
numbers_same u v zero i j b c = refl
numbers_same u v (suc n) i j b c =
    two_numbers (get_or u i 0) (letters_number u (i + 1) n) (get_or v j 0) (letters_number v (j + 1) n) (bytes-first u i n b) (bytes-first v j n c)
    ∙ ap (λ (t : Bool). elim (eqb (get_or u i 0) (get_or v j 0)) [ true ↦ t | false ↦ false ])
    (numbers_same u v n (i + 1) (j + 1) (bytes_rest u i n b) (bytes_rest v j n c))

pub eight_same : (u v : Word) (i j r s : ℕ) → NumberAt u i 8 r → NumberAt v j 8 s → eqb r s ≡ same_for u i v j 8
eight_same u v i j r s a b = rw (a.number, b.number) (numbers_same u v 8 i j a.bytes b.bytes)

-- eight bytes read at once are the number of eight letters
pub eight_letters_lem : (u : Word) (i r : ℕ) → ((k : ℕ) → get_or u k 0 < 256)
    → r ≡ from_le_bytes w64 (get_or u i 0 ∷ get_or u (i + 1) 0 ∷ get_or u (i + 2) 0 ∷ get_or u (i + 3) 0 ∷ get_or u (i + 4) 0 ∷ get_or u (i + 5) 0 ∷ get_or u (i + 6) 0 ∷ get_or u (i + 7) 0 ∷ [])
    → NumberAt u i 8 r
unfolding letters_number
eight_letters_lem u i r b e =
    let two : i + 1 + 1 ≡ i + 2 = omega arith in
    let three : i + 2 + 1 ≡ i + 3 = omega arith in
    let four : i + 3 + 1 ≡ i + 4 = omega arith in
    let five : i + 4 + 1 ≡ i + 5 = omega arith in
    let six : i + 5 + 1 ≡ i + 6 = omega arith in
    let seven : i + 6 + 1 ≡ i + 7 = omega arith in
    record { number = rw (two, three, four, five, six, seven) (omega (arith, e)); bytes = λ k h. b (i + k) }

-- letters that are the same, each by its place
pub same_each : (u v : Word) (n i j : ℕ) → same_for u i v j n ≡ true → (k : ℕ) → k < n → get_or u (i + k) 0 ≡ get_or v (j + k) 0
unfolding same_for
same_each u v zero i j e k h = absurd (omega arith)
same_each u v (suc n) i j e k h = go (eqb (get_or u i 0) (get_or v j 0)) refl e k h (same_each u v n (i + 1) (j + 1))
  where
    go : (t : Bool) → eqb (get_or u i 0) (get_or v j 0) ≡ t → elim t [ true ↦ same_for u (i + 1) v (j + 1) n | false ↦ false ] ≡ true → (k : ℕ) → k < suc n
        → (same_for u (i + 1) v (j + 1) n ≡ true → (l : ℕ) → l < n → get_or u (i + 1 + l) 0 ≡ get_or v (j + 1 + l) 0) → get_or u (i + k) 0 ≡ get_or v (j + k) 0
    go true f g zero l rest = rw (add-zero i, add-zero j) (eqb-true (get_or u i 0) (get_or v j 0) f)
    go true f g (suc k) l rest =
        let p : i + suc k ≡ i + 1 + k = omega arith in
        let q : j + suc k ≡ j + 1 + k = omega arith in
        rw (p, q) (rest g k (omega arith))
    go false f g k l rest = absurd (false≢true g)
