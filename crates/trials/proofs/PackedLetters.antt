-- A word packed by the keys of document 01's order: its codes are 26 for `a` down to 1 for `z`.
use mathlib.Core.Path.{◌≡◌, refl, sym, ◌∙◌, ap, ap₂}
use mathlib.Core.Bool.{Bool, true, false}
use mathlib.Core.List.{List, [], ◌∷◌, map}
use Prim.Native.Nat.{ℕ, ◌-◌, ◌*◌, ◌^◌, ◌<◌}
use native.Mathlib.Omega.{arith}
use lib.Dec.{lit<}
use lib.ListN.{length, get_or, take, replicate, get_or-replicate}
use lib.Seq.{take-length}
use Rattle.lists.specs.All.{All, done, ◌also◌}
use Rattle.words.specs.Word.{Word, Letter}
use Rattle.packedwords.specs.Codes.{code, coded}
use Rattle.packedwords.specs.Packed.{packed_from, packed}
use Rattle.packedwords.proofs.Packing.{packed_at}
use Rattle.packedwords.proofs.Texts.{coded-codes}
use Rattle.packedwords.proofs.Windows.{window-lt}
use Rattle.acceptance.proofs.LineFacts.{word_fits}
use Rattle.table.specs.Table.{code_in}
use Rattle.tabulating.specs.Plain.{Plain}
use Rattle.trials.specs.PackedBlocks.{packable, six_blocks}

-- The codes that the keys give are those of the letters.
pub plain_codes : (t : List ℕ) → Plain t → (w : Word) → All (Letter 26) w → map (code_in t) w ≡ coded w
unfolding code
plain_codes t p [] done = refl
plain_codes t p (a ∷ w) (l also ls) =
    let key = p.keys a l in
    let least = l.least in
    let most = l.most in
    let is : code_in t a ≡ 123 - a = omega arith in
    ap₂ ◌∷◌ is (plain_codes t p w ls)

-- So the blocks of a word that is packed are those of the definition.
pub word-blocks : (t : List ℕ) → Plain t → (w : Word) (bs : List ℕ) → packable w ≡ true → bs ≡ packed 6 (map (code_in t) (take (length w) w))
    → bs ≡ six_blocks w
unfolding six_blocks
word-blocks t p w bs fits e =
    let letters = (word_fits 72 26 w fits).1 in
    e ∙ ap (λ (v : Word). packed 6 (map (code_in t) v)) (take-length w) ∙ ap (packed 6) (plain_codes t p w letters) ∙ sym (rw (six_blocks, fits))

-- Bytes that are none have six zeros.
pub no_blocks : (w : Word) (bs : List ℕ) → packable w ≡ false → bs ≡ replicate 6 0 → bs ≡ six_blocks w
unfolding six_blocks
no_blocks w bs fits e = e ∙ sym (rw (six_blocks, fits))

-- The first six entries, one by one.
abbrev pub first_six : List ℕ → List ℕ
first_six bs = get_or bs 0 0 ∷ get_or bs 1 0 ∷ get_or bs 2 0 ∷ get_or bs 3 0 ∷ get_or bs 4 0 ∷ get_or bs 5 0 ∷ []

-- What is answered has six.
pub six-entries : (w : Word) → first_six (six_blocks w) ≡ six_blocks w
unfolding six_blocks packed_from
six-entries w = go (packable w)
  where
    go : (b : Bool) → first_six (elim b [ true ↦ packed 6 (coded w) | false ↦ replicate 6 0 ]) ≡ elim b [ true ↦ packed 6 (coded w) | false ↦ replicate 6 0 ]
    go true = refl
    go false = refl

-- Each number has 60 bits.
pub blocks-low : (w : Word) (j : ℕ) → j < 6 → get_or (six_blocks w) j 0 < 2 ^ 60
unfolding six_blocks
blocks-low w j h = go (packable w) refl
  where
    go : (b : Bool) → packable w ≡ b → get_or (elim b [ true ↦ packed 6 (coded w) | false ↦ replicate 6 0 ]) j 0 < 2 ^ 60
    go true e = rw (packed_at 6 (coded w) j h) (window-lt (coded w) (coded-codes w (word_fits 72 26 w e).1) (12 * j))
    go false e = rw (get_or-replicate {A = ℕ} 6 j 0 0 h) (lit< tt)
