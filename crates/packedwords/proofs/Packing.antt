-- Packing and unpacking, entry by entry: unpacking undoes packing, so no two words of one length have the same blocks.
use mathlib.Core.Path.{◌≡◌, refl, sym, ◌∙◌, ap, ap₂}
use mathlib.Core.List.{List}
use Prim.Native.Nat.{ℕ, zero, suc, ◌+◌, ◌-◌, ◌*◌, ◌/◌, ◌%◌, ◌^◌, ◌≤◌, ◌<◌}
use native.Mathlib.Nat.{add-zero, mod-lt}
use native.Mathlib.Decide.{dec_lt}
use native.Mathlib.Omega.{arith}
use lib.ListN.{length, get_or, get_or-eq_default}
use lib.Seq.{ext_get_or}
use Rattle.words.specs.Word.{Word}
use Rattle.packedwords.specs.Packed.{Codes, value, window, packed_from, packed, letter_of, unpacked_from, unpacked, Packs}
use Rattle.packedwords.proofs.Values.{value-front}

-- Blocks.

length_from : (w : Word) (i k : ℕ) → length (packed_from w i k) ≡ k
unfolding packed_from
length_from w i zero = refl
length_from w i (suc k) = ap suc (length_from w (i + 12) k)

at_from : (w : Word) (i k j : ℕ) → j < k → get_or (packed_from w i k) j 0 ≡ window w (i + 12 * j)
unfolding packed_from
at_from w i zero j h = absurd (omega arith)
at_from w i (suc k) zero h = ap (window w) (sym (add-zero i))
at_from w i (suc k) (suc j) h = at_from w (i + 12) k j (omega arith) ∙ ap (window w) (omega arith)

pub packed-length : (k : ℕ) (w : Word) → length (packed k w) ≡ k
packed-length k w = length_from w 0 k

pub packed_at : (k : ℕ) (w : Word) (j : ℕ) → j < k → get_or (packed k w) j 0 ≡ window w (12 * j)
packed_at k w j h = at_from w 0 k j h ∙ ap (window w) (omega arith)

-- Numbers each of which is the block of w at its place are w packed.
pub packed_unique : (bs : List ℕ) (w : Word) → ((j : ℕ) → j < length bs → get_or bs j 0 ≡ window w (12 * j)) → bs ≡ packed (length bs) w
packed_unique bs w h =
    ext_get_or 0 bs (packed (length bs) w) (sym (packed-length (length bs) w)) (λ j l. h j l ∙ sym (packed_at (length bs) w j l))

-- Letters.

unfrom_length : (bs : List ℕ) (i n : ℕ) → length (unpacked_from bs i n) ≡ n
unfolding unpacked_from
unfrom_length bs i zero = refl
unfrom_length bs i (suc n) = ap suc (unfrom_length bs (suc i) n)

unfrom_at : (bs : List ℕ) (i n j : ℕ) → j < n → get_or (unpacked_from bs i n) j 0 ≡ letter_of bs (i + j)
unfolding unpacked_from
unfrom_at bs i zero j h = absurd (omega arith)
unfrom_at bs i (suc n) zero h = ap (letter_of bs) (sym (add-zero i))
unfrom_at bs i (suc n) (suc j) h = unfrom_at bs (suc i) n j (omega arith) ∙ ap (letter_of bs) (omega arith)

pub unpacked-length : (n : ℕ) (bs : List ℕ) → length (unpacked n bs) ≡ n
unpacked-length n bs = unfrom_length bs 0 n

pub unpacked_at : (n : ℕ) (bs : List ℕ) (i : ℕ) → i < n → get_or (unpacked n bs) i 0 ≡ letter_of bs i
unpacked_at n bs i h = unfrom_at bs 0 n i h ∙ ap (letter_of bs) (omega arith)

letter-lt : (bs : List ℕ) (i : ℕ) → letter_of bs i < 32
unfolding letter_of
letter-lt bs i = mod-lt (get_or bs (i / 12) 0 / 2 ^ (5 * (11 - i % 12))) (omega arith)

-- Whatever the numbers are, what is unpacked from them are codes.
pub unpacked-codes : (n : ℕ) (bs : List ℕ) → Codes (unpacked n bs)
unpacked-codes n bs i = go (dec_lt i n)
  where
    go : Dec (i < n) → get_or (unpacked n bs) i 0 < 32
    go (yes h) = rw (unpacked_at n bs i h) (letter-lt bs i)
    go (no h) =
        let end : length (unpacked n bs) ≤ i = omega (arith, unpacked-length n bs) in
        rw (get_or-eq_default (unpacked n bs) 0 end) (omega arith)

-- Both.

-- code j of twelve: those behind it are moved out, those before it are cut off
value-letter : (f : ℕ → ℕ) → ((j : ℕ) → f j < 32) → (j : ℕ) → j < 12 → value f 12 / 2 ^ (5 * (11 - j)) % 32 ≡ f j
unfolding value
value-letter f p j h =
    let e : suc j + (11 - j) ≡ 12 = omega arith in
    ap (λ (x : ℕ). x % 32) (rw e at (value-front f p (suc j) (11 - j))) ∙ last (value f j) (f j) (p j)
  where
    last : (x y : ℕ) → y < 32 → (x * 32 + y) % 32 ≡ y
    last x y l = omega arith

module _ (w : Word) (c : Codes w) (k : ℕ) where
  letter-packed : (i : ℕ) → i < 12 * k → letter_of (packed k w) i ≡ get_or w i 0
  unfolding letter_of
  letter-packed i h =
      let q = i / 12 in
      let d : 12 * q + i % 12 ≡ i = omega arith in
      ap (λ (x : ℕ). x / 2 ^ (5 * (11 - i % 12)) % 32) (packed_at k w q (omega arith))
      ∙ value-letter (λ (j : ℕ). get_or w (12 * q + j) 0) (λ j. c (12 * q + j)) (i % 12) (omega arith)
      ∙ ap (λ (x : ℕ). get_or w x 0) d

  -- A word that fits is unpacked from its own blocks.
  pub unpacked-packed : length w ≤ 12 * k → unpacked (length w) (packed k w) ≡ w
  unpacked-packed h =
      let l = unpacked-length (length w) (packed k w) in
      ext_get_or 0 (unpacked (length w) (packed k w)) w l
      (λ i m. unpacked_at (length w) (packed k w) i (omega arith) ∙ letter-packed i (omega arith))

  pub packed-packs : length w ≤ 12 * k → Packs (length w) (packed k w)
  packed-packs h = record {
    fits = omega (arith, packed-length k w);
    clean = ap₂ packed (packed-length k w) (unpacked-packed h);
  }

-- Two words of one length that fit are equal if their blocks are.
pub packed_injective : (k : ℕ) (u v : Word) → Codes u → Codes v → length u ≡ length v → length u ≤ 12 * k → packed k u ≡ packed k v → u ≡ v
packed_injective k u v c d e h s =
    sym (unpacked-packed u c k h) ∙ ap₂ unpacked e s ∙ unpacked-packed v d k (rw e at h)

-- Numbers each of which is the block of w at its place pack w, and w is what is unpacked from them.
pub packs_of : (bs : List ℕ) (w : Word) (n : ℕ) → Codes w → length w ≡ n → n ≤ 12 * length bs
    → ((j : ℕ) → j < length bs → get_or bs j 0 ≡ window w (12 * j)) → Packs n bs × (unpacked n bs ≡ w)
packs_of bs w n c e h p =
    let s = packed_unique bs w p in
    let u : unpacked n bs ≡ w = ap₂ unpacked (sym e) s ∙ unpacked-packed w c (length bs) (omega arith) in
    (record { fits = h; clean = ap (packed (length bs)) u ∙ sym s }, u)
