-- Blocks compared one after the other as numbers say what letters compared one after the other say.
use mathlib.Core.Path.{◌≡◌, refl, sym, ◌∙◌, ap, ap₂}
use mathlib.Core.List.{List}
use Prim.Native.Nat.{ℕ, zero, suc, ◌+◌, ◌*◌, ◌≤◌, ◌<◌}
use native.Mathlib.Nat.{add-zero, add-suc}
use native.Mathlib.Decide.{dec_lt}
use native.Mathlib.Omega.{arith}
use lib.ListN.{length, get_or, drop, drop_of_length-le, get_or-eq_default}
use lib.Seq.{drop-cons}
use Rattle.std.specs.declared.cmp.Ordering.{Ordering}
use Rattle.std.specs.declared.cmp.Ordering.TheVariants.{Equal}
use Rattle.words.specs.Word.{Word}
use Rattle.words.specs.Order.{by_number_of, by_letters}
use Rattle.words.proofs.Lexicographic.{number-less, number-greater, number_same}
use Rattle.packedwords.specs.Codes.{itself}
use Rattle.packedwords.specs.Packed.{Codes, Nonzero, value, window, packed_from, packed, unpacked, Packs}
use Rattle.packedwords.proofs.Packing.{unpacked-codes, unpacked-length}

-- Where a code is put behind each of two numbers, the numbers decide, and where they agree the codes.
last_code : (x y a b : ℕ) (c : Ordering) → a < 32 → b < 32 → by_number_of (x * 32 + a) (y * 32 + b) c ≡ by_number_of x y (by_number_of a b c)
last_code x y a b c p q = go (dec_lt x y) (dec_lt y x) (dec_lt a b) (dec_lt b a)
  where
    go : Dec (x < y) → Dec (y < x) → Dec (a < b) → Dec (b < a) → by_number_of (x * 32 + a) (y * 32 + b) c ≡ by_number_of x y (by_number_of a b c)
    go (yes l) _ _ _ = number-less c (omega arith) ∙ sym (number-less _ l)
    go (no _) (yes l) _ _ = number-greater c (omega arith) ∙ sym (number-greater _ l)
    go (no k) (no l) (yes m) _ = number-less c (omega arith) ∙ sym (number_same _ (omega arith) ∙ number-less c m)
    go (no k) (no l) (no _) (yes m) = number-greater c (omega arith) ∙ sym (number_same _ (omega arith) ∙ number-greater c m)
    go (no k) (no l) (no m) (no o) = number_same c (omega arith) ∙ sym (number_same _ (omega arith) ∙ number_same c (omega arith))

module _ (u v : Word) where
  -- what the letters from place i on say
  abbrev from : ℕ → Ordering
  from i = by_letters itself (drop i u) (drop i v)

  -- The letters at place i decide, and where they agree those behind.
  abbrev pub Decides : ℕ → Type 0
  Decides i = by_number_of (get_or u i 0) (get_or v i 0) (from (suc i)) ≡ from i

  pub decides_inside : (i : ℕ) → i < length u → i < length v → Decides i
  unfolding by_letters
  decides_inside i h k = rw (drop-cons u i 0 h, drop-cons v i 0 k)

  -- behind both ends: zeros on both sides
  decides_behind : (i : ℕ) → length u ≤ i → length v ≤ i → Decides i
  unfolding by_letters
  decides_behind i h k =
      let s : length u ≤ suc i = omega arith in
      let t : length v ≤ suc i = omega arith in
      let x = get_or-eq_default u 0 h in
      let y = get_or-eq_default v 0 k in
      rw (x, y, drop_of_length-le u h, drop_of_length-le v k, drop_of_length-le u s, drop_of_length-le v t)
      (number_same {m = 0} Equal refl)

  decides_level : length u ≡ length v → (i : ℕ) → Decides i
  decides_level e i = go (dec_lt i (length u))
    where
      go : Dec (i < length u) → Decides i
      go (yes h) = decides_inside i h (omega arith)
      go (no h) = decides_behind i (omega arith) (omega arith)

  -- behind one end: a zero against a letter, which is greater
  decides_nonzero : Nonzero u → Nonzero v → (i : ℕ) → Decides i
  unfolding by_letters
  decides_nonzero p q i = go (dec_lt i (length u)) (dec_lt i (length v))
    where
      go : Dec (i < length u) → Dec (i < length v) → Decides i
      go (yes h) (yes k) = decides_inside i h k
      go (no h) (no k) = decides_behind i (omega arith) (omega arith)
      go (yes h) (no k) =
          let l : length v ≤ i = omega arith in
          let g : get_or v i 0 < get_or u i 0 = omega (arith, get_or-eq_default v 0 l, p i h) in
          number-greater _ g ∙ sym (rw (drop-cons u i 0 h, drop_of_length-le v l))
      go (no h) (yes k) =
          let l : length u ≤ i = omega arith in
          let g : get_or u i 0 < get_or v i 0 = omega (arith, get_or-eq_default u 0 l, q i k) in
          number-less _ g ∙ sym (rw (drop-cons v i 0 k, drop_of_length-le u l))

  module _ (c : Codes u) (d : Codes v) (s : (i : ℕ) → Decides i) where
    -- r letters from place i on, as numbers, decide, and where these agree the letters behind
    letters-number : (i r : ℕ) → by_number_of (value (λ (j : ℕ). get_or u (i + j) 0) r) (value (λ (j : ℕ). get_or v (i + j) 0) r) (from (i + r)) ≡ from i
    unfolding value
    letters-number i zero = rw (add-zero i) (number_same _ refl)
    letters-number i (suc r) =
        let x = value (λ (j : ℕ). get_or u (i + j) 0) r in
        let y = value (λ (j : ℕ). get_or v (i + j) 0) r in
        rw (add-suc i r)
        (last_code x y (get_or u (i + r) 0) (get_or v (i + r) 0) (from (suc (i + r))) (c (i + r)) (d (i + r))
        ∙ ap (by_number_of x y) (s (i + r)) ∙ letters-number i r)

    blocks_from : (k i : ℕ) → length u ≤ i + 12 * k → length v ≤ i + 12 * k → by_letters itself (packed_from u i k) (packed_from v i k) ≡ from i
    unfolding packed_from by_letters
    blocks_from zero i h m =
        let a : length u ≤ i = omega arith in
        let b : length v ≤ i = omega arith in
        rw (drop_of_length-le u a, drop_of_length-le v b)
    blocks_from (suc k) i h m =
        ap (by_number_of (window u i) (window v i)) (blocks_from k (i + 12) (omega arith) (omega arith)) ∙ letters-number i 12

-- Two words of one length.
pub level_order : (k : ℕ) (u v : Word) → Codes u → Codes v → length u ≡ length v → length u ≤ 12 * k
    → by_letters itself (packed k u) (packed k v) ≡ by_letters itself u v
level_order k u v c d e h = blocks_from u v c d (decides_level u v e) k 0 (omega arith) (omega arith)

-- Two words of any lengths, where no letter is 0.
pub nonzero-order : (k : ℕ) (u v : Word) → Codes u → Codes v → Nonzero u → Nonzero v → length u ≤ 12 * k → length v ≤ 12 * k
    → by_letters itself (packed k u) (packed k v) ≡ by_letters itself u v
nonzero-order k u v c d p q h m = blocks_from u v c d (decides_nonzero u v p q) k 0 (omega arith) (omega arith)

-- Two rooms of as many blocks, which pack words of one length.
pub held-order : (n : ℕ) (bs cs : List ℕ) → length bs ≡ length cs → Packs n bs → Packs n cs
    → by_letters itself bs cs ≡ by_letters itself (unpacked n bs) (unpacked n cs)
held-order n bs cs e h k =
    let u = unpacked n bs in
    let v = unpacked n cs in
    let l = unpacked-length n bs in
    let f = h.fits in
    ap₂ (by_letters itself) (sym h.clean) (sym k.clean ∙ ap (λ (x : ℕ). packed x v) (sym e))
    ∙ level_order (length bs) u v (unpacked-codes n bs) (unpacked-codes n cs) (l ∙ sym (unpacked-length n cs)) (omega arith)
