-- Blocks that pack a word: each is the word's block at its place, also behind the last; other rooms in which the same word stands.
use mathlib.Core.Path.{◌≡◌, refl, sym, ◌∙◌, ap, ap₂}
use mathlib.Core.List.{List, [], ◌∷◌, ◌++◌}
use Prim.Native.Nat.{ℕ, zero, suc, ◌+◌, ◌-◌, ◌*◌, ◌/◌, ◌%◌, ◌^◌, ◌≤◌, ◌<◌}
use native.Mathlib.Decide.{dec_lt}
use native.Mathlib.Omega.{arith}
use lib.ListN.{length, get_or, take, replicate, length-append, get_or-eq_default}
use lib.Seq.{get_or-take, length-take-le}
use Rattle.lists.proofs.Entries.{zeros_at}
use Rattle.packedwords.specs.Packed.{Blocks, window, window_of, unpacked, Packs}
use Rattle.packedwords.proofs.Packing.{packed_at, unpacked-codes, unpacked-length, packs_of}
use Rattle.packedwords.proofs.Windows.{window-lt, window-end, window-blocks}

module _ (n : ℕ) (bs : List ℕ) (h : Packs n bs) where
  -- Block j is the block of the twelve letters from 12 * j on, for every j: behind the last block both are 0.
  pub packs_any : (j : ℕ) → get_or bs j 0 ≡ window (unpacked n bs) (12 * j)
  packs_any j = go (dec_lt j (length bs))
    where
      go : Dec (j < length bs) → get_or bs j 0 ≡ window (unpacked n bs) (12 * j)
      go (yes l) = ap (λ (x : List ℕ). get_or x j 0) (sym h.clean) ∙ packed_at (length bs) (unpacked n bs) j l
      go (no l) =
          let o : length bs ≤ j = omega arith in
          let f = h.fits in
          get_or-eq_default bs 0 o ∙ sym (window-end (unpacked n bs) (12 * j) (omega (arith, unpacked-length n bs)))

  pub packs-blocks : Blocks bs
  packs-blocks j = rw (packs_any j) (window-lt (unpacked n bs) (unpacked-codes n bs) (12 * j))

  -- Twelve letters from any place on.
  pub packs-window : (i : ℕ) → window_of bs i ≡ window (unpacked n bs) i
  packs-window i =
      let w = unpacked n bs in
      let q = i / 12 in
      let r = i % 12 in
      let place : 12 * q + r ≡ i = omega arith in
      let next : 12 * (q + 1) ≡ 12 * q + 12 = omega arith in
      let up : 5 * r ≡ r * 5 = omega arith in
      let down : 5 * (12 - r) ≡ 60 - r * 5 = omega arith in
      ap₂ (λ (x y : ℕ). x * 2 ^ (r * 5) % 2 ^ 60 + y / 2 ^ (60 - r * 5)) (packs_any q) (packs_any (q + 1) ∙ ap (window w) next)
      ∙ sym (rw (place, up, down) at (window-blocks w (unpacked-codes n bs) (12 * q) r (12 - r) (omega arith)))

  -- The same word in fewer blocks, if it fits.
  pub packs-narrow : (k : ℕ) → k ≤ length bs → n ≤ 12 * k → Packs n (take k bs) × (unpacked n (take k bs) ≡ unpacked n bs)
  packs-narrow k l f =
      let e = length-take-le k bs l in
      packs_of (take k bs) (unpacked n bs) n (unpacked-codes n bs) (unpacked-length n bs) (omega arith)
      (λ j m. get_or-take k bs j 0 (omega arith) ∙ packs_any j)

  -- The same word in more blocks, of which the last are zeros.
  pub packs_widen : (k : ℕ) → Packs n (bs ++ replicate k 0) × (unpacked n (bs ++ replicate k 0) ≡ unpacked n bs)
  packs_widen k =
      let f = h.fits in
      packs_of (bs ++ replicate k 0) (unpacked n bs) n (unpacked-codes n bs) (unpacked-length n bs) (omega (arith, length-append bs (replicate k 0)))
      (λ j m. zeros-behind bs k j ∙ packs_any j)
    where
      zeros-behind : (xs : List ℕ) (m j : ℕ) → get_or (xs ++ replicate m 0) j 0 ≡ get_or xs j 0
      zeros-behind [] m j = zeros_at m j
      zeros-behind (x ∷ xs) m zero = refl
      zeros-behind (x ∷ xs) m (suc j) = zeros-behind xs m j
