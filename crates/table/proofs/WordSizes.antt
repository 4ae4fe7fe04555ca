-- What the size of a packed word says: how many letters it has, and, where each letter weighs 1, that it weighs as much.
use mathlib.Core.Path.{◌≡◌, refl, sym, ◌∙◌}
use mathlib.Core.List.{List, [], ◌∷◌}
use Prim.Native.Nat.{ℕ, suc, ◌*◌, ◌/◌, ◌%◌, ◌≤◌}
use native.Mathlib.Omega.{arith}
use lib.ListN.{length, length-map}
use Rattle.words.specs.Word.{Word}
use Rattle.words.specs.Weighted.{weight}
use Rattle.packedwords.specs.Packed.{Codes, unpacked, Packs}
use Rattle.packedwords.proofs.Packing.{unpacked-codes, unpacked-length}
use Rattle.table.specs.Table.{letter_in, weight_in}
use Rattle.table.specs.Words.{word_of, Held, Keys}

pub word_size : (t : List ℕ) (z : ℕ) (bs : List ℕ) → length (word_of t z bs) ≡ z % 256
word_size t z bs = length-map (unpacked (z % 256) bs) (letter_in t) ∙ unpacked-length (z % 256) bs

module _ (t : List ℕ) (keys : Keys t) where
  pub even-weight : (u : Word) → Codes u → weight (weight_in t) u ≡ length u
  unfolding weight
  even-weight [] c = refl
  even-weight (a ∷ u) c = let first = keys.even a (c 0) in let rest = even-weight u (λ i. c (suc i)) in omega arith

  pub held-weight : (z : ℕ) (bs : List ℕ) → Held t z bs → z / 256 ≡ z % 256
  held-weight z bs h = h.weighed ∙ even-weight (unpacked (z % 256) bs) (unpacked-codes (z % 256) bs) ∙ unpacked-length (z % 256) bs

  -- So a word's size is 257 × length.
  pub even-size : (z : ℕ) (bs : List ℕ) → Held t z bs → z ≡ 257 * (z % 256)
  even-size z bs h = let e = held-weight z bs h in omega arith

  pub even-held : (n : ℕ) (bs : List ℕ) → n ≤ 72 → Packs n bs → Held t (257 * n) bs
  even-held n bs short p =
      let letters : 257 * n % 256 ≡ n = omega arith in
      let heavy : 257 * n / 256 ≡ n = omega (arith, letters) in
      let u = unpacked n bs in
      record {
        packs = rw letters p;
        weighed = heavy ∙ rw letters (sym (even-weight u (unpacked-codes n bs) ∙ unpacked-length n bs));
      }
