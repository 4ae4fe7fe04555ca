-- Three held words one behind the other: their product is held, and its size is the sum of the three.
use mathlib.Core.Path.{◌≡◌, refl, sym, ◌∙◌, ap}
use mathlib.Core.List.{List, [], ◌∷◌, ◌++◌, map}
use Prim.Native.Nat.{ℕ, zero, suc, ◌+◌, ◌*◌, ◌/◌, ◌%◌, ◌≤◌, ◌<◌}
use native.Mathlib.Omega.{arith}
use lib.ListN.{length, take, drop}
use Rattle.words.specs.Word.{Word, around}
use Rattle.words.specs.Weighted.{weight}
use Rattle.words.proofs.Weights.{weight-append}
use Rattle.packedwords.specs.Packed.{Codes, unpacked, Packs}
use Rattle.packedwords.proofs.Packing.{unpacked-codes, unpacked-length}
use Rattle.table.specs.Polynomials.{word_in}
use Rattle.table.specs.Table.{letter_in, weight_in, terms_in, size_in, blocks_in}
use Rattle.table.specs.Tabled.{Tabled}
use Rattle.table.specs.Words.{word_of, Held, Keys, Built}

map-append : (f : ℕ → ℕ) (u v : Word) → map f (u ++ v) ≡ map f u ++ map f v
map-append f [] v = refl
map-append f (a ∷ u) v = ap (λ (w : Word). f a ∷ w) (map-append f u v)

weight-most : (f : ℕ → ℕ) → ((c : ℕ) → c < 32 → f c ≤ 65535) → (u : Word) → Codes u → weight f u ≤ 65535 * length u
unfolding weight
weight-most f h [] codes = omega arith
weight-most f h (a ∷ u) codes = omega (arith, weight-most f h u (λ i. codes (suc i)), h a (codes zero))

held-weight : (t : List ℕ) → Keys t → (z : ℕ) (bs : List ℕ) → Held t z bs → z / 256 ≤ 65535 * (z % 256)
held-weight t keys z bs h =
    let u = unpacked (z % 256) bs in
    let most = weight-most (weight_in t) keys.light u (unpacked-codes (z % 256) bs) in
    omega (arith, most, unpacked-length (z % 256) bs, h.weighed)

module _ (t : List ℕ) (keys : Keys t) (x y z : ℕ) (bs cs ds : List ℕ) (f : Held t x bs) (g : Held t y cs) (h : Held t z ds)
    (short : x % 256 + y % 256 + z % 256 ≤ 72) where
  abbrev size : ℕ
  size = x + y + z

  pub sum_low : size < 4294967296
  sum_low =
      let a = held-weight t keys x bs f in
      let b = held-weight t keys y cs g in
      let c = held-weight t keys z ds h in
      omega arith

  sum-letters : size % 256 ≡ x % 256 + y % 256 + z % 256
  sum-letters = omega arith

  sum-weights : size / 256 ≡ x / 256 + (y / 256 + z / 256)
  sum-weights = omega arith

  abbrev u : Word
  u = unpacked (x % 256) bs

  abbrev v : Word
  v = unpacked (y % 256) cs

  abbrev r : Word
  r = unpacked (z % 256) ds

  product-weight : size / 256 ≡ weight (weight_in t) (around u r v)
  product-weight =
      omega (arith, sum-weights, f.weighed, g.weighed, h.weighed, weight-append (weight_in t) u (v ++ r), weight-append (weight_in t) v r)

  module _ (n : ℕ) (p : List ℕ) (e : n ≡ x % 256 + y % 256 + z % 256) (nine : length p ≡ 9) (packs : Packs n p) (word : unpacked n p ≡ around u r v) where
    same : n ≡ size % 256
    same = e ∙ sym sum-letters

    pub sum-built : Built t size p
    sum-built = record {
      nine = nine;
      short = omega (arith, sum-letters);
      low = sum_low;
      held = record {
        packs = rw same at packs;
        weighed = product-weight ∙ ap (weight (weight_in t)) (sym word) ∙ ap (λ (k : ℕ). weight (weight_in t) (unpacked k p)) same;
      };
    }

    pub sum-word : word_of t size p ≡ around (word_of t x bs) (word_of t z ds) (word_of t y cs)
    sum-word =
        ap (λ (k : ℕ). map (letter_in t) (unpacked k p)) (sym same)
        ∙ ap (map (letter_in t)) word
        ∙ map-append (letter_in t) u (v ++ r)
        ∙ ap (λ (s : Word). map (letter_in t) u ++ s) (map-append (letter_in t) v r)

-- The word of term i of the table, of size z in two blocks from entry `from` on.
module _ (t : List ℕ) (tabled : Tabled t) (i : ℕ) (h : i < terms_in t) (z from : ℕ) (e : z ≡ size_in t i) (d : take 2 (drop from t) ≡ blocks_in t i) where
  pub term-held : Held t z (take 2 (drop from t))
  term-held = rw (e, d) (tabled.held i h)

  pub term-word : word_of t z (take 2 (drop from t)) ≡ word_in t i
  term-word = rw (e, d)
