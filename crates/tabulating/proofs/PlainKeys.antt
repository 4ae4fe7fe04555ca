-- The keys of document 01's order, stored and kept: they are keys, and they suit the order.
use mathlib.Core.Path.{◌≡◌, refl, sym, ◌∙◌, ap, ap₂}
use mathlib.Core.List.{List, [], ◌∷◌, map}
use Prim.Native.Nat.{ℕ, suc, ◌+◌, ◌-◌, ◌/◌, ◌%◌, ◌<◌}
use native.Mathlib.Decide.{dec_lt}
use native.Mathlib.Omega.{arith}
use lib.ListN.{length, get_or, take}
use lib.Seq.{length-take-le}
use Rattle.words.specs.Word.{Word, Letter}
use Rattle.words.specs.Order.{by_number_of, by_letters, word_order}
use Rattle.words.proofs.Lexicographic.{number-less, number-greater, number_same}
use Rattle.words.proofs.WordOrder.{word-order-admissible}
use Rattle.packedwords.specs.Codes.{itself, code, coded}
use Rattle.packedwords.specs.Packed.{Codes, unpacked, Packs}
use Rattle.packedwords.proofs.Packing.{unpacked-codes}
use Rattle.packedwords.proofs.Blocks.{packs-narrow}
use Rattle.packedwords.proofs.Texts.{place-order}
use Rattle.table.specs.Table.{order_in, code_in, letter_in}
use Rattle.table.specs.Words.{word_of, Held, block_count, Suits, Keyed, Keys}
use Rattle.table.proofs.WordSizes.{word_size, held-weight}
use Rattle.tabulating.specs.Filled.{Filled}
use Rattle.tabulating.specs.Plain.{Plain}

-- The two sections stored.
pub plain_stored : (s t u : List ℕ) → Filled 17 26 (λ k. 58 - k) s t → Filled 48 32 (λ k. 379 - k) t u → Plain u
plain_stored s t u f g = record {
  letters = λ c h. let e = g.inside c h in omega arith;
  weights = λ c h. let e = g.inside c h in omega arith;
  keys = λ a p.
      let least = p.least in
      let most = p.most in
      let place : 16 + a % 32 ≡ 17 + (a - 97) = omega arith in
      g.below (16 + a % 32) (omega arith) ∙ ap (λ (k : ℕ). get_or t k 0) place ∙ f.inside (a - 97) (omega arith) ∙ omega arith;
}

pub plain_kept : (t u : List ℕ) → ((k : ℕ) → k < 80 → get_or u k 0 ≡ get_or t k 0) → Plain t → Plain u
plain_kept t u kept p = record {
  letters = λ c h. ap (λ (x : ℕ). x % 256) (kept (48 + c) (omega arith)) ∙ p.letters c h;
  weights = λ c h. ap (λ (x : ℕ). x / 256) (kept (48 + c) (omega arith)) ∙ p.weights c h;
  keys = λ a l. kept (16 + a % 32) (omega arith) ∙ p.keys a l;
}

module _ (t : List ℕ) (p : Plain t) where
  plain_keyed : (a : ℕ) → Letter 26 a → Keyed t a
  plain_keyed a l =
      let least = l.least in
      let most = l.most in
      let key = p.keys a l in
      let is : code_in t a ≡ 123 - a = omega arith in
      let low : code_in t a < 32 = omega arith in
      record {
        some = omega arith;
        letter = p.letters (code_in t a) low ∙ omega arith;
        weighed = p.weights (code_in t a) low ∙ omega arith;
      }

  pub plain_keys : Keys t
  plain_keys = record {
    keyed = plain_keyed;
    own = λ c d h k e. let a = p.letters c h in let b = p.letters d k in omega arith;
    even = p.weights;
    light = λ c h. let e = p.weights c h in omega arith;
  }

  letters-coded : (w : Word) → Codes w → map (letter_in t) w ≡ coded w
  unfolding code
  letters-coded [] c = refl
  letters-coded (a ∷ w) c = ap₂ ◌∷◌ (p.letters a (c 0)) (letters-coded w (λ i. c (suc i)))

  word-coded : (z : ℕ) (bs : List ℕ) → word_of t z bs ≡ coded (unpacked (z % 256) bs)
  word-coded z bs = letters-coded (unpacked (z % 256) bs) (unpacked-codes (z % 256) bs)

  module _ (y z : ℕ) (u v : List ℕ) (six : length u ≡ 6) (six' : length v ≡ 6) (h : Held t y u) (k : Held t z v) where
    -- words of n letters each: the blocks that these take decide
    level : (n b : ℕ) → y % 256 ≡ n → z % 256 ≡ n → b ≡ block_count y
        → word_order (word_of t y u) (word_of t z v) ≡ by_letters itself (take b u) (take b v)
    level n b e f c =
        let packs : Packs n u = rw e at h.packs in
        let packs' : Packs n v = rw f at k.packs in
        let fits = packs.fits in
        let narrow = packs-narrow n u packs b (omega arith) (omega arith) in
        let narrow' = packs-narrow n v packs' b (omega arith) (omega arith) in
        ap₂ word_order
        (word-coded y u ∙ ap (λ (x : ℕ). coded (unpacked x u)) e ∙ ap coded (sym narrow.1))
        (word-coded z v ∙ ap (λ (x : ℕ). coded (unpacked x v)) f ∙ ap coded (sym narrow'.1))
        ∙ place-order n (take b u) (take b v) (length-take-le b u (omega arith) ∙ sym (length-take-le b v (omega arith))) narrow.0 narrow'.0

    -- words of different lengths have different weights
    plain_compares : order_in t (word_of t y u) (word_of t z v)
        ≡ by_number_of (y / 256) (z / 256) (by_letters itself (take (block_count y) u) (take (block_count y) v))
    unfolding word_order
    plain_compares = go (dec_lt (y % 256) (z % 256)) (dec_lt (z % 256) (y % 256))
      where
        go : Dec (y % 256 < z % 256) → Dec (z % 256 < y % 256) → order_in t (word_of t y u) (word_of t z v)
            ≡ by_number_of (y / 256) (z / 256) (by_letters itself (take (block_count y) u) (take (block_count y) v))
        go (yes l) _ =
            let letters : length (word_of t y u) < length (word_of t z v) = omega (arith, word_size t y u, word_size t z v) in
            let weights : y / 256 < z / 256 = omega (arith, held-weight t plain_keys y u h, held-weight t plain_keys z v k) in
            number-less _ letters ∙ sym (number-less _ weights)
        go (no _) (yes l) =
            let letters : length (word_of t z v) < length (word_of t y u) = omega (arith, word_size t y u, word_size t z v) in
            let weights : z / 256 < y / 256 = omega (arith, held-weight t plain_keys y u h, held-weight t plain_keys z v k) in
            number-greater _ letters ∙ sym (number-greater _ weights)
        go (no l) (no m) =
            let same : z % 256 ≡ y % 256 = omega arith in
            let weights : y / 256 ≡ z / 256 = omega (arith, held-weight t plain_keys y u h, held-weight t plain_keys z v k) in
            level (y % 256) (block_count y) refl same refl ∙ sym (number_same _ weights)

  pub plain_suits : Suits t
  plain_suits = record { admissible = word-order-admissible; compares = plain_compares }
