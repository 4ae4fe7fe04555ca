-- Words as a table's codes have them: a size, 256 × weight + number of letters, and blocks of twelve codes.
use Rattle.std.specs.Prelude.{◌≡◌, List, map, ℕ, ◌+◌, ◌/◌, ◌%◌, ◌≤◌, ◌<◌, length, take}
use Rattle.words.specs.Word.{Word, Letter}
use Rattle.words.specs.Order.{Admissible, by_number_of, by_letters}
use Rattle.words.specs.Weighted.{weight}
use Rattle.algebra.specs.Ideal.{Line}
use Rattle.packedwords.specs.Codes.{itself}
use Rattle.packedwords.specs.Packed.{unpacked, Packs}
use Rattle.table.specs.Table.{order_in, code_in, key_weight_in, letter_in, weight_in}

-- The word of size z that blocks stand for, in letters.
abbrev pub word_of : List ℕ → ℕ → List ℕ → Word
word_of t z bs = map (letter_in t) (unpacked (z % 256) bs)

-- The line x × left × (polynomial number g) × right, whose words of the sizes a and b are in blocks.
abbrev pub line_of : List ℕ → ℕ → ℕ → List ℕ → ℕ → ℕ → List ℕ → Line
line_of t x a left g b right = record { coef = x; left = word_of t a left; of = g; right = word_of t b right }

-- The blocks hold a word of size z: they are what its codes are packed into, and the size has the weight of these.
pub record Held (t : List ℕ) (z : ℕ) (bs : List ℕ) : Type 0 where
  pub packs : Packs (z % 256) bs
  pub weighed : z / 256 ≡ weight (weight_in t) (unpacked (z % 256) bs)

-- How many blocks the letters of a word of size z take.
abbrev pub block_count : ℕ → ℕ
block_count z = (z % 256 + 11) / 12

-- The table's order is admissible, and it is that of the numbers: weights decide, and where they are equal the blocks, of which as many count as the first word takes.
pub record Suits (t : List ℕ) : Type 0 where
  pub admissible : Admissible (order_in t)
  pub compares : (y z : ℕ) (u v : List ℕ) → length u ≡ 6 → length v ≡ 6 → Held t y u → Held t z v
      → order_in t (word_of t y u) (word_of t z v) ≡ by_number_of (y / 256) (z / 256) (by_letters itself (take (block_count y) u) (take (block_count y) v))

-- The key of the letter a agrees with what stands at its code, which is not 0 and leads back to the letter and its weight.
pub record Keyed (t : List ℕ) (a : ℕ) : Type 0 where
  pub some : 1 ≤ code_in t a
  pub letter : letter_in t (code_in t a) ≡ a
  pub weighed : weight_in t (code_in t a) ≡ key_weight_in t a

-- Each letter `a` to `z` has its key; no two codes stand for one letter; no code weighs so much that a size would not fit 32 bits, and as yet
-- each weighs 1.
pub record Keys (t : List ℕ) : Type 0 where
  pub keyed : (a : ℕ) → Letter 26 a → Keyed t a
  pub own : (c d : ℕ) → c < 32 → d < 32 → letter_in t c ≡ letter_in t d → c ≡ d
  pub even : (c : ℕ) → c < 32 → weight_in t c ≡ 1
  pub light : (c : ℕ) → c < 32 → weight_in t c ≤ 65535

-- A word of at most 72 letters in six blocks.
pub record Sixfold (t : List ℕ) (z : ℕ) (bs : List ℕ) : Type 0 where
  pub six : length bs ≡ 6
  pub short : z % 256 ≤ 72
  pub held : Held t z bs

-- A word of at most 72 letters in a room of nine blocks, where products are made; its size has 32 bits.
pub record Built (t : List ℕ) (z : ℕ) (bs : List ℕ) : Type 0 where
  pub nine : length bs ≡ 9
  pub short : z % 256 ≤ 72
  pub low : z < 4294967296
  pub held : Held t z bs
