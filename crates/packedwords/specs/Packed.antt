-- Packed words: five bits for a letter, twelve letters in a number (a block), and of these the first letter in the highest bits.
-- A letter is its code, a number below 32. Behind the end of a word there are zeros, in a list (`get_or w i 0`) and in its blocks.
use Rattle.std.specs.Prelude.{◌≡◌, true, false, List, [], ◌∷◌, ℕ, zero, suc, ◌+◌, ◌-◌, ◌*◌, ◌/◌, ◌%◌, ◌^◌, ◌≤◌, ◌<◌, ltb, length, get_or}
use Rattle.words.specs.Word.{Word}

-- Every letter of w is a code.
abbrev pub Codes : Word → Type 0
Codes w = (i : ℕ) → get_or w i 0 < 32

-- No letter of w is 0, the code that stands behind an end.
abbrev pub Nonzero : Word → Type 0
Nonzero w = (i : ℕ) → i < length w → 1 ≤ get_or w i 0

-- n codes as one number: f 0 in the highest bits, f (n - 1) in the lowest five.
unfoldable pub value : (ℕ → ℕ) → ℕ → ℕ
value f zero = 0
value f (suc n) = value f n * 32 + f n

-- The block of the twelve letters of w from place i on.
abbrev pub window : Word → ℕ → ℕ
window w i = value (λ (j : ℕ). get_or w (i + j) 0) 12

-- k blocks, the first of them from place i of w on.
unfoldable pub packed_from : Word → ℕ → ℕ → List ℕ
packed_from w i zero = []
packed_from w i (suc k) = window w i ∷ packed_from w (i + 12) k

-- w packed into k blocks.
abbrev pub packed : ℕ → Word → List ℕ
packed k w = packed_from w 0 k

-- The letter at place i, read from the blocks.
unfoldable pub letter_of : List ℕ → ℕ → ℕ
letter_of bs i = get_or bs (i / 12) 0 / 2 ^ (5 * (11 - i % 12)) % 32

-- n letters, from place i on.
unfoldable pub unpacked_from : List ℕ → ℕ → ℕ → Word
unfolding letter_of
unpacked_from bs i zero = []
unpacked_from bs i (suc n) = letter_of bs i ∷ unpacked_from bs (suc i) n

-- The first n letters that blocks have.
abbrev pub unpacked : ℕ → List ℕ → Word
unpacked n bs = unpacked_from bs 0 n

-- Blocks pack a word of n letters: there is room for n, and the blocks are what that word is packed into. So each is below 2^60, and behind the
-- n letters all bits are 0.
pub record Packs (n : ℕ) (bs : List ℕ) : Type 0 where
  pub fits : n ≤ 12 * length bs
  pub clean : packed (length bs) (unpacked n bs) ≡ bs

-- Each number has at most the 60 bits of a block.
abbrev pub Blocks : List ℕ → Type 0
Blocks bs = (j : ℕ) → get_or bs j 0 < 2 ^ 60

-- Twelve letters from place i on, from the two blocks that they stand in: the end of the first, moved up, and the front of the second, moved down.
abbrev pub window_of : List ℕ → ℕ → ℕ
window_of bs i =
    get_or bs (i / 12) 0 * 2 ^ (i % 12 * 5) % 2 ^ 60 + get_or bs (i / 12 + 1) 0 / 2 ^ (60 - i % 12 * 5)

-- The first r letters of a block, with zeros behind them; all of it where r is at least 12.
unfoldable pub front : ℕ → ℕ → ℕ
front x r = elim (ltb r 12) [ true ↦ x / 2 ^ (60 - r * 5) * 2 ^ (60 - r * 5) | false ↦ x ]
