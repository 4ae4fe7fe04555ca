-- Codes: a letter as a number that grows with the letter's rank, so that greater letters have greater codes.
use Rattle.std.specs.Prelude.{map, ℕ, ◌-◌}
use Rattle.words.specs.Word.{Word}

-- A code ranks by its own size.
abbrev pub itself : ℕ → ℕ
itself c = c

-- The code of the letter a..z with byte a: 26 for `a`, which is the greatest, down to 1 for `z`. The same takes a code back to its byte.
unfoldable pub code : ℕ → ℕ
code a = 123 - a

-- A word of letters as a word of codes; and back.
abbrev pub coded : Word → Word
coded w = map code w
