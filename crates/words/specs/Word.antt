-- Words.
use Rattle.std.specs.Prelude.{List, ◌++◌, ℕ, ◌+◌, ◌≤◌, ◌<◌}

-- A word is the list of its letters' bytes; the empty list is the empty word, which texts write `-`.
abbrev pub Word : Type 0
Word = List ℕ

-- The first n letters from `a` (byte 97) on: those that a package with n letters has in use.
pub record Letter (n a : ℕ) : Type 0 where
  pub least : 97 ≤ a
  pub most : a < 97 + n

-- left × word × right: words are multiplied by writing one after the other.
abbrev pub around : Word → Word → Word → Word
around left right w = left ++ (w ++ right)
