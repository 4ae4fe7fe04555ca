-- Products that a place can take.
use Rattle.std.specs.Prelude.{List, ℕ, ◌+◌, ◌%◌, ◌≤◌, ◌<◌}
use Rattle.table.specs.Table.{size_in}

-- Left × word × right has at most 72 letters, for each term of the table from first on, before end, where left has the size a and right b.
pub record Fits (t : List ℕ) (a b first end : ℕ) : Type 0 where
  pub short : (i : ℕ) → first ≤ i → i < end → a % 256 + size_in t i % 256 + b % 256 ≤ 72
